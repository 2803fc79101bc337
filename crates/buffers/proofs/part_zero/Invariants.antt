use Rattle.std.proofs.Common.{◌≡◌, ◌&&◌, eqb, drop}
use Rattle.lists.specs.Lists.{all_zero}
use Rattle.buffers.proofs.part_zero.Given as goal

-- the bytes joined so far and the bytes to come are all zero just where the whole is
abbrev pub invariant-loop-b : goal.invariant-loop-b
invariant-loop-b l = eqb l.all 0 && all_zero (drop l.b-index l.s) ≡ all_zero l.s
