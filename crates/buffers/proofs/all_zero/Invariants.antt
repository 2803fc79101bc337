use Rattle.std.proofs.Common.{◌≡◌, length}
use Rattle.lists.specs.Lists.{all_zero}
use Rattle.buffers.proofs.all_zero.Given as goal

-- the bytes to come are all zero just where the whole is
abbrev pub invariant-loop-part : goal.invariant-loop-part
invariant-loop-part l = all_zero l.rest ≡ all_zero l.s

abbrev pub decreases-loop-part : goal.decreases-loop-part
decreases-loop-part l = length l.rest
