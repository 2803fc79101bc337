use Rattle.std.proofs.Common.{◌≡◌, ◌++◌, take, drop}
use Rattle.buffers.proofs.move_down.Given as goal

-- i bytes from n on stand over the front of dst
abbrev pub invariant-loop-i : goal.invariant-loop-i
invariant-loop-i l = l.dst ≡ take l.i (drop l.n l.initial.dst) ++ drop l.i l.initial.dst
