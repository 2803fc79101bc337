use Rattle.std.proofs.Common.{◌≡◌, drop}
use Rattle.fnv.specs.Fnv.{fnv_from}
use Rattle.fnv.proofs.fold.Given as goal

-- what is left to fold, from x on, gives the whole
abbrev pub invariant-loop-b : goal.invariant-loop-b
invariant-loop-b l = fnv_from l.x (drop l.b-index l.s) ≡ fnv_from l.h l.s
