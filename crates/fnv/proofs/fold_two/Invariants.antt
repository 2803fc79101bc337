use Rattle.std.proofs.Common.{◌≡◌, drop}
use Rattle.fnv.specs.Fnv.{fnv_from}
use Rattle.fnv.proofs.fold_two.Given as goal

-- what is left to fold of each slice gives the whole of it
abbrev pub invariant-loop-i : goal.invariant-loop-i
invariant-loop-i l =
    (fnv_from l.w (drop l.i l.a) ≡ fnv_from l.initial.w l.a) × (fnv_from l.x (drop l.i l.b) ≡ fnv_from l.initial.x l.b)
