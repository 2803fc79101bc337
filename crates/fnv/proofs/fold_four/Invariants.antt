use Rattle.std.proofs.Common.{◌≡◌, drop}
use Rattle.fnv.specs.Fnv.{fnv_from}
use Rattle.fnv.proofs.fold_four.Given as goal

-- what is left to fold of each slice gives the whole of it
abbrev pub invariant-loop-i : goal.invariant-loop-i
invariant-loop-i l =
    (fnv_from l.w (drop l.i l.a) ≡ fnv_from l.initial.w l.a)
    × (fnv_from l.x (drop l.i l.b) ≡ fnv_from l.initial.x l.b)
    × (fnv_from l.y (drop l.i l.c) ≡ fnv_from l.initial.y l.c)
    × (fnv_from l.z (drop l.i l.d) ≡ fnv_from l.initial.z l.d)
