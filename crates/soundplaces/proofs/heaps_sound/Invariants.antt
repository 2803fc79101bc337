use mathlib.Core.Path.{◌≡◌}
use lib.ListN.{drop}
use Rattle.ideal.specs.Soundness.{empty_heaps_zero}
use Rattle.ideal.specs.Tables.{chunks}
use Rattle.soundplaces.proofs.heaps_sound.Given as goal

-- the places to come are right just where all are
abbrev pub invariant-loop-i : goal.invariant-loop-i
invariant-loop-i l =
    empty_heaps_zero (drop l.i l.identity-items) (drop l.i (chunks 16 l.heaps)) ≡ empty_heaps_zero l.identity-items (chunks 16 l.heaps)
