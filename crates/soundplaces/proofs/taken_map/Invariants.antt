use mathlib.Core.Path.{◌≡◌}
use mathlib.Core.List.{List, ◌++◌}
use Rattle.std.proofs.Common.{ℕ}
use Rattle.ideal.specs.Tables.{taken_map}
use Rattle.soundplaces.proofs.taken_map.Given as goal

-- the map of the places that have come, which follow those that are left
abbrev pub invariant-loop-identity : goal.invariant-loop-identity
invariant-loop-identity l =
    (goal.iterator-loop-identity).can_next l.identity-iterator
    × (goal.iterator-loop-identity).is_finite l.identity-iterator
    × ((done : List ℕ) × (l.identity-iterator.iter.rest.now ++ done ≡ l.fn.identities) × (l.map ≡ taken_map done))
