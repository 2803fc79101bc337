-- The boundaries, computed. Assumes nothing.
use mathlib.Core.Path.{refl}
use Rattle.desk.specs.Decision.{between, in_range, correction_in_range, signed, told, answer_of, decided, says_yes, refusal_of, corrected, judged, correction_of, desk_by}
use Rattle.desk.specs.Boundaries.{plain, given_by, with, yes, no, unsound, ◌gives◌, minus, cases, Boundaries}

pub boundaries : Boundaries
unfolding between in_range correction_in_range signed told answer_of decided says_yes refusal_of corrected judged correction_of desk_by plain given_by with yes no unsound ◌gives◌ minus cases
boundaries = refl
