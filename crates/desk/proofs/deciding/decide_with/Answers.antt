use Rattle.std.proofs.Common.{◌∙◌, ap, arith}
use Rattle.std.proofs.lemmas.Int.{ints}
use Rattle.desk.specs.Decision.{in_range, correction_in_range, decided}
use Rattle.desk.proofs.Ranges.{is_within}
use Rattle.desk.proofs.deciding.decide_with.Goals as goal

pub overflow_sub-reading : goal.overflow_sub-reading
unfolding in_range correction_in_range
overflow_sub-reading c =
    let r = is_within _ _ _ c.requires.reading_value in
    let s = is_within _ _ _ c.requires.setpoint_value in
    let x = is_within _ _ _ c.requires.correction_value in
    omega (arith, ints, r.0, r.1, s.0, s.1, x.0, x.1)

pub returns : goal.returns
unfolding in_range correction_in_range
returns c =
    let r = is_within _ _ _ c.requires.reading_value in
    let s = is_within _ _ _ c.requires.setpoint_value in
    let x = is_within _ _ _ c.requires.correction_value in
    c.decide.ensures ∙ ap decided (omega (arith, ints, r.0, r.1, s.0, s.1, x.0, x.1))
