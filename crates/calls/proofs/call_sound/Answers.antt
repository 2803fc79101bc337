use mathlib.Core.Path.{sym, ◌∙◌}
use Rattle.record.specs.Read.{cut, unknown, wrong_map}
use Rattle.calls.proofs.Whole.{nothing_put, with_used_lem, whole_read, refused_read}
use Rattle.calls.proofs.call_sound.Goals as goal

pub returns-in-Ok-clause-output_after : goal.returns-in-Ok-clause-output_after
returns-in-Ok-clause-output_after c =
    with_used_lem c.args.log.now c.args.escrow.now c.with_used.ensures c.carry_out_in-change.ensures.output_after
    (whole_read _ _ _ _ _ c.read_call.ensures.result_value _ c.in-Ok.is)

pub returns-in-Err-Cut-clause-output_after : goal.returns-in-Err-Cut-clause-output_after
unfolding cut
returns-in-Err-Cut-clause-output_after c =
    nothing_put (rw c.in-Err-Cut.missing-is at c.refuse_cut.ensures) (refused_read _ c.requires _ _ 1 _ (rw (c.in-Err-Cut.is, c.in-Err-Cut.field-0-is) at (sym c.read_call.ensures.result_value)))

pub returns-in-Err-UnknownKind-clause-output_after : goal.returns-in-Err-UnknownKind-clause-output_after
unfolding unknown
returns-in-Err-UnknownKind-clause-output_after c =
    nothing_put (rw c.number.ensures at c.refuse.ensures) (refused_read _ c.requires _ _ 2 0 (rw (c.in-Err-UnknownKind.is, c.in-Err-UnknownKind.field-0-is) at (sym c.read_call.ensures.result_value)))

pub returns-in-Err-WrongMap-clause-output_after : goal.returns-in-Err-WrongMap-clause-output_after
unfolding wrong_map
returns-in-Err-WrongMap-clause-output_after c =
    nothing_put (rw c.number-in-Err-WrongMap.ensures at c.refuse-in-Err-WrongMap.ensures) (refused_read _ c.requires _ _ 3 0 (rw (c.in-Err-WrongMap.is, c.in-Err-WrongMap.field-0-is) at (sym c.read_call.ensures.result_value)))
