use mathlib.Core.Path.{sym, ◌∙◌}
use Rattle.calls.proofs.Edits.{none_put}
use Rattle.calls.proofs.Whole.{nothing_put, refused_entry, sound_entry, ready_sound}
use Rattle.calls.proofs.call.Goals as goal

pub returns-then-not-is_ready_in-clause-output_after : goal.returns-then-not-is_ready_in-clause-output_after
returns-then-not-is_ready_in-clause-output_after c =
    nothing_put c.refuse_unsound.ensures (refused_entry _ _ _ _ (sym c.is_ready_in.ensures ∙ c.if-not-is_ready_in.true))

pub returns-then-not-is_ready_in-clause-edits_by : goal.returns-then-not-is_ready_in-clause-edits_by
returns-then-not-is_ready_in-clause-edits_by c = none_put c.refuse_unsound.ensures

pub call_sound-requires : goal.call_sound-requires
call_sound-requires c = ready_sound _ _ (sym c.is_ready_in.ensures ∙ c.if-not-is_ready_in.false)

pub returns-clause-output_after : goal.returns-clause-output_after
returns-clause-output_after c =
    c.call_sound.ensures.output_after ∙ sound_entry _ _ _ _ (ready_sound _ _ (sym c.is_ready_in.ensures ∙ c.if-not-is_ready_in.false))
