use mathlib.Core.Path.{refl, ◌∙◌}
use Rattle.state.proofs.Numbers.{number_not_zero}
use Rattle.calls.proofs.Ready.{ready}
use Rattle.calls.proofs.Whole.{nothing_put, own_refused, none_refused}
use Rattle.calls.proofs.Edits.{none_put}
use Rattle.calls.proofs.dispatch.carry_out_in.Goals as goal

pub own_refusal-requires : goal.own_refusal-requires
own_refusal-requires c = let s = ready c.requires.sound in (s.runs, s.log_count, s.heaps, s.log)

pub returns-in-Ok-clause-output_after : goal.returns-in-Ok-clause-output_after
returns-in-Ok-clause-output_after c =
    c.carry_out.ensures.output_after
    ∙ none_refused c.requires.sound _ _ _ _ (rw c.in-Ok.is at c.own_refusal.ensures) refl

pub returns-in-Err-clause-output_after : goal.returns-in-Err-clause-output_after
returns-in-Err-clause-output_after c =
    nothing_put (rw c.number.ensures at c.refuse.ensures) (own_refused c.requires.sound _ _ _ _ (rw c.in-Err.is at c.own_refusal.ensures) (number_not_zero _))

pub returns-in-Err-clause-edits_by : goal.returns-in-Err-clause-edits_by
returns-in-Err-clause-edits_by c = none_put c.refuse.ensures
