use Rattle.std.proofs.Common.{◌≡◌, ◌∙◌, Ok, Err, eqb, false, rules, arith}
use borrow.Author.Tests.{eq-eqb, ne_eqb}
use Rattle.ideal.specs.declared.Profile.TheVariants.{Full}
use Rattle.calls.proofs.Whole.{sound_entry}
use Rattle.desk.proofs.Asked.{checked}
use Rattle.desk.proofs.asking.check.Goals as goal

pub returns-in-0-clause-leaves : goal.returns-in-0-clause-leaves
returns-in-0-clause-leaves c =
    let x = c.args in
    let h = checked x.held x.log.now x.escrow.now x.lent.now x.claim (search rules) (search rules)
    _ c.call_sound-change.new.lent _ c.check_record-record.ensures (c.call_sound-change.ensures.output_after ∙ sound_entry Full _ _ _ c.requires)
    (Ok c.call_sound-change.result.answer.number) (rw (eq-eqb _ _ c.in-0.is)) in
    search (rules, h)

pub returns-in_default-clause-leaves : goal.returns-in_default-clause-leaves
returns-in_default-clause-leaves c =
    let x = c.args in
    let n : eqb c.call_sound-change.result.answer.code 0 ≡ false = ne_eqb _ _ (λ z. absurd (omega arith)) in
    let h = checked x.held x.log.now x.escrow.now x.lent.now x.claim (search rules) (search rules)
    _ c.call_sound-change.new.lent _ c.check_record-record.ensures (c.call_sound-change.ensures.output_after ∙ sound_entry Full _ _ _ c.requires)
    (Err c.call_sound-change.result.answer.code) (rw n) in
    search (rules, h)
