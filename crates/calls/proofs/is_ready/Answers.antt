use mathlib.Core.Path.{sym, ◌∙◌}
use borrow.Author.Rules.{rules}
use Rattle.soundness.specs.Parts.{Counted}
use Rattle.calls.specs.Entry.{ready_on}
use Rattle.calls.proofs.Whole.{sizes_lent}
use Rattle.calls.proofs.is_ready.Goals as goal
use Rattle.calls.proofs.is_ready.Goals.{Start}

counted : (c : Start) → Counted c.args.held c.args.log.now c.args.escrow.now
counted c =
    record {
      identities = search rules;
      log_rows = c.requires.counted.0;
      escrow_rows = c.requires.counted.1;
    }

pub box_sound-requires-clause-lent : goal.box_sound-requires-clause-lent
box_sound-requires-clause-lent c =
    sizes_lent _ _ (sym (c.sizes_right.ensures _ _ _ (counted (goal.at.box_sound-requires-clause-lent c).Start)) ∙ c.if-sizes_right.true)

pub returns-then-sizes_right : goal.returns-then-sizes_right
unfolding ready_on
returns-then-sizes_right c =
    c.box_sound.ensures c.args.shared.now
    ∙ rw (sym (c.sizes_right.ensures _ _ _ (counted (goal.at.returns-then-sizes_right c).Start)) ∙ c.if-sizes_right.true)

pub returns-else-sizes_right : goal.returns-else-sizes_right
unfolding ready_on
returns-else-sizes_right c =
    rw (sym (c.sizes_right.ensures _ _ _ (counted (goal.at.returns-else-sizes_right c).Start)) ∙ c.if-sizes_right.false) (search rules)
