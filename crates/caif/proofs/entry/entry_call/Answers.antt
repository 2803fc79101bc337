-- Rows that no sound box has are refused; else the box is called, and the rows that the call puts go into the lent ones.
use Rattle.std.proofs.Common.{sym, ◌∙◌}
use Rattle.ideal.specs.Tables.{log_table, escrow_table}
use Rattle.rows.proofs.Unfitting.{fitting, rest_blank, log_unsound, escrow_unsound}
use Rattle.state.proofs.Edited.{escrow_fits_lem}
use Rattle.calls.proofs.Whole.{unready}
use Rattle.caif.proofs.Counting.{refused_result}
use Rattle.caif.proofs.entry.entry_call.Goals as goal

pub returns-then-log_unfit-clause-output_after : goal.returns-then-log_unfit-clause-output_after
returns-then-log_unfit-clause-output_after c =
    rw c.refused_rows.ensures (refused_result _ _ _ _ _ _ _ _ _ _ (unready _ _ (log_unsound _ _ (sym c.log_unfit.ensures ∙ c.if-log_unfit.true))))

pub returns-then-escrow_unfit-clause-output_after : goal.returns-then-escrow_unfit-clause-output_after
returns-then-escrow_unfit-clause-output_after c =
    rw c.refused_rows-then-escrow_unfit.ensures (refused_result _ _ _ _ _ _ _ _ _ _ (unready _ _ (escrow_unsound _ _ (sym c.escrow_unfit.ensures ∙ c.if-escrow_unfit.true))))

pub call-change-requires : goal.call-change-requires
call-change-requires c =
    let f = fitting log_table _ _ (sym c.log_unfit.ensures ∙ c.if-log_unfit.false) in
    let g = fitting escrow_table _ _ (sym c.escrow_unfit.ensures ∙ c.if-escrow_unfit.false) in
    record { counted = (f.0, g.0); rest_blank = rest_blank _ f g }

pub put_log_row-requires : goal.put_log_row-requires
put_log_row-requires c =
    rw (fitting log_table _ _ (sym c.log_unfit.ensures ∙ c.if-log_unfit.false)).0 c.call-change.ensures.edits_by.log.fits

pub edit_escrow-requires : goal.edit_escrow-requires
edit_escrow-requires c =
    rw (fitting escrow_table _ _ (sym c.escrow_unfit.ensures ∙ c.if-escrow_unfit.false)).0 (escrow_fits_lem c.call-change.ensures.edits_by.escrow)

pub returns-clause-output_after : goal.returns-clause-output_after
returns-clause-output_after c = rw (c.put_log_row.ensures, c.edit_escrow.ensures) c.call-change.ensures.output_after
