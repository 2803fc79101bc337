use Rattle.std.proofs.Common.{◌∙◌}
use Rattle.ideal.specs.Tables.{escrow_table}
use Rattle.rows.specs.Unfit.{unfit}
use Rattle.rows.proofs.Bits.{escrow_joined, blank_read, blank_from}
use Rattle.rows.proofs.escrow_rows.escrow_unfit.Goals as goal

pub loop-i-preserved : goal.loop-i-preserved
loop-i-preserved c =
    blank_read escrow_table.is_blank c.args.rows.now escrow_table.blank c.loop-i.i _ _ c.escrow_row_at-row.result c.loop-i-test.true c.escrow_row_at-row.ensures (escrow_joined c.loop-i.sources c.loop-i.recipients c.loop-i.handles c.loop-i.places c.loop-i.marks c.escrow_row_at-row.result)
    ∙ c.loop-i.invariant

pub returns-else-not-counted : goal.returns-else-not-counted
unfolding unfit
returns-else-not-counted c =
    rw
    (blank_from escrow_table.is_blank c.args.rows.now c.args.n c.min-i.result c.loop-i.i _ c.min-i.ensures c.loop-i-test.false c.loop-i.invariant, c.if-not-counted.false)
