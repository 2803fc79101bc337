use Rattle.std.proofs.Common.{◌∙◌}
use Rattle.ideal.specs.Tables.{log_table}
use Rattle.rows.specs.Unfit.{unfit}
use Rattle.rows.proofs.Bits.{log_joined, blank_read, blank_from}
use Rattle.rows.proofs.log_rows.log_unfit.Goals as goal

pub loop-i-preserved : goal.loop-i-preserved
loop-i-preserved c =
    blank_read log_table.is_blank c.args.rows.now log_table.blank c.loop-i.i _ _ c.log_row_at-row.result c.loop-i-test.true c.log_row_at-row.ensures (log_joined c.loop-i.identities c.loop-i.tags c.loop-i.places c.log_row_at-row.result)
    ∙ c.loop-i.invariant

pub returns-else-not-counted : goal.returns-else-not-counted
unfolding unfit
returns-else-not-counted c =
    rw
    (blank_from log_table.is_blank c.args.rows.now c.args.n c.min-i.result c.loop-i.i _ c.min-i.ensures c.loop-i-test.false c.loop-i.invariant, c.if-not-counted.false)
