use mathlib.Core.Path.{sym, ◌∙◌}
use native.Mathlib.Omega.{arith}
use Rattle.ideal.specs.Tables.{log_table}
use Rattle.lists.proofs.Bools.{clash}
use Rattle.soundness.specs.Tests.{log_row_right}
use Rattle.soundness.proofs.Rows.{rows_fit}
use Rattle.soundlog.proofs.log_sound.Goals as goal
use Rattle.soundlog.proofs.log_sound.Goals.{then-all_zero, else-all_zero}

pub pairs_differ-requires : goal.pairs_differ-requires
pairs_differ-requires c =
    elim c.if-all_zero.branch [
      | then-all_zero w ↦
          rows_fit log_table (log_row_right c.args.values.now) c.args.used.bytes _ _ (omega arith) (sym w.rows_sound.ensures ∙ sym w.value-is ∙ c.if-rows_sound.true)
      | else-all_zero w ↦ clash _ (sym w.value-is ∙ c.if-rows_sound.true) w.if-all_zero.false
    ]
