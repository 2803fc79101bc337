use Prim.Native.Nat.{ℕ}
use Rattle.ideal.specs.Tables.{log_table}
use Rattle.ideal.specs.declared.LogRow.{LogRow}
use Rattle.soundness.specs.Tests.{same_logged}
use Rattle.soundness.proofs.Seen.{Seen, DifferFrom}
use Rattle.soundlog.proofs.pairs_differ.Given as goal

abbrev pub number : LogRow → ℕ
number r = r.tag.0

abbrev pub invariant-loop-i : goal.invariant-loop-i
invariant-loop-i l = Seen log_table.blank number l.rows l.i l.seen × DifferFrom log_table same_logged l.values l.rows l.i
