use Prim.Native.Nat.{ℕ}
use mathlib.Core.List.{List}
use Rattle.ideal.specs.Soundness.{same_handle}
use Rattle.ideal.specs.Tables.{escrow_table}
use Rattle.ideal.specs.declared.EscrowRow.{EscrowRow}
use Rattle.soundness.proofs.Seen.{Seen, DifferFrom}
use Rattle.soundescrow.proofs.handles_differ.Given as goal

abbrev pub number : EscrowRow → ℕ
number r = r.handle.0

abbrev pub invariant-loop-i : goal.invariant-loop-i
invariant-loop-i l =
    Seen escrow_table.blank number l.rows l.i l.seen × ((values : List ℕ) → DifferFrom escrow_table same_handle values l.rows l.i)
