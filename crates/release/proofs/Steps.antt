-- A used row, such as a search found, within the used bytes. Assumes nothing.
use Rattle.std.proofs.Common.{ℕ, ◌+◌, ◌≤◌, ◌<◌, ◌≡◌, List, length, get_or, take, arith}
use Rattle.std.proofs.Math.ListN.{length-take}
use Rattle.std.proofs.Math.Seq.{get_or-take}
use Rattle.ideal.specs.declared.EscrowRow.{EscrowRow}
use Rattle.ideal.specs.declared.Used.{Used}
use Rattle.ideal.specs.Fit.{RowsFit}
use Rattle.ideal.specs.Tables.{escrow_table}
use Rattle.retrieval.proofs.Steps.{row_at}
use Rattle.release.specs.Narrow.{UsedFits}

-- a used row lies within the used bytes
pub within_used : {used : Used} {rows : List EscrowRow} {i : ℕ} → UsedFits used rows → i < used.rows
    → (get_or rows i escrow_table.blank).first + (get_or rows i escrow_table.blank).length ≤ used.bytes
unfolding RowsFit
within_used {i = i} f w = f.fit i w

-- and one that a search among the used rows found
module _ (used : Used) (rows : List EscrowRow) (i : ℕ) (within : i < length (take used.rows rows)) where
  among : i < used.rows
  among = omega (arith, simp length-take at within)

  pub row_is : row_at used rows i ≡ get_or rows i escrow_table.blank
  row_is = get_or-take used.rows rows i escrow_table.blank among

  pub found_fits : UsedFits used rows → (row_at used rows i).first + (row_at used rows i).length ≤ used.bytes
  found_fits f = rw row_is (within_used f among)
