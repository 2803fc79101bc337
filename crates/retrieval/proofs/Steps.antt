-- A used row that a search found, and its value. Assumes nothing.
use Rattle.std.proofs.Common.{ℕ, ◌+◌, ◌≤◌, ◌<◌, ◌≡◌, List, length, get_or, take}
use Rattle.ideal.specs.declared.EscrowRow.{EscrowRow}
use Rattle.ideal.specs.declared.Used.{Used}
use Rattle.ideal.specs.Fit.{RowsFit}
use Rattle.ideal.specs.State.{part}
use Rattle.ideal.specs.Tables.{escrow_table}
use Rattle.ideal.proofs.Table.{part_length}
use Rattle.state.specs.Parts.{TableFits}
use Rattle.state.proofs.Parts.{used_fit}

-- one of the used rows
abbrev pub row_at : Used → List EscrowRow → ℕ → EscrowRow
row_at used rows i = get_or (take used.rows rows) i escrow_table.blank

module _ (used : Used) (rows : List EscrowRow) (i : ℕ) (within : i < length (take used.rows rows)) {values : List ℕ}
    (f : TableFits escrow_table used rows values)
  where
    pub fits : (row_at used rows i).first + (row_at used rows i).length ≤ length values
    unfolding RowsFit
    fits = used_fit escrow_table used rows values f i within

    pub size : length (part values (row_at used rows i).first (row_at used rows i).length) ≡ (row_at used rows i).length
    size = part_length values (row_at used rows i).first (row_at used rows i).length fits
