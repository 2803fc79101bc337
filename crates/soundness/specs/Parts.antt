-- How many elements a box's parts have, and what is known of the lent ones.
use Rattle.std.specs.Prelude.{ℕ, ◌≡◌, List, length}
use Rattle.ideal.specs.declared.BoxRecord.{BoxRecord}
use Rattle.ideal.specs.declared.LogRow.{LogRow}
use Rattle.ideal.specs.declared.EscrowRow.{EscrowRow}

-- 16 identities, by their type, and all 64 rows of each table
pub record Counted (b : BoxRecord) (log : List LogRow) (escrow : List EscrowRow) : Type 0 where
  pub identities : length b.identities ≡ 16
  pub log_rows : length log ≡ 64
  pub escrow_rows : length escrow ≡ 64

-- the lent buffers that soundness speaks of are of their sizes
pub record Lent (heaps log_values escrow_values : List ℕ) : Type 0 where
  pub heap_bytes : length heaps ≡ 4096
  pub log_bytes : length log_values ≡ 4096
  pub escrow_bytes : length escrow_values ≡ 4096
