-- Parts of the box that several calls are given, and what their callers show of them.
use Rattle.std.specs.Prelude.{ℕ, ◌+◌, ◌≤◌, ◌≡◌, true, List, length, get_or, take, drop}
use Rattle.ideal.specs.declared.BoxRecord.{BoxRecord}
use Rattle.ideal.specs.declared.LogRow.{LogRow}
use Rattle.ideal.specs.declared.EscrowRow.{EscrowRow}
use Rattle.ideal.specs.declared.Used.{Used}
use Rattle.ideal.specs.State.{Logged, Escrowed, every}
use Rattle.ideal.specs.Tables.{heap_start, RowsOf, log_table, escrow_table, entries_of}
use Rattle.ideal.specs.Fit.{RowsFit}

-- the identity of the program that runs
abbrev pub caller_of : BoxRecord → ℕ
caller_of b = get_or b.identities b.running 0

-- a byte of the running place's heap
abbrev pub heap_byte : BoxRecord → ℕ → ℕ
heap_byte b o = heap_start b.running + o

-- the log and the escrow that the used rows stand for
abbrev pub log_of : BoxRecord → List LogRow → List ℕ → List Logged
log_of b rows values = entries_of log_table values (take b.log.rows rows)

abbrev pub escrow_of : BoxRecord → List EscrowRow → List ℕ → List Escrowed
escrow_of b rows values = entries_of escrow_table values (take b.escrow.rows rows)

-- the used rows are rows of the table, and lie within its value bytes
pub record TableFits {Row Key : Type 0} (t : RowsOf Row Key) (used : Used) (rows : List Row) (values : List ℕ) : Type 0 where
  pub few : used.rows ≤ 64
  pub size : length values ≡ 4096
  pub fit : RowsFit t rows used.rows (length values)

-- the unused rows are blank
pub record RestBlank (b : BoxRecord) (log_rows : List LogRow) (escrow_rows : List EscrowRow) : Type 0 where
  pub log_blank : every log_table.is_blank (drop b.log.rows log_rows) ≡ true
  pub escrow_blank : every escrow_table.is_blank (drop b.escrow.rows escrow_rows) ≡ true
