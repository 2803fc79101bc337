-- The lent buffers of a call, as the definitions take them.
use Rattle.std.specs.Prelude.{◌≡◌, List, length}
use Rattle.ideal.specs.declared.BoxRecord.{BoxRecord}
use Rattle.ideal.specs.declared.LogRow.{LogRow}
use Rattle.ideal.specs.declared.EscrowRow.{EscrowRow}
use Rattle.ideal.specs.Tables.{Tables, lent_tables}
use Rattle.ideal.specs.Layouts.{Sound}
use Rattle.state.specs.declared.Change.{Change}
use Rattle.calls.specs.declared.Buffers.{Buffers}
use Rattle.calls.specs.Entry.{EntryResult, result_of}

-- the box record, the rows, and what the buffers hold
abbrev pub tables_in : BoxRecord → List LogRow → List EscrowRow → Buffers → Tables
tables_in b log escrow l =
    lent_tables b log escrow l.heaps.now l.shared.now l.log_values.now l.escrow_values.now

-- these make a sound box, and the output buffer is of its size
abbrev pub SoundIn : BoxRecord → List LogRow → List EscrowRow → Buffers → Type 0
SoundIn b log escrow l = Sound (tables_in b log escrow l) (length l.output.now)

-- what a change makes of the rows, and the buffers at exit
abbrev pub result_in : List LogRow → List EscrowRow → Change → Buffers → EntryResult
result_in log escrow c l =
    result_of log escrow c l.heaps.now l.shared.now l.log_values.now l.escrow_values.now l.output.now

-- they are the same buffers still, as long as before, whatever they hold
pub record SameBuffers (before after : Buffers) : Type 0 where
  pub heaps : after.heaps.ghost_name ≡ before.heaps.ghost_name
  pub shared : after.shared.ghost_name ≡ before.shared.ghost_name
  pub log_values : after.log_values.ghost_name ≡ before.log_values.ghost_name
  pub escrow_values : after.escrow_values.ghost_name ≡ before.escrow_values.ghost_name
  pub output : after.output.ghost_name ≡ before.output.ghost_name
  pub heaps_length : length after.heaps.now ≡ length before.heaps.now
  pub shared_length : length after.shared.now ≡ length before.shared.now
  pub log_values_length : length after.log_values.now ≡ length before.log_values.now
  pub escrow_values_length : length after.escrow_values.now ≡ length before.escrow_values.now
  pub output_length : length after.output.now ≡ length before.output.now
