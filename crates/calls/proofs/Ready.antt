-- What a sound box gives the functions that carry out a call. Assumes nothing.
use Prim.Native.Nat.{ℕ, ◌≤◌}
use mathlib.Core.Path.{◌≡◌}
use lib.ListN.{length}
use Rattle.ideal.specs.Tables.{Tables, log_table, escrow_table, taken_map}
use Rattle.ideal.specs.Layouts.{Sound}
use Rattle.ideal.proofs.Facts.{facts, output_size_lem}
use Rattle.ideal.proofs.Laid.{valid_sound, tables_state}
use Rattle.state.specs.Parts.{TableFits}
use Rattle.state.proofs.Parts.{table_fits}
use Rattle.release.specs.Narrow.{UsedFits}
use Rattle.release.proofs.Bridge.{used_fits}
use Rattle.services.specs.Narrow.{Leaving}
use Rattle.services.proofs.Bridge.{exit_ready}

pub record Ready (t : Tables) (output_size : ℕ) : Type 0 where
  pub map : t.box.taken ≡ taken_map t.box.identities
  pub leaving : Leaving t.box t.heaps
  pub runs : t.box.running ≤ 16
  pub heaps : length t.heaps ≡ 4096
  pub shared : length t.shared ≡ 1024
  pub output : output_size ≡ 1024
  pub log : TableFits log_table t.box.log t.log_rows t.log_values
  pub escrow : TableFits escrow_table t.box.escrow t.escrow_rows t.escrow_values
  pub log_count : length t.log_rows ≡ 64
  pub escrow_count : length t.escrow_rows ≡ 64
  pub escrow_used : UsedFits t.box.escrow t.escrow_rows

pub ready : {t : Tables} {n : ℕ} → Sound t n → Ready t n
ready {t} {n} s =
    let f = facts t n s in
    let leaving = exit_ready t (valid_sound t n s) (tables_state t n s) in
    record {
      map = f.map;
      leaving = leaving;
      runs = leaving.runs;
      heaps = f.heaps;
      shared = f.shared;
      output = output_size_lem t n s.sizes;
      log = table_fits log_table f.log;
      escrow = table_fits escrow_table f.escrow;
      log_count = f.log.row_count;
      escrow_count = f.escrow.row_count;
      escrow_used = used_fits f.escrow;
    }
