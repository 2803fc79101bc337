-- A table whose unused rows are blank: what is left of its test. Assumes nothing.
use Prim.Native.Nat.{ℕ, ◌-◌, ◌≤◌, ◌<◌}
use mathlib.Core.Path.{◌≡◌}
use mathlib.Core.Bool.{Bool, true, false, ◌&&◌}
use mathlib.Core.List.{List, []}
use lib.ListN.{length, take, drop}
use borrow.Author.Tests.{le-leb, lt-leb}
use Rattle.buffers.proofs.Loops.{to_end}
use Rattle.ideal.specs.declared.Used.{Used}
use Rattle.ideal.specs.State.{Entry, every}
use Rattle.ideal.specs.Tables.{RowsOf, entries_of}
use Rattle.ideal.specs.Soundness.{pass, all_zero}
use Rattle.lists.proofs.Bools.{and_nil, and_assoc}
use Rattle.soundness.specs.Tests.{differ_before, rows_sound, bytes_and_rows, table_sound}

module _ {Row Key : Type 0} (t : RowsOf Row Key) (right : Row → Bool) (same : Entry Key → Entry Key → Bool) (rows : List Row)
    (values : List ℕ) (used : Used) where
  pub too_many_rows : 64 < used.rows → table_sound t right same rows values used ≡ false
  unfolding table_sound pass
  too_many_rows h = rw (lt-leb _ _ h)

  module _ (few : used.rows ≤ 64) where
    pub too_many_bytes : 4096 < used.bytes → table_sound t right same rows values used ≡ false
    unfolding table_sound pass
    too_many_bytes h = rw (le-leb _ _ few, lt-leb _ _ h)

    -- a byte past the end isn't zero
    pub bytes_left : used.bytes ≤ 4096 → all_zero (drop used.bytes values) ≡ false → false ≡ table_sound t right same rows values used
    unfolding table_sound bytes_and_rows pass
    bytes_left fits z = rw (le-leb _ _ few, le-leb _ _ fits, z)

    pub parts : used.bytes ≤ 4096 → every t.is_blank (drop used.rows rows) ≡ true
        → table_sound t right same rows values used
        ≡ all_zero (take (length values - used.bytes) (drop used.bytes values))
        && (rows_sound t right used.bytes 0 (take used.rows rows) && differ_before same [] (entries_of t values (take used.rows rows)))
    unfolding table_sound bytes_and_rows pass
    parts fits blank =
        let all = rows_sound t right used.bytes 0 (take used.rows rows) in
        let apart = differ_before same [] (entries_of t values (take used.rows rows)) in
        rw (le-leb _ _ few, le-leb _ _ fits, blank, and_nil all, and_nil apart, to_end values used.bytes)
        (and_assoc (all_zero (drop used.bytes values)) all apart)
