-- Parts of the box that several calls are given. Assumes nothing.
use Prim.Native.Nat.{ℕ, ◌+◌, ◌≤◌, ◌<◌}
use mathlib.Core.Path.{◌≡◌, sym, ap, ◌∙◌}
use mathlib.Core.Bool.{false}
use mathlib.Core.List.{List}
use native.Mathlib.Omega.{arith}
use lib.Dec.{eqb}
use lib.ListN.{length, take, length-take}
use lib.Seq.{get_or-take}
use borrow.Author.Tests.{eqb-false, ltb-false}
use Rattle.ideal.specs.declared.Used.{Used}
use Rattle.ideal.specs.State.{part, own_part, heap_at}
use Rattle.ideal.specs.Step.{beyond}
use Rattle.ideal.specs.Tables.{RowsOf, Tables, tables, state_of}
use Rattle.ideal.specs.Fit.{RowsFit}
use Rattle.ideal.specs.Valid.{Valid}
use Rattle.ideal.proofs.Table.{Stands, part_length}
use Rattle.ideal.proofs.Fit.{rows_fit}
use Rattle.ideal.proofs.HeapBytes.{own_bytes_lem}
use Rattle.state.specs.Parts.{TableFits, heap_byte}

-- a sound table is as the calls on it require
pub table_fits : {Row Key : Type 0} (t : RowsOf Row Key) {rows : List Row} {values : List ℕ} {used : Used} → Stands t rows values used
    → TableFits t used rows values
table_fits t {rows} {values} {used} s =
    record { few = s.few; size = s.value_count; fit = rows_fit t rows values used s }

-- the used rows by themselves lie within the value bytes
pub used_fit : {Row Key : Type 0} (t : RowsOf Row Key) (used : Used) (rows : List Row) (values : List ℕ) → TableFits t used rows values
    → RowsFit t (take used.rows rows) (length (take used.rows rows)) (length values)
unfolding RowsFit
used_fit t used rows values f k l =
    let h : k < used.rows = omega (arith, simp length-take at l) in rw get_or-take (f.fit k h)

-- a part of the running place's heap
pub record HeapFits (running offset size : ℕ) : Type 0 where
  pub runs : running < 16
  pub within : offset + size ≤ 256

-- what two of the tests leave
pub heap_fits : (running o n : ℕ) → running ≤ 16 → eqb running 16 ≡ false → beyond 256 o n ≡ false → HeapFits running o n
unfolding beyond
heap_fits running o n h runs within =
    let busy = eqb-false running 16 runs in
    record { runs = omega arith; within = ltb-false 256 (o + n) within }

module _ (t : Tables) (k : Valid (state_of t)) (e : tables (state_of t) ≡ t) (o n : ℕ) (f : HeapFits t.box.running o n) where
  pub own_value : own_part (state_of t) o n ≡ part t.heaps (heap_byte t.box o) n
  own_value = own_bytes_lem t k e o n f.runs f.within

  pub own_count : length (part t.heaps (heap_byte t.box o) n) ≡ n
  unfolding own_part state_of
  own_count =
      let s = k.sizes t.box.running f.runs in
      ap length (sym own_value) ∙ part_length (heap_at (state_of t) t.box.running) o n (omega (arith, f.within))
