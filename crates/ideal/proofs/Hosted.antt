-- What a host reads in the tables of a valid state.
use Prim.Native.Nat.{ℕ, zero, suc, ◌+◌, ◌*◌, ◌<◌}
use mathlib.Core.Path.{◌≡◌, refl, sym, ap, ◌∙◌}
use mathlib.Core.List.{List, [], ◌∷◌}
use native.Mathlib.Omega.{arith}
use lib.ListN.{length, get_or, take}
use lib.Seq.{take_all, get_or-take}
use Rattle.ideal.specs.State.{Entry, Logged, Escrowed, State, heap_at, part}
use Rattle.ideal.specs.Tables.{RowsOf, log_table, escrow_table, padded, values_of, rows_of, entry_of, entries_of, tables}
use Rattle.ideal.specs.Valid.{Valid}
use Rattle.ideal.proofs.OwnHeap.{sized}
use Rattle.ideal.proofs.Memory.{flat_part, flat_at}
use Rattle.ideal.proofs.Table.{Lawful, log_lawful, escrow_lawful, entries_length, entries_back}

-- ---- rows

module _ {Row Key : Type 0} (t : RowsOf Row Key) (values : List ℕ) where
  pub entry_at : (rs : List Row) (d : Entry Key) (b : Row) (k : ℕ) → k < length rs
      → get_or (entries_of t values rs) k d ≡ entry_of t values (get_or rs k b)
  unfolding entries_of
  entry_at [] d b k h = absurd (omega arith)
  entry_at (r ∷ rs) d b zero h = refl
  entry_at (r ∷ rs) d b (suc k) h = entry_at rs d b k (omega arith)

-- row k of a list of entries, laid out
row_entry : {Row Key : Type 0} {t : RowsOf Row Key} → Lawful t → (l : List (Entry Key)) (d : Entry Key) (k : ℕ) → k < length l
    → entry_of t (padded 4096 0 (values_of l)) (get_or (rows_of t l) k t.blank) ≡ get_or l k d
row_entry {t} law l d k h =
    let values = padded 4096 0 (values_of l) in
    let rows = take (length l) (rows_of t l) in
    let e = entries_back law l in
    let n = sym (entries_length law values rows) ∙ ap length e in
    let a = entry_at t values rows d t.blank k (omega arith) in
    rw (← get_or-take (length l) (rows_of t l) k t.blank h) (sym a ∙ ap (λ z. get_or z k d) e)

-- ---- tables

module _ (s : State) (v : Valid s) where
  pub heap_is : (p : ℕ) → p < 16 → part (tables s).heaps (256 * p) 256 ≡ heap_at s p
  unfolding tables
  heap_is p h =
      let e : 256 * p + 0 ≡ 256 * p = omega arith in
      rw (← e) (flat_part s.heaps p 0 256 (sized s v) (omega (arith, v.heaps)) (omega arith))
      ∙ take_all 256 (heap_at s p) (omega (arith, v.sizes p h))

  pub byte_is : (p i : ℕ) → p < 16 → i < 256 → get_or (tables s).heaps (256 * p + i) 0 ≡ get_or (heap_at s p) i 0
  unfolding tables
  byte_is p i h k = flat_at s.heaps p i (sized s v) (omega (arith, v.heaps)) k

  pub logged_is : (d : Logged) (k : ℕ) → k < length s.log
      → entry_of log_table (tables s).log_values (get_or (tables s).log_rows k log_table.blank) ≡ get_or s.log k d
  unfolding tables
  logged_is d k h = row_entry log_lawful s.log d k h

  pub escrowed_is : (d : Escrowed) (k : ℕ) → k < length s.escrow
      → entry_of escrow_table (tables s).escrow_values (get_or (tables s).escrow_rows k escrow_table.blank) ≡ get_or s.escrow k d
  unfolding tables
  escrowed_is d k h = row_entry escrow_lawful s.escrow d k h
