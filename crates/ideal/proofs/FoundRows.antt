-- What is told of the log's and the escrow's entries is told of the rows and value bytes in the host's tables. Assumes nothing.
use Prim.Native.Nat.{ℕ, ◌+◌}
use mathlib.Core.Path.{◌≡◌, refl, sym, ap, ◌∙◌}
use mathlib.Core.Bool.{Bool, ◌||◌}
use mathlib.Core.List.{List, [], ◌∷◌}
use mathlib.Core.Option.{Option, none, some}
use lib.ListN.{length}
use Rattle.fnv.specs.declared.Tag.{Tag}
use Rattle.record.specs.declared.Handle.{Handle}
use Rattle.ideal.specs.declared.LogRow.{LogRow}
use Rattle.ideal.specs.declared.EscrowRow.{EscrowRow}
use Rattle.ideal.specs.State.{Entry, Logged, Escrowed, State, caller, any, find, position}
use Rattle.ideal.specs.Step.{is_pair, is_logged, paired, logged, is_named, is_escrowed, found, value_in}
use Rattle.ideal.specs.Tables.{RowsOf, log_table, escrow_table, rows_from, entry_of, entries_of, box_record, tables, used_log, used_escrow, state_of}
use Rattle.ideal.specs.Refusals.{is_row, holds_pair, bytes_in, row_for, is_log_row}
use Rattle.lists.proofs.Bools.{by_cases}
use Rattle.ideal.proofs.Table.{log_lawful, escrow_lawful, used_rows, entries_back}

module _ {Row Key : Type 0} (t : RowsOf Row Key) where
  pub any_entries : (p : Entry Key → Bool) (values : List ℕ) (rows : List Row)
      → any p (entries_of t values rows) ≡ any (λ r. p (entry_of t values r)) rows
  unfolding any entries_of
  any_entries p values [] = refl
  any_entries p values (r ∷ rows) = ap (λ b. p (entry_of t values r) || b) (any_entries p values rows)

  find_rows : {B : Type 0} (p : Entry Key → Bool) (q : Row → Bool) (f : Option Row → B) (g : Option (Entry Key) → B)
      → ((e : Entry Key) (at : ℕ) → q (t.row e.key at (length e.value)) ≡ p e) → f none ≡ g none
      → ((e : Entry Key) (at : ℕ) → f (some (t.row e.key at (length e.value))) ≡ g (some e))
      → (at : ℕ) (l : List (Entry Key)) → f (find q (rows_from t at l)) ≡ g (find p l)
  unfolding find rows_from
  find_rows p q f g h n s at [] = n
  find_rows p q f g h n s at (e ∷ l) = by_cases (p e) (λ b. rw (h e at, b) (s e at)) (λ b. rw (h e at, b) (find_rows p q f g h n s (at + length e.value) l))

  position_rows : (p : Entry Key → Bool) (q : Row → Bool)
      → ((e : Entry Key) (at : ℕ) → q (t.row e.key at (length e.value)) ≡ p e)
      → (at : ℕ) (l : List (Entry Key)) → position q (rows_from t at l) ≡ position p l
  unfolding position rows_from
  position_rows p q h at [] = refl
  position_rows p q h at (e ∷ l) = rw (h e at, position_rows p q h (at + length e.value) l)

-- a state that is read back from its tables
module _ (s : State) (back : state_of (tables s) ≡ s) where
  -- what is told of a log entry is told of a row and its value bytes
  pub log_rows : (p : Logged → Bool) → any p s.log ≡ any (λ r. p (entry_of log_table (tables s).log_values r)) (used_log (tables s))
  unfolding state_of
  log_rows p = ap (λ x. any p x.log) (sym back) ∙ any_entries log_table p (tables s).log_values (used_log (tables s))

  pub pair_rows : (i : ℕ) (w : List ℕ) → paired i w s.log ≡ any (holds_pair (tables s).log_values i w) (used_log (tables s))
  unfolding paired is_pair holds_pair
  pair_rows i w = log_rows (is_pair i w)

  -- what is told of the row found and of the entry found agrees
  pub found_row : {B : Type 0} (f : Option EscrowRow → B) (g : Option Escrowed → B) → f none ≡ g none
      → ((e : Escrowed) (at : ℕ) → f (some (escrow_table.row e.key at (length e.value))) ≡ g (some e))
      → (i : ℕ) (h : Handle) → g (found s i h) ≡ f (row_for (tables s) i h)
  unfolding found row_for is_row is_named is_escrowed tables box_record
  found_row f g n k i h =
      rw (used_rows escrow_lawful s.escrow)
      (sym (find_rows escrow_table _ (is_row h i (caller s)) f g (λ e at. refl) n k 0 s.escrow))

found_bytes : (p : Escrowed → Bool) (q : EscrowRow → Bool) (values : List ℕ) (rows : List EscrowRow)
    → ((r : EscrowRow) → p (entry_of escrow_table values r) ≡ q r)
    → value_in (find p (entries_of escrow_table values rows)) ≡ bytes_in values (find q rows)
unfolding find entries_of value_in bytes_in
found_bytes p q values [] h = refl
found_bytes p q values (r ∷ rows) h =
    by_cases (q r) (λ b. rw (h r, b)) (λ b. rw (h r, b) (found_bytes p q values rows h))

logged_rows : (i : ℕ) (g : Tag) (v values : List ℕ) (rows : List LogRow)
    → any (is_logged i g v) (entries_of log_table values rows) ≡ any (is_log_row values i g v) rows
unfolding any entries_of is_logged is_log_row
logged_rows i g v values [] = refl
logged_rows i g v values (r ∷ rows) = ap (λ b. is_log_row values i g v r || b) (logged_rows i g v values rows)

-- the tables of a state
module _ (s : State) where
  -- the value that a retrieve finds
  pub value_found : (i : ℕ) (h : Handle) → value_in (found s i h) ≡ bytes_in (tables s).escrow_values (row_for (tables s) i h)
  unfolding found row_for is_row is_named is_escrowed tables box_record
  value_found i h =
      ap (λ l. value_in (find (is_escrowed h i (caller s)) l)) (sym (entries_back escrow_lawful s.escrow))
      ∙ found_bytes (is_escrowed h i (caller s)) (is_row h i (caller s)) (tables s).escrow_values (used_escrow (tables s)) (λ r. refl)

  -- where the row that a release names stands
  pub position_found : (i : ℕ) (h : Handle)
      → position (is_row h i (caller s)) (used_escrow (tables s)) ≡ position (is_escrowed h i (caller s)) s.escrow
  unfolding is_row is_named is_escrowed tables box_record
  position_found i h =
      rw (used_rows escrow_lawful s.escrow)
      (position_rows escrow_table (is_escrowed h i (caller s)) (is_row h i (caller s)) (λ e at. refl) 0 s.escrow)

  pub log_found : (i : ℕ) (g : Tag) (v : List ℕ)
      → logged i g v s.log ≡ any (is_log_row (tables s).log_values i g v) (used_log (tables s))
  unfolding logged tables box_record
  log_found i g v =
      ap (any (is_logged i g v)) (sym (entries_back log_lawful s.log))
      ∙ logged_rows i g v (tables s).log_values (used_log (tables s))
