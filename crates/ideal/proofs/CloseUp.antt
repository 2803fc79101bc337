-- A released entry in the escrow's table: its row is spent, and the rows and the values behind it close up. Assumes nothing.
use Prim.Native.Nat.{ℕ, zero, suc, ◌+◌, ◌-◌, ◌≤◌}
use mathlib.Core.Path.{◌≡◌, refl, sym, ap, ◌∙◌}
use mathlib.Core.List.{List, [], ◌∷◌, ◌++◌, map, append_assoc, map-append}
use native.Mathlib.Omega.{arith}
use native.Mathlib.Nat.{zero-add, add-zero}
use lib.ListN.{length, get_or, take, drop, replicate, length-append, replicate-append-replicate}
use lib.Seq.{take_at, drop_at, get_or_at, drop-append-add}
use Rattle.ideal.specs.declared.EscrowRow.{EscrowRow}
use Rattle.ideal.specs.State.{Escrowed, State, bytes_used}
use Rattle.ideal.specs.Step.{spent, with_common}
use Rattle.ideal.specs.Tables.{escrow_table, padded, values_of, used_by, rows_from, rows_of, box_record, tables}
use Rattle.ideal.specs.OneCall.{spent_row, moved_down, with_released}
use Rattle.ideal.proofs.Lists.{bytes_append}
use Rattle.ideal.proofs.Table.{escrow_lawful, rows_length, values_length}
use Rattle.ideal.proofs.More.{values_append, rows_append}

-- ---- rows that move down

down_rows : (n at : ℕ) (l : List Escrowed) → map (moved_down n) (rows_from escrow_table (at + n) l) ≡ rows_from escrow_table at l
unfolding rows_from moved_down
down_rows n at [] = refl
down_rows n at (e ∷ l) =
    let m = length e.value in
    let first : (at + n) - n ≡ at = omega arith in
    let next : (at + n) + m ≡ (at + m) + n = omega arith in
    rw (first, next, down_rows n (at + m) l)

down_blanks : (n c : ℕ) → map (moved_down n) (replicate c escrow_table.blank) ≡ replicate c escrow_table.blank
unfolding moved_down
down_blanks n zero = refl
down_blanks n (suc c) = let z : 0 - n ≡ 0 = omega arith in rw (z, down_blanks n c)

module _ (front rest : List Escrowed) where
  -- an entry between others
  abbrev among : Escrowed → List Escrowed
  among x = front ++ (x ∷ rest)

  abbrev at : ℕ
  at = bytes_used front

  -- the rows behind it, the first byte of which is `from`
  behind : ℕ → List EscrowRow
  behind from = rows_from escrow_table from rest ++ replicate (64 - (length front + suc (length rest))) escrow_table.blank

  behind_down : (n : ℕ) → map (moved_down n) (behind (at + n)) ≡ behind at
  unfolding behind
  behind_down n = rw (map-append, down_rows n at rest, down_blanks n)

  among_rows : (x : Escrowed) → rows_of escrow_table (among x)
      ≡ rows_from escrow_table 0 front ++ (escrow_table.row x.key at (length x.value) ∷ behind (at + length x.value))
  unfolding rows_of padded behind
  among_rows x =
      let split : rows_from escrow_table 0 (among x)
      ≡ rows_from escrow_table 0 front ++ (escrow_table.row x.key at (length x.value) ∷ rows_from escrow_table (at + length x.value) rest) =
      unfold rows_from in rows_append escrow_table 0 front (x ∷ rest) ∙ rw (zero-add at) in
      let count : 64 - length (rows_from escrow_table 0 (among x)) ≡ 64 - (length front + suc (length rest)) =
      rw (rows_length escrow_lawful 0 (among x), length-append) in
      rw (count, split, append_assoc)

  module _ (e : Escrowed) where
    abbrev n : ℕ
    n = length e.value

    abbrev k : ℕ
    k = length front

    pub row_is : get_or (rows_of escrow_table (among e)) k escrow_table.blank ≡ escrow_table.row e.key at n
    row_is =
        rw (among_rows e)
        (get_or_at (rows_from escrow_table 0 front) _ (behind (at + n)) escrow_table.blank k (rows_length escrow_lawful 0 front))

    closed_rows : rows_of escrow_table (among (spent e))
        ≡ take k (rows_of escrow_table (among e))
        ++ (spent_row (escrow_table.row e.key at n) ∷ map (moved_down n) (drop (suc k) (rows_of escrow_table (among e))))
    unfolding spent spent_row
    closed_rows =
        let rows = rows_from escrow_table 0 front in
        let r = escrow_table.row e.key at n in
        let c = rows_length escrow_lawful 0 front in
        let s : suc k ≡ length rows + 1 = omega arith in
        let later : drop (suc k) (rows ++ (r ∷ behind (at + n))) ≡ behind (at + n) =
        rw s (drop-append-add rows (r ∷ behind (at + n)) 1) in
        rw (among_rows e, among_rows (spent e), take_at rows (r ∷ behind (at + n)) k c, later, behind_down n, add-zero at)

    closed_values : bytes_used (among e) ≤ 4096
        → let values = padded 4096 0 (values_of (among e)) in
        padded 4096 0 (values_of (among (spent e))) ≡ take at values ++ (drop (at + n) values ++ replicate n 0)
    unfolding padded spent
    closed_values fits =
        let front-values = values_of front in
        let rest-values = values_of rest in
        let v = e.value in
        let before : values_of (among e) ≡ front-values ++ (v ++ rest-values) = unfold values_of in values_append front (e ∷ rest) in
        let after : values_of (among (spent e)) ≡ front-values ++ rest-values =
        unfold values_of in values_append front (spent e ∷ rest) in
        let zeros : List ℕ = replicate (4096 - length (front-values ++ (v ++ rest-values))) 0 in
        let whole : (front-values ++ (v ++ rest-values)) ++ zeros ≡ front-values ++ (v ++ (rest-values ++ zeros)) =
        simp append_assoc in
        let a : length front-values ≡ at = values_length front in
        let total : length (values_of (among e)) ≡ bytes_used (among e) = values_length (among e) in
        let parts : length (values_of (among e)) ≡ length front-values + (n + length rest-values) =
        rw (before, length-append, length-append) in
        let few : length (front-values ++ rest-values) ≡ length front-values + length rest-values = length-append front-values rest-values in
        let many : length (front-values ++ (v ++ rest-values)) ≡ length front-values + (n + length rest-values) = sym (ap length before) ∙ parts in
        let room : 4096 - length (front-values ++ rest-values) ≡ (4096 - length (front-values ++ (v ++ rest-values))) + n = omega arith in
        let later : drop (at + n) (front-values ++ (v ++ (rest-values ++ zeros))) ≡ rest-values ++ zeros =
        rw (← a, drop-append-add front-values (v ++ (rest-values ++ zeros)) n) (drop_at v (rest-values ++ zeros) n refl) in
        rw (
          after,
          before,
          whole,
          take_at front-values (v ++ (rest-values ++ zeros)) at a,
          later,
          room,
          ← replicate-append-replicate {A = ℕ} (4096 - length (front-values ++ (v ++ rest-values))) n 0,
        )
        (simp append_assoc)

    closed_counts : used_by (among (spent e)) ≡ record { rows = length (among e); bytes = bytes_used (among e) - n }
    unfolding bytes_used spent
    closed_counts =
        let rows : length (among (spent e)) ≡ length (among e) = rw (length-append, length-append) in
        let b = bytes_append front (e ∷ rest) in
        let c = bytes_append front (spent e ∷ rest) in
        let bytes : bytes_used (among (spent e)) ≡ bytes_used (among e) - n = omega arith in
        λ i. record { rows = rows i; bytes = bytes i }

    -- the tables of a state whose escrow has such an entry
    pub released_tables : (s : State) → s.escrow ≡ among e → bytes_used (among e) ≤ 4096
        → tables (with_common s s.shared s.log (among (spent e))) ≡ with_released (tables s) k
    unfolding tables box_record with_released
    released_tables s is fits = rw (is, closed_counts, closed_values fits, closed_rows, row_is)
