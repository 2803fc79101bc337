-- One entry more in a table is the next row set, its value's bytes behind those used, and the counts raised; for the log and
-- the escrow both. Assumes nothing.
use Prim.Native.Nat.{ℕ, zero, suc, ◌+◌, ◌-◌, ◌≤◌, ◌<◌}
use mathlib.Core.Path.{◌≡◌, refl, ◌∙◌}
use mathlib.Core.List.{List, [], ◌∷◌, ◌++◌, append_assoc, append-nil}
use native.Mathlib.Omega.{arith}
use native.Mathlib.Nat.{zero-add, add-zero}
use lib.ListN.{length, drop, set, replicate, length-append, length-replicate}
use lib.Seq.{sets, sets-eq, set_at, take_at, drop-append-add, drop-nil}
use Rattle.ideal.specs.State.{Entry, bytes_used}
use Rattle.ideal.specs.Tables.{RowsOf, padded, values_of, used_by, rows_from, rows_of}
use Rattle.ideal.proofs.Lists.{bytes_more}
use Rattle.ideal.proofs.Table.{Lawful, rows_length, values_length}

drop_replicate : {A : Type 0} (k n : ℕ) (z : A) → drop k (replicate n z) ≡ replicate (n - k) z
drop_replicate zero n z = let e : n - 0 ≡ n = omega arith in rw e
drop_replicate (suc k) zero z = let e : 0 - suc k ≡ 0 = omega arith in rw e (drop-nil (suc k))
drop_replicate (suc k) (suc n) z = let e : suc n - suc k ≡ n - k = omega arith in rw e (drop_replicate k n z)

-- ---- padding

padded_more : {A : Type 0} (n m : ℕ) (z x : A) (l : List A) → length l ≡ m → m < n
    → padded n z (l ++ (x ∷ [])) ≡ set (padded n z l) m x
unfolding padded
padded_more n m z x l e h =
    let a : n - length (l ++ (x ∷ [])) ≡ n - suc m = rw length-append (omega arith) in
    let b : n - length l ≡ suc (n - suc m) = omega arith in
    rw (a, b, set_at l z (replicate (n - suc m) z) x m e, append_assoc)

padded_sets : (n m z : ℕ) (v l : List ℕ) → length l ≡ m → m + length v ≤ n → padded n z (l ++ v) ≡ sets (padded n z l) m v
unfolding padded
padded_sets n m z v l e h =
    let p = replicate (n - length l) z in
    let a : n - length (l ++ v) ≡ (n - length l) - length v = rw length-append (omega arith) in
    let f : m + length v ≤ length (l ++ p) = simp (length-append, length-replicate) (omega arith) in
    rw (
      sets-eq v (l ++ p) m f,
      take_at l p m e,
      ← e,
      drop-append-add l p (length v),
      drop_replicate (length v) (n - length l) z,
      a,
      append_assoc,
    )

-- ---- entries

pub values_append : {Key : Type 0} (l m : List (Entry Key)) → values_of (l ++ m) ≡ values_of l ++ values_of m
unfolding values_of
values_append [] m = refl
values_append (r ∷ l) m = rw (values_append l m, append_assoc)

values_more : {Key : Type 0} (l : List (Entry Key)) (e : Entry Key) → values_of (l ++ (e ∷ [])) ≡ values_of l ++ e.value
unfolding values_of
values_more l e = values_append l (e ∷ []) ∙ rw (append-nil e.value)

pub rows_append : {Row Key : Type 0} (t : RowsOf Row Key) (at : ℕ) (l m : List (Entry Key))
    → rows_from t at (l ++ m) ≡ rows_from t at l ++ rows_from t (at + bytes_used l) m
unfolding rows_from bytes_used
rows_append t at [] m = rw (add-zero at)
rows_append t at (r ∷ l) m =
    let n = length r.value in
    let k : (at + n) + bytes_used l ≡ at + (n + bytes_used l) = omega arith in
    rw (rows_append t (at + n) l m, k)

rows_more : {Row Key : Type 0} (t : RowsOf Row Key) (at : ℕ) (l : List (Entry Key)) (e : Entry Key)
    → rows_from t at (l ++ (e ∷ [])) ≡ rows_from t at l ++ (t.row e.key (at + bytes_used l) (length e.value) ∷ [])
unfolding rows_from
rows_more t at l e = rows_append t at l (e ∷ [])

-- ---- a whole table

pub row_added : {Row Key : Type 0} {t : RowsOf Row Key} → Lawful t → (l : List (Entry Key)) (e : Entry Key) → length l < 64
    → rows_of t (l ++ (e ∷ [])) ≡ set (rows_of t l) (length l) (t.row e.key (bytes_used l) (length e.value))
unfolding rows_of
row_added {t} law l e h =
    rw (rows_more t 0 l e, zero-add (bytes_used l))
    (padded_more 64 (length l) t.blank _ (rows_from t 0 l) (rows_length law 0 l) h)

module _ {Key : Type 0} (l : List (Entry Key)) (e : Entry Key) where
  pub value_added : bytes_used l + length e.value ≤ 4096
      → padded 4096 0 (values_of (l ++ (e ∷ []))) ≡ sets (padded 4096 0 (values_of l)) (bytes_used l) e.value
  value_added h = rw (values_more l e) (padded_sets 4096 (bytes_used l) 0 e.value (values_of l) (values_length l) h)

  pub counts_raised : used_by (l ++ (e ∷ [])) ≡ record { rows = length l + 1; bytes = bytes_used l + length e.value }
  counts_raised = λ i. record { rows = length-append l (e ∷ []) i; bytes = bytes_more l e i }
