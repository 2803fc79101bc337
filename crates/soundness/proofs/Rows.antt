-- The rows of a table, for the log and the escrow both: what one turn of a loop adds, and that the test of rows in one pass is
-- the definition's clauses together. Assumes nothing.
use Prim.Native.Nat.{ℕ, ◌+◌, ◌≤◌, ◌<◌}
use mathlib.Core.Path.{◌≡◌, refl, sym, ap, ◌∙◌}
use mathlib.Core.Bool.{Bool, true, ◌&&◌}
use mathlib.Core.List.{List, [], ◌∷◌}
use native.Mathlib.Omega.{arith}
use native.Mathlib.Numerals.{add-one}
use lib.Dec.{eqb, leb}
use lib.ListN.{length, get_or, drop, drop_of_length-le}
use lib.Seq.{drop-cons, take-length}
use borrow.Author.Tests.{eqb-true, leb-true, le-leb}
use Rattle.ideal.specs.State.{Entry, every}
use Rattle.ideal.specs.Tables.{RowsOf, entry_of, entries_of}
use Rattle.ideal.specs.Fit.{RowsFit}
use Rattle.ideal.specs.Soundness.{chained, short}
use Rattle.ideal.proofs.Fit.{fits_less, chain_fits}
use Rattle.lists.proofs.Bools.{and_left, and_right, and_true, and_nil, and_swap}
use Rattle.soundness.specs.Tests.{row_sound, rows_sound}

module _ {Row Key : Type 0} (t : RowsOf Row Key) where
  pub every_entry : (values : List ℕ) (p : Entry Key → Bool) (rs : List Row)
      → every p (entries_of t values rs) ≡ every (λ r. p (entry_of t values r)) rs
  unfolding every entries_of
  every_entry values p [] = refl
  every_entry values p (r ∷ rs) = ap (λ b. p (entry_of t values r) && b) (every_entry values p rs)

  -- the rows of a chain lie within the bytes that its end lies in
  pub chain_within : (end at m : ℕ) (rs : List Row) → end ≤ m → chained t end at rs ≡ true
      → (at ≤ m) × (every (λ r. leb (t.first r + t.size r) m) rs ≡ true)
  unfolding chained every
  chain_within end at m [] h c = (let e = eqb-true at end c in omega arith, refl)
  chain_within end at m (r ∷ rs) h c =
      let e = eqb-true (t.first r) at (and_left (eqb (t.first r) at) _ c) in
      let (le, rest) = chain_within end (at + t.size r) m rs h (and_right (eqb (t.first r) at) _ c) in
      let l : t.first r + t.size r ≤ m = omega arith in
      (omega arith, and_true _ _ (le-leb _ _ l) rest)

  module _ (right : Row → Bool) where
    -- one row on
    pub rows_step : (end at : ℕ) (rows : List Row) (i : ℕ) → i < length rows
        → rows_sound t right end at (drop i rows)
        ≡ row_sound t right at (get_or rows i t.blank)
        && rows_sound t right end (at + t.size (get_or rows i t.blank)) (drop (i + 1) rows)
    unfolding rows_sound
    rows_step end at rows i h = rw (drop-cons rows i t.blank h, add-one i)

    -- a sound row holds a value's 256 bytes at most
    pub right_short : (at : ℕ) (r : Row) → row_sound t right at r ≡ true → t.size r ≤ 256
    unfolding row_sound
    right_short at r h = leb-true _ _ (and_left (leb (t.size r) 256) _ (and_right (eqb (t.first r) at) _ h))

    -- the next row begins where a sound row ends
    pub rows_more : (end at : ℕ) (rows : List Row) (i : ℕ) → i < length rows → row_sound t right at (get_or rows i t.blank) ≡ true
        → rows_sound t right end at (drop i rows)
        ≡ rows_sound t right end (t.first (get_or rows i t.blank) + t.size (get_or rows i t.blank)) (drop (i + 1) rows)
    unfolding row_sound
    rows_more end at rows i h e =
        let r = get_or rows i t.blank in
        let begins = eqb-true (t.first r) at (and_left (eqb (t.first r) at) _ e) in
        rw (begins, rows_step end at rows i h, e)

    -- behind the rows their end is left to be tested
    pub rows_ended : (end at : ℕ) (rows : List Row) (i : ℕ) → length rows ≤ i → rows_sound t right end at (drop i rows) ≡ eqb at end
    unfolding rows_sound
    rows_ended end at rows i h = rw (drop_of_length-le rows {i = i} h)

    -- the clauses apart
    pub rows_clauses : (end at : ℕ) (rs : List Row)
        → rows_sound t right end at rs ≡ chained t end at rs && (short t rs && every right rs)
    unfolding rows_sound row_sound chained short every
    rows_clauses end at [] = sym (and_nil (eqb at end))
    rows_clauses end at (r ∷ rs) =
        let c = chained t end (at + t.size r) rs in
        let s = short t rs in
        let e = every right rs in
        let f = eqb (t.first r) at in
        let l = leb (t.size r) 256 in
        rw (rows_clauses end (at + t.size r) rs) (and_swap f (l && right r) c (s && e) ∙ ap (λ b. (f && c) && b) (and_swap l (right r) s e))

    -- such rows lie within the bytes that their end lies in
    pub rows_fit : (end m : ℕ) (rows : List Row) → end ≤ m → rows_sound t right end 0 rows ≡ true → RowsFit t rows (length rows) m
    rows_fit end m rows l h =
        let n = length rows in
        let chain = and_left (chained t end 0 rows) _ (sym (rows_clauses end 0 rows) ∙ h) in
        fits_less t rows n n m end (omega arith) l (chain_fits t rows n end 0 (omega arith) (rw take-length chain))
