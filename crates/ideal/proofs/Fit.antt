-- The rows of a sound table fit its value bytes. Assumes nothing.
use Prim.Native.Nat.{ℕ, zero, suc, ◌+◌, ◌≤◌}
use mathlib.Core.Path.{◌≡◌}
use mathlib.Core.Bool.{true}
use mathlib.Core.List.{List, [], ◌∷◌}
use native.Mathlib.Omega.{arith}
use lib.ListN.{length, take}
use lib.Seq.{length-take-le, get_or-take}
use lib.Dec.{eqb}
use borrow.Author.Tests.{eqb-true}
use Rattle.ideal.specs.declared.Used.{Used}
use Rattle.ideal.specs.Tables.{RowsOf}
use Rattle.ideal.specs.Soundness.{chained}
use Rattle.ideal.specs.Fit.{RowsFit}
use Rattle.lists.proofs.Bools.{and_left, and_right}
use Rattle.ideal.proofs.Table.{Stands}

module _ {Row Key : Type 0} (t : RowsOf Row Key) where
  -- fewer rows, within more bytes
  pub fits_less : (rows : List Row) (n n₀ m m₀ : ℕ) → n ≤ n₀ → m₀ ≤ m → RowsFit t rows n₀ m₀ → RowsFit t rows n m
  unfolding RowsFit
  fits_less rows n n₀ m m₀ h l f k p = let q = f k (omega arith) in omega arith

  fits_cons : (r : Row) (rs : List Row) (n m : ℕ) → t.first r + t.size r ≤ m → RowsFit t rs n m → RowsFit t (r ∷ rs) (suc n) m
  unfolding RowsFit
  fits_cons r rs n m h f zero p = h
  fits_cons r rs n m h f (suc k) p = f k (omega arith)

  chain_within : (end at : ℕ) (rs : List Row) → chained t end at rs ≡ true → (at ≤ end) × RowsFit t rs (length rs) end
  unfolding chained RowsFit
  chain_within end at [] h = (let e = eqb-true at end h in omega arith, λ k p. absurd (omega arith))
  chain_within end at (r ∷ rs) h =
      let e = eqb-true (t.first r) at (and_left (eqb (t.first r) at) _ h) in
      let (le, fit) = chain_within end (at + t.size r) rs (and_right (eqb (t.first r) at) _ h) in
      (omega arith, fits_cons r rs (length rs) end (omega arith) fit)

  -- the rows of a chain lie before its end
  pub chain_fits : (rows : List Row) (n end at : ℕ) → n ≤ length rows → chained t end at (take n rows) ≡ true → RowsFit t rows n end
  unfolding RowsFit
  chain_fits rows n end at h c k p =
      let f = (chain_within end at (take n rows) c).1 k (rw (length-take-le n rows h) p) in
      rw (get_or-take n rows k t.blank p) at f

  pub rows_fit : (rows : List Row) (values : List ℕ) (used : Used) → Stands t rows values used → RowsFit t rows used.rows (length values)
  rows_fit rows values used s =
      let few = s.few in
      let fits = s.fits in
      let n = s.row_count in
      let m = s.value_count in
      fits_less rows used.rows used.rows (length values) used.bytes (omega arith) (omega arith)
      (chain_fits rows used.rows used.bytes 0 (omega arith) s.chain)
