-- A list that is written over the front of another, one element a turn, in order.
--     written      one element more
--     all_written, all_over     after the last: every element of the one is written, or every element of the other is written over
-- Assumes nothing.
use mathlib.Core.Path.{◌≡◌, refl, sym, ◌∙◌, ap}
use Prim.Native.Nat.{ℕ, zero, suc, ◌+◌, ◌≤◌, ◌<◌}
use native.Mathlib.Nat.{le_antisymm, le_of_suc-le-suc, not-suc-le-zero, add-suc, add-zero}
use mathlib.Core.List.{List, [], ◌∷◌, ◌++◌, append-nil}
use lib.ListN.{length, get_or, set, take, drop}
use lib.Seq.{take-length, drop-length}

one_more : (i : ℕ) → i + 1 ≡ suc i
one_more i = add-suc i zero ∙ ap suc (add-zero i)

module _ {A : Type 0} where
  set_next : (xs bs : List A) (i : ℕ) (d : A) → i < length xs → i < length bs → set (take i xs ++ drop i bs) i (get_or xs i d) ≡ take (suc i) xs ++ drop (suc i) bs
  set_next [] bs i d lx lb = absurd (not-suc-le-zero lx)
  set_next (x ∷ xs) [] i d lx lb = absurd (not-suc-le-zero lb)
  set_next (x ∷ xs) (b ∷ bs) zero d lx lb = refl
  set_next (x ∷ xs) (b ∷ bs) (suc i) d lx lb = ap {B = List A} (λ r. x ∷ r) (set_next xs bs i d (le_of_suc-le-suc lx) (le_of_suc-le-suc lb))

  pub written : (xs bs acc : List A) (i : ℕ) (r d : A) → i < length xs → i < length bs → acc ≡ take i xs ++ drop i bs → r ≡ get_or xs i d → set acc i r ≡ take (i + 1) xs ++ drop (i + 1) bs
  written xs bs acc i r d lx lb ea er =
      ap (λ (l : List A). set l i r) ea ∙ ap (set (take i xs ++ drop i bs) i) er ∙ set_next xs bs i d lx lb ∙ ap (λ (n : ℕ). take n xs ++ drop n bs) (sym (one_more i))

  pub all_written : (xs bs acc : List A) (i : ℕ) → i ≤ length xs → length xs ≤ i → acc ≡ take i xs ++ drop i bs → acc ≡ xs ++ drop (length xs) bs
  all_written xs bs acc i le ge ea = ea ∙ ap (λ (n : ℕ). take n xs ++ drop n bs) (le_antisymm le ge) ∙ ap (λ (l : List A). l ++ drop (length xs) bs) (take-length xs)

  pub all_over : (xs bs acc : List A) (i : ℕ) → i ≤ length bs → length bs ≤ i → acc ≡ take i xs ++ drop i bs → acc ≡ take (length bs) xs
  all_over xs bs acc i le ge ea = ea ∙ ap (λ (n : ℕ). take n xs ++ drop n bs) (le_antisymm le ge) ∙ ap (λ (l : List A). take (length bs) xs ++ l) (drop-length bs) ∙ append-nil (take (length bs) xs)
