-- The next draw; and the first 65 draws from any draw on differ: already the 7 lowest bits of the first 128 do. Which of the
-- draws from 0 on has these bits is a polynomial modulo 128, and each step raises it by one: a computed test. Assumes nothing.
use Prim.Native.Nat.{ℕ, zero, suc, ◌+◌, ◌*◌, ◌/◌, ◌%◌, ◌^◌, ◌≤◌, ◌<◌}
use mathlib.Core.Path.{◌≡◌, refl, sym, ap, ◌∙◌}
use mathlib.Core.Bool.{Bool, true, ◌&&◌}
use native.Mathlib.Omega.{arith}
use native.Mathlib.Nat.{mod-add-mod, add-mul-mod_self_left, div-add-mod', mul-le-mul_right}
use native.Mathlib.Decide.{dec_le}
use lib.Dec.{eqb}
use borrow.Author.Tests.{eqb-true}
use Rattle.ideal.specs.Step.{next}
use Rattle.ideal.specs.Accuracy.{iterate}
use Rattle.ideal.specs.Draws.{NextDraw, DrawsDiffer}
use Rattle.lists.proofs.Bools.{and_left, and_right}

pub next_draw : NextDraw
unfolding next
next_draw draw n = (
  λ q. record { small = omega arith; times = (25214903917 * draw + 11) / 2 ^ 48; away = omega arith },
  λ f. let l = f.small in let e = f.away in omega arith,
)

-- ---- a rank that each step raises by one, modulo m, tells the first m apart

rank_apart : (m r i j : ℕ) → i < j → j < m → (r + i) % m ≡ (r + j) % m → ⊥
rank_apart m r i j l h e =
    let p = div-add-mod' (r + i) m in
    let q = div-add-mod' (r + j) m in
    elim (dec_le ((r + j) / m) ((r + i) / m)) [
      | yes a ↦ omega (arith, mul-le-mul_right m a)
      | no a ↦ let b : suc ((r + i) / m) ≤ (r + j) / m = omega arith in omega (arith, mul-le-mul_right m b)
    ]

module _ (m : ℕ) (f rank : ℕ → ℕ) (raises : (x : ℕ) → rank (f x) % m ≡ (rank x + 1) % m) where
  rank_iterate : (k x : ℕ) → rank (iterate f k x) % m ≡ (rank x + k) % m
  unfolding iterate
  rank_iterate zero x = ap (λ r. r % m) (omega arith)
  rank_iterate (suc k) x =
      rank_iterate k (f x) ∙ sym (mod-add-mod (rank (f x)) m k) ∙ rw (raises x, mod-add-mod) (ap (λ r. r % m) (omega arith))

  iterates_differ : (x i j : ℕ) → i < j → j < m → iterate f i x ≡ iterate f j x → ⊥
  iterates_differ x i j l h e =
      rank_apart m (rank x) i j l h (sym (rank_iterate i x) ∙ ap (λ y. rank y % m) e ∙ rank_iterate j x)

-- ---- the draws

-- where a number stands among the draws from 0, modulo 128
rank : ℕ → ℕ
rank y = 41 * y + 126 * y * y + 16 * y * y * y

-- the next draw's rank is one more, by the 7 lowest bits of both
raised : ℕ → Bool
raised y = eqb (rank ((109 * y + 11) % 128) % 128) ((rank y + 1) % 128)

-- the test at every number below n, computed
unfoldable pub below : ℕ → (ℕ → Bool) → Bool
below zero t = true
below (suc n) t = t zero && below n (λ k. t (suc k))

pub at_below : (n : ℕ) (t : ℕ → Bool) → below n t ≡ true → (i : ℕ) → i < n → t i ≡ true
unfolding below
at_below zero t e i l = absurd (omega arith)
at_below (suc n) t e zero l = and_left (t zero) _ e
at_below (suc n) t e (suc i) l = at_below n (λ k. t (suc k)) (and_right (t zero) _ e) i (omega arith)

all_raised : below 128 raised ≡ true
unfolding below raised rank
all_raised = refl

-- of the multiplier, 25214903917, the 7 lowest bits are 109
next_low : (x : ℕ) → next x % 128 ≡ (109 * (x % 128) + 11) % 128
unfolding next
next_low x =
    let low : next x % 128 ≡ (25214903917 * x + 11) % 128 = omega arith in
    let high = 109 * (x / 128) + 196991436 * x in
    low ∙ ap (λ y. y % 128) (omega arith) ∙ add-mul-mod_self_left (109 * (x % 128) + 11) 128 high

pub draws_differ : DrawsDiffer
unfolding raised
draws_differ draw i j l h =
    iterates_differ 128 next (λ x. rank (x % 128))
    (λ x.
    rw next_low
    (eqb-true (rank ((109 * (x % 128) + 11) % 128) % 128) _ (at_below 128 raised all_raised (x % 128) (omega arith))))
    draw i j l (omega arith)
