-- What a search finds, where no two elements that pass the test are in the list. Assumes nothing.
use Prim.Native.Nat.{ℕ}
use mathlib.Core.Path.{◌≡◌, ap}
use mathlib.Core.Logic.{inl, inr}
use mathlib.Core.Bool.{Bool, true, false, not, ◌&&◌, false≢true}
use mathlib.Core.List.{List, [], ◌∷◌}
use mathlib.Core.Option.{Option, some}
use native.Mathlib.Omega.{arith}
use borrow.Author.Tests.{not-true}
use Rattle.ideal.specs.State.{Escrowed, any, find}
use Rattle.ideal.specs.Step.{absent}
use Rattle.ideal.specs.Soundness.{differ}
use Rattle.lists.proofs.Bools.{by_cases, clash, and_left, and_right, and_true, or_split, or_true_left, or_true_right}
use Rattle.lists.proofs.Lists.{any_at, at_any, none_find}

module _ {A : Type 0} (p q : A → Bool) where
  pub found_any : (l : List A) (a : A) → find p l ≡ some a → q a ≡ true → any (λ b. p b && q b) l ≡ true
  unfolding any find
  found_any [] a h k = absurd (let z : ◌≡◌ {A = ℕ} 0 1 = cc in omega arith)
  found_any (b ∷ l) a h k =
      by_cases (p b)
      (λ e. let g : ◌≡◌ {A = Option A} (some b) (some a) = rw e at h in let c : b ≡ a = cc in
      or_true_left _ _ (and_true (p b) (q b) e (rw c k)))
      (λ e. or_true_right (p b && q b) _ (found_any l a (rw e at h) k))

  pub record Found (l : List A) : Type 0 where
    pub element : A
    pub is : find p l ≡ some element
    pub passes : q element ≡ true

module _ {A : Type 0} (same : A → A → Bool) (p q : A → Bool)
    (like : (a b : A) → p a ≡ true → p b ≡ true → same a b ≡ true) where
  later_like : (b : A) (l : List A) → p b ≡ true → any (λ a. p a && q a) l ≡ true → any (same b) l ≡ true
  later_like b l e h =
      let r = any_at (λ a. p a && q a) l h in
      at_any (same b) l b r.index r.within (like b _ e (and_left _ _ (r.passes b)))

  pub finds : (l : List A) → differ same l ≡ true → any (λ a. p a && q a) l ≡ true → Found p q l
  unfolding differ any find
  finds [] d h = absurd (false≢true h)
  finds (b ∷ l) d h =
      by_cases (p b)
      (λ e.
      record {
        element = b;
        is = rw e;
        passes =
            elim (or_split (p b && q b) (any (λ a. p a && q a) l) h) [
              | inl x ↦ and_right (p b) (q b) x
              | inr y ↦ clash _ (later_like b l e y) (not-true (any (same b) l) (and_left _ _ d))
            ];
      })
      (λ e.
      let r = finds l (and_right (not (any (same b) l)) _ d) (rw e at h) in
      record { element = r.element; is = rw e r.is; passes = r.passes })

-- what is not absent is there
pub present : (p : Escrowed → Bool) (l : List Escrowed) → absent (find p l) ≡ false → any p l ≡ true
unfolding absent
present p l h = by_cases (any p l) (λ t. t) (λ f. clash (absent (find p l)) (ap absent (none_find p l f)) h)
