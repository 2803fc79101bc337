-- Searches in lists. Assumes nothing.
use Prim.Native.Nat.{ℕ, zero, suc, ◌+◌, ◌≤◌, ◌<◌}
use mathlib.Core.Path.{◌≡◌, refl, sym, ap, ◌∙◌}
use mathlib.Core.Logic.{inl, inr}
use mathlib.Core.Bool.{Bool, true, false, ◌&&◌, ◌||◌, false≢true}
use mathlib.Core.List.{List, [], ◌∷◌, ◌++◌}
use mathlib.Core.Option.{Option, none, some}
use native.Mathlib.Omega.{arith}
use native.Mathlib.Numerals.{add-one}
use lib.ListN.{length, get_or, take, drop, length-take, length-append}
use lib.Seq.{drop-cons, get_or-take, get_or-append_seam}
use lib.Dec.{eqb}
use borrow.Author.Tests.{eqb-true, eq-eqb}
use Rattle.lists.specs.Lists.{any, every, find, position, same_bytes}
use Rattle.lists.proofs.Bools.{by_cases, and_left, and_right, and_true, or_true_left, or_true_right, or_split, or_false, or_false_left, or_false_right, or_assoc, or_nil, and_assoc, and_nil}

pub same_bytes_lem : (v w : List ℕ) → same_bytes v w ≡ true → v ≡ w
unfolding same_bytes
same_bytes_lem [] [] e = refl
same_bytes_lem [] (b ∷ w) e = absurd (false≢true e)
same_bytes_lem (a ∷ v) [] e = absurd (false≢true e)
same_bytes_lem (a ∷ v) (b ∷ w) e =
    let h = eqb-true a b (and_left (eqb a b) _ e) in
    let t = same_bytes_lem v w (and_right (eqb a b) _ e) in
    cc

pub same_bytes_refl : (v : List ℕ) → same_bytes v v ≡ true
unfolding same_bytes
same_bytes_refl [] = refl
same_bytes_refl (a ∷ v) = and_true (eqb a a) _ (eq-eqb a a refl) (same_bytes_refl v)

module _ {A : Type 0} (p : A → Bool) where
  pub any_append : (l m : List A) → any p (l ++ m) ≡ any p l || any p m
  unfolding any
  any_append [] m = refl
  any_append (a ∷ l) m = ap (λ x. p a || x) (any_append l m) ∙ sym (or_assoc (p a) (any p l) (any p m))

  pub any_one : (a : A) → any p (a ∷ []) ≡ p a
  unfolding any
  any_one a = or_nil (p a)

  pub every_append : (l m : List A) → every p (l ++ m) ≡ every p l && every p m
  unfolding every
  every_append [] m = refl
  every_append (a ∷ l) m = ap (λ x. p a && x) (every_append l m) ∙ sym (and_assoc (p a) (every p l) (every p m))

  pub every_one : (a : A) → every p (a ∷ []) ≡ p a
  unfolding every
  every_one a = and_nil (p a)

  -- one more that passes
  pub every_more : (l : List A) (a : A) → every p l ≡ true → p a ≡ true → every p (l ++ (a ∷ [])) ≡ true
  every_more l a h k = rw (every_append l (a ∷ []), h, every_one a) k

  pub every_at : (l : List A) (d : A) (k : ℕ) → every p l ≡ true → k < length l → p (get_or l k d) ≡ true
  unfolding every
  every_at [] d k h n = absurd (omega arith)
  every_at (a ∷ l) d zero h n = and_left (p a) _ h
  every_at (a ∷ l) d (suc k) h n = every_at l d k (and_right (p a) _ h) (omega arith)

  -- where one passes, there is an index, and the other way
  pub record At (l : List A) : Type 0 where
    pub index : ℕ
    pub within : index < length l
    pub passes : (d : A) → p (get_or l index d) ≡ true

  pub any_at : (l : List A) → any p l ≡ true → At l
  unfolding any
  any_at [] h = absurd (false≢true h)
  any_at (a ∷ l) h =
      elim (or_split (p a) (any p l) h) [
        | inl x ↦ record { index = 0; within = omega arith; passes = λ d. x }
        | inr y ↦ let r = any_at l y in
            record { index = suc r.index; within = let w = r.within in omega arith; passes = r.passes }
      ]

  pub at_any : (l : List A) (d : A) (k : ℕ) → k < length l → p (get_or l k d) ≡ true → any p l ≡ true
  unfolding any
  at_any [] d k n h = absurd (omega arith)
  at_any (a ∷ l) d zero n h = or_true_left (p a) _ h
  at_any (a ∷ l) d (suc k) n h = or_true_right (p a) _ (at_any l d k (omega arith) h)

  -- what a search finds passes, and it finds something where one passes
  pub find_passes : (l : List A) (a : A) → find p l ≡ some a → p a ≡ true
  unfolding find
  find_passes [] a h = absurd (let z : ◌≡◌ {A = ℕ} 0 1 = cc in omega arith)
  find_passes (b ∷ l) a h =
      by_cases (p b)
      (λ e. let g : ◌≡◌ {A = Option A} (some b) (some a) = rw e at h in let q : b ≡ a = cc in rw (← q) e)
      (λ e. find_passes l a (rw e at h))

  pub find_none : (l : List A) → find p l ≡ none → any p l ≡ false
  unfolding find any
  find_none [] h = refl
  find_none (b ∷ l) h =
      by_cases (p b)
      (λ e. let g : ◌≡◌ {A = Option A} (some b) none = rw e at h in absurd (let z : ◌≡◌ {A = ℕ} 0 1 = cc in omega arith))
      (λ e. or_false (p b) _ e (find_none l (rw e at h)))

  pub none_find : (l : List A) → any p l ≡ false → find p l ≡ none
  unfolding find any
  none_find [] h = refl
  none_find (b ∷ l) h = rw (or_false_left (p b) _ h) (none_find l (or_false_right (p b) _ h))

  -- the first that passes, with those before it and those after it
  pub record Split (l : List A) : Type 0 where
    pub front : List A
    pub here : A
    pub rest : List A
    pub is : l ≡ front ++ (here ∷ rest)
    pub passes : p here ≡ true
    pub at : position p l ≡ length front

  pub split : (l : List A) → any p l ≡ true → Split l
  unfolding any position
  split [] h = absurd (false≢true h)
  split (a ∷ l) h =
      by_cases (p a)
      (λ e. record { front = []; here = a; rest = l; is = refl; passes = e; at = rw e })
      (λ e.
      let r = split l (rw e at h) in
      let q = r.is in
      record {
        front = a ∷ r.front;
        here = r.here;
        rest = r.rest;
        is = λ i. a ∷ q i;
        passes = r.passes;
        at = rw (e, r.at);
      })

  pub position_within : (l : List A) → any p l ≡ true → position p l < length l
  position_within l h =
      let s = split l h in
      let n = ap length s.is ∙ length-append s.front (s.here ∷ s.rest) in
      let m = s.at in
      omega arith

  pub position_passes : (l : List A) (d : A) → any p l ≡ true → p (get_or l (position p l) d) ≡ true
  position_passes l d h =
      let s = split l h in
      rw s.at (ap (λ m. p (get_or m (length s.front) d)) s.is ∙ rw (get_or-append_seam s.front s.here s.rest d) s.passes)

-- what is left of the first n, one on
pub one_on : {A : Type 0} (l : List A) (n i : ℕ) (d : A) → i < n → n ≤ length l
    → drop i (take n l) ≡ get_or l i d ∷ drop (i + 1) (take n l)
one_on l n i d p q =
    let h : i < length (take n l) = simp length-take (omega arith) in
    rw (add-one i, drop-cons (take n l) i d h, get_or-take n l i d p)
