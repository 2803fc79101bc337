-- The free handle: among more candidates than the escrow has rows one is in no row, and the search finds the first such.
-- Of the step from draw to draw the search needs only `next_small` and `draws_differ`. Assumes nothing.
use Prim.Native.Nat.{ℕ, zero, suc, ◌/◌, ◌^◌, ◌≤◌, ◌<◌}
use mathlib.Core.Path.{◌≡◌, refl, sym, ap, ◌∙◌}
use mathlib.Core.Bool.{Bool, true, false, cond, false≢true}
use mathlib.Core.List.{List, [], ◌∷◌}
use native.Mathlib.Omega.{arith}
use lib.ListN.{length}
use lib.Dec.{ltb}
use borrow.Author.Tests.{ltb-true, ltb-false, eqb-true, ne_eqb}
use Rattle.record.specs.declared.Handle.{Handle}
use Rattle.record.specs.declared.Draw.{Draw}
use Rattle.ideal.specs.State.{Escrowed, any}
use Rattle.ideal.specs.Step.{has_handle, handle_of, next, free_from, free_handle}
use Rattle.ideal.specs.Accuracy.{iterate, candidate}
use Rattle.lists.proofs.Bools.{by_cases, clash}
use Rattle.ideal.proofs.Draws.{draws_differ}

-- ---- more tests than elements, and no element passes two: some test no element passes

module _ {A : Type 0} where
  without : (A → Bool) → List A → List A
  without p [] = []
  without p (a ∷ l) = cond (p a) (without p l) (a ∷ without p l)

  without_le : (p : A → Bool) (l : List A) → length (without p l) ≤ length l
  unfolding without
  without_le p [] = omega arith
  without_le p (a ∷ l) = let w = without_le p l in by_cases (p a) (λ e. rw e (omega arith)) (λ e. rw e (omega arith))

  without_lt : (p : A → Bool) (l : List A) → any p l ≡ true → length (without p l) < length l
  unfolding without any
  without_lt p [] h = absurd (false≢true h)
  without_lt p (a ∷ l) h =
      by_cases (p a)
      (λ e. let w = without_le p l in rw e (omega arith))
      (λ e. let w = without_lt p l (rw e at h) in rw e (omega arith))

  any_without : (p q : A → Bool) (l : List A) → ((a : A) → p a ≡ true → q a ≡ false) → any q (without p l) ≡ any q l
  unfolding without any
  any_without p q [] n = refl
  any_without p q (a ∷ l) n =
      let w = any_without p q l n in by_cases (p a) (λ e. rw (e, w, n a e)) (λ e. rw (e, w))

  -- no element passes two of the first n tests
  abbrev Apart : ℕ → (ℕ → A → Bool) → Type 0
  Apart n t = (i j : ℕ) → i < j → j < n → (a : A) → t i a ≡ true → t j a ≡ false

  record Unpassed (n : ℕ) (t : ℕ → A → Bool) (l : List A) : Type 0 where
    index : ℕ
    within : index ≤ n
    none : any (t index) l ≡ false

  unpassed : (n : ℕ) (t : ℕ → A → Bool) (l : List A) → length l ≤ n → Apart (suc n) t → Unpassed n t l
  unfolding any
  unpassed zero t [] h d = record { index = 0; within = omega arith; none = refl }
  unpassed zero t (a ∷ l) h d = absurd (omega arith)
  unpassed (suc n) t l h d =
      by_cases (any (t 0) l)
      (λ e.
      let w = without_lt (t 0) l e in
      let u = unpassed n (λ i. t (suc i)) (without (t 0) l) (omega arith) (λ i j p q. d (suc i) (suc j) (omega arith) (omega arith)) in
      let i = u.index in
      let k = u.within in
      record {
        index = suc i;
        within = omega arith;
        none = sym (any_without (t 0) (t (suc i)) l (d 0 (suc i) (omega arith) (omega arith))) ∙ u.none;
      })
      (λ e. record { index = 0; within = omega arith; none = e })

-- ---- the candidates

-- each draw of the sequence is below 2^48
pub next_small : (k d : ℕ) → d < 2 ^ 48 → iterate next k d < 2 ^ 48
unfolding iterate next
next_small zero d h = h
next_small (suc k) d h = next_small k (next d) (omega arith)

-- no row has two of the candidates
candidates_apart : (size d : ℕ) → Apart 65 (λ k. has_handle (candidate size d k))
unfolding candidate has_handle handle_of
candidates_apart size d i j p q a e =
    let x = eqb-true a.key.handle.0 _ e in
    ne_eqb a.key.handle.0 _ (λ y. draws_differ d i j p q (omega arith))

-- ---- the search

-- h is the first of n + 1 candidates that is in no row, or else the last of them
record Searched (n size draw : ℕ) (l : List Escrowed) (h : Handle) : Type 0 where
  passed : ℕ
  few : passed ≤ n
  is : h ≡ candidate size draw passed
  used : (k : ℕ) → k < passed → any (has_handle (candidate size draw k)) l ≡ true
  stops : passed < n → any (has_handle h) l ≡ false

used_next : (size draw n : ℕ) (l : List Escrowed) → any (has_handle (handle_of size draw)) l ≡ true
    → ((k : ℕ) → k < n → any (has_handle (candidate size (next draw) k)) l ≡ true)
    → (k : ℕ) → k < suc n → any (has_handle (candidate size draw k)) l ≡ true
unfolding candidate iterate
used_next size draw n l e u zero h = e
used_next size draw n l e u (suc k) h = u k (omega arith)

-- one turn: what the search finds from the next draw on where this one's handle is in a row, else that handle
turned : (n size draw : ℕ) (l : List Escrowed) (later : Handle) (b : Bool) → any (has_handle (handle_of size draw)) l ≡ b
    → Searched n size (next draw) l later → Searched (suc n) size draw l (cond b later (handle_of size draw))
unfolding candidate iterate
turned n size draw l later true e r =
    let f = r.few in
    record {
      passed = suc r.passed;
      few = omega arith;
      is = r.is;
      used = used_next size draw r.passed l e r.used;
      stops = λ h. r.stops (omega arith);
    }
turned n size draw l later false e r =
    record { passed = 0; few = omega arith; is = refl; used = λ k h. absurd (omega arith); stops = λ h. e }

searched : (n size draw : ℕ) (l : List Escrowed) → Searched n size draw l (free_from n size draw l)
unfolding free_from candidate iterate
searched zero size draw l =
    record { passed = 0; few = omega arith; is = refl; used = λ k h. absurd (omega arith); stops = λ h. absurd (omega arith) }
searched (suc n) size draw l = turned n size draw l _ _ refl (searched n size (next draw) l)

-- it is in no row, where one of the candidates is in none
found_free : (n size draw : ℕ) (l : List Escrowed) (h : Handle) → Searched n size draw l h
    → Unpassed n (λ k. has_handle (candidate size draw k)) l → any (has_handle h) l ≡ false
found_free n size draw l h r u =
    by_cases (ltb u.index r.passed)
    (λ e. clash _ (r.used u.index (ltb-true _ _ e)) u.none)
    (λ e.
    by_cases (ltb r.passed n)
    (λ f. r.stops (ltb-true _ _ f))
    (λ f.
    let a = ltb-false u.index r.passed e in
    let b = ltb-false r.passed n f in
    let q : r.passed ≡ u.index = omega (arith, u.within, r.few) in
    ap (λ x. any (has_handle x) l) (r.is ∙ ap (candidate size draw) q) ∙ u.none))

-- ---- the free handle

-- h is the first of the candidates that is in no row, and at most 64 are passed over
pub record FirstFreeIn (size draw : ℕ) (l : List Escrowed) (h : Handle) : Type 0 where
  pub passed : ℕ
  pub few : passed ≤ 64
  pub is : h ≡ candidate size draw passed
  pub used : (k : ℕ) → k < passed → any (has_handle (candidate size draw k)) l ≡ true
  pub free : any (has_handle h) l ≡ false

module _ (size : ℕ) (d : Draw) (l : List Escrowed) (few : length l ≤ 64) where
  pub first_free : FirstFreeIn size d.0 l (free_handle size d l)
  unfolding free_handle
  first_free =
      let r = searched 64 size d.0 l in
      let u = unpassed 64 (λ k. has_handle (candidate size d.0 k)) l few (candidates_apart size d.0) in
      record {
        passed = r.passed;
        few = r.few;
        is = r.is;
        used = r.used;
        free = found_free 64 size d.0 l (free_from 64 size d.0 l) r u;
      }

  pub free_handle_lem : any (has_handle (free_handle size d l)) l ≡ false
  free_handle_lem = first_free.free

  -- it carries the length
  pub handle_size : d.0 < 2 ^ 48 → (free_handle size d l).0 / 2 ^ 48 ≡ size
  unfolding candidate handle_of
  handle_size small =
      let e = ap (λ h. h.0) first_free.is in
      let s = next_small first_free.passed d.0 small in
      omega arith
