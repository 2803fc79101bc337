-- The escrow after a release: every entry stays, under its handle, and the one that is named is spent. Assumes nothing.
use Prim.Native.Nat.{ℕ, ◌≤◌}
use mathlib.Core.Path.{◌≡◌, refl, sym, ◌∙◌}
use mathlib.Core.Bool.{Bool, true, false, not}
use mathlib.Core.List.{List, [], ◌∷◌, ◌++◌, map}
use native.Mathlib.Omega.{arith}
use lib.ListN.{length, length-map}
use lib.Dec.{eqb}
use borrow.Author.Tests.{eqb-true, eq-eqb, not-true}
use Rattle.record.specs.declared.Handle.{Handle}
use Rattle.ideal.specs.State.{Escrowed, any, every, bytes_used}
use Rattle.ideal.specs.Step.{has_handle, is_named, spent, given_up}
use Rattle.ideal.specs.Soundness.{differ, same_handle}
use Rattle.lists.proofs.Bools.{by_cases, clash, and_left, and_right, and_true, or_false_left, or_false_right, or_true_right}
use Rattle.lists.proofs.Lists.{any_append, at_any}
use Rattle.ideal.proofs.Entries.{good_escrowed, is_short, EscrowGood}

-- ---- tests of a list that is mapped

module _ {A : Type 0} (f : A → A) where
  pub any_map : (p q : A → Bool) → ((a : A) → p (f a) ≡ q a) → (l : List A) → any p (map f l) ≡ any q l
  unfolding any
  any_map p q e [] = refl
  any_map p q e (a ∷ l) = rw (e a, any_map p q e l)

  every_map : (p : A → Bool) → ((a : A) → p a ≡ true → p (f a) ≡ true) → (l : List A) → every p l ≡ true
      → every p (map f l) ≡ true
  unfolding every
  every_map p e [] h = refl
  every_map p e (a ∷ l) h =
      and_true (p (f a)) _ (e a (and_left (p a) _ h)) (every_map p e l (and_right (p a) _ h))

  differ_map : (same : A → A → Bool) → ((a b : A) → same (f a) (f b) ≡ same a b) → (l : List A)
      → differ same (map f l) ≡ differ same l
  unfolding differ
  differ_map same e [] = refl
  differ_map same e (a ∷ l) = rw (any_map (same (f a)) (same a) (e a) l, differ_map same e l)

-- ---- an entry under this handle, from this source for this recipient

pub record IsNamed (h : Handle) (i r : ℕ) (e : Escrowed) : Type 0 where
  pub handle : e.key.handle.0 ≡ h.0
  pub source : e.key.source ≡ i
  pub recipient : e.key.recipient ≡ r

module _ (h : Handle) (i r : ℕ) (e : Escrowed) where
  pub is_named_lem : is_named h i r e ≡ true → IsNamed h i r e
  unfolding is_named
  is_named_lem q =
      let x = and_right (eqb e.key.handle.0 h.0) _ q in
      record {
        handle = eqb-true _ _ (and_left (eqb e.key.handle.0 h.0) _ q);
        source = eqb-true _ _ (and_left (eqb e.key.source i) _ x);
        recipient = eqb-true _ _ (and_right (eqb e.key.source i) _ x);
      }

  pub named_is : IsNamed h i r e → is_named h i r e ≡ true
  unfolding is_named
  named_is q = and_true _ _ (eq-eqb _ _ q.handle) (and_true _ _ (eq-eqb _ _ q.source) (eq-eqb _ _ q.recipient))

-- ---- one entry after the release

module _ (h : Handle) (i r : ℕ) where
  -- what holds of an entry, and of it spent, holds of it after the release
  at_entry : (P : Escrowed → Type 0) (e : Escrowed) → P (spent e) → P e → P (given_up h i r e)
  unfolding given_up
  at_entry P e x y = by_cases (is_named h i r e) (λ b. rw b x) (λ b. rw b y)

  pub handle_stays : (g : Handle) (e : Escrowed) → has_handle g (given_up h i r e) ≡ has_handle g e
  unfolding spent has_handle
  handle_stays g e = at_entry (λ x. has_handle g x ≡ has_handle g e) e refl refl

  same_stays : (a b : Escrowed) → same_handle (given_up h i r a) (given_up h i r b) ≡ same_handle a b
  unfolding same_handle
  same_stays a b =
      handle_stays (given_up h i r a).key.handle b
      ∙ unfold spent in at_entry (λ x. has_handle x.key.handle b ≡ has_handle a.key.handle b) a refl refl

  short_stays : (e : Escrowed) → is_short e ≡ true → is_short (given_up h i r e) ≡ true
  unfolding spent
  short_stays e s = at_entry (λ x. is_short x ≡ true) e refl s

  good_stays : (e : Escrowed) → good_escrowed e ≡ true → good_escrowed (given_up h i r e) ≡ true
  unfolding good_escrowed spent
  good_stays e g =
      let m = and_right (not (eqb e.key.source 0)) _ g in
      at_entry (λ x. good_escrowed x ≡ true) e
      (and_true _ _ (and_left (not (eqb e.key.source 0)) _ g)
      (and_true _ _ (and_left (not (eqb e.key.recipient 0)) _ m) refl))
      g

  shrinks : (e : Escrowed) → length (given_up h i r e).value ≤ length e.value
  unfolding spent
  shrinks e = at_entry (λ x. length x.value ≤ length e.value) e (omega arith) (omega arith)

  -- ---- the whole escrow

  less_bytes : (l : List Escrowed) → bytes_used (map (given_up h i r) l) ≤ bytes_used l
  unfolding bytes_used
  less_bytes [] = omega arith
  less_bytes (e ∷ l) = let a = shrinks e in let b = less_bytes l in omega arith

  pub handles_stay : (g : Handle) (l : List Escrowed) → any (has_handle g) (map (given_up h i r) l) ≡ any (has_handle g) l
  handles_stay g l = any_map (given_up h i r) (has_handle g) (has_handle g) (handle_stays g) l

  pub good_after : (l : List Escrowed) → EscrowGood l → EscrowGood (map (given_up h i r) l)
  good_after l k =
      let a = k.few in
      let b = k.fits in
      let c = less_bytes l in
      let n = length-map l (given_up h i r) in
      record {
        few = omega arith;
        fits = omega arith;
        short = every_map (given_up h i r) is_short short_stays l k.short;
        good = every_map (given_up h i r) good_escrowed good_stays l k.good;
        apart = differ_map (given_up h i r) same_handle same_stays l ∙ k.apart;
      }

  -- ---- the one that is named, where handles differ

  others_stay : (l : List Escrowed) → any (has_handle h) l ≡ false → map (given_up h i r) l ≡ l
  unfolding any given_up is_named has_handle
  others_stay [] u = refl
  others_stay (a ∷ l) u =
      rw (or_false_left (has_handle h a) _ u, others_stay l (or_false_right (has_handle h a) _ u))

  pub given_among : (front rest : List Escrowed) (e : Escrowed) → differ same_handle (front ++ (e ∷ rest)) ≡ true
      → is_named h i r e ≡ true → map (given_up h i r) (front ++ (e ∷ rest)) ≡ front ++ (spent e ∷ rest)
  unfolding differ same_handle given_up
  given_among [] rest e d n =
      let z = (is_named_lem h i r e n).handle in
      let q : e.key.handle ≡ h = λ x. record { 0 = z x } in
      let u = not-true (any (has_handle e.key.handle) rest) (and_left (not (any (has_handle e.key.handle) rest)) _ d) in
      rw (n, others_stay rest (rw q at u))
  given_among (a ∷ front) rest e d n =
      let test = has_handle a.key.handle in
      let u = not-true (any test (front ++ (e ∷ rest))) (and_left (not (any test (front ++ (e ∷ rest)))) _ d) in
      let later = given_among front rest e (and_right (not (any test (front ++ (e ∷ rest)))) _ d) n in
      by_cases (is_named h i r a)
      (λ t.
      let same : test e ≡ true = unfold has_handle in
      eq-eqb _ _ ((is_named_lem h i r e n).handle ∙ sym (is_named_lem h i r a t).handle) in
      clash _ (any_append test front (e ∷ rest) ∙ or_true_right (any test front) _ (at_any test (e ∷ rest) e 0 (omega arith) same)) u)
      (λ f. rw (f, later))
