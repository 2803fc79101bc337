-- A table to which some accepted calls add an entry each, and whose entries others end, holds what earlier calls added and none
-- has ended since. Assumes nothing.
use Prim.Native.Nat.{ℕ, zero, suc, ◌<◌}
use mathlib.Core.Path.{◌≡◌, sym, ap, ◌∙◌}
use mathlib.Core.Logic.{◌↔◌, ◌⊎◌, inl, inr}
use mathlib.Core.Bool.{Bool, true, false, not, ◌&&◌, ◌||◌}
use mathlib.Core.List.{List}
use native.Mathlib.Omega.{arith}
use lib.Dec.{eqb}
use borrow.Author.Tests.{eqb-true, eqb-false}
use Rattle.record.specs.Call.{Call}
use Rattle.ideal.specs.State.{State, Move, fresh, any}
use Rattle.ideal.specs.Step.{apply, effect}
use Rattle.ideal.specs.Box.{Element, element_at}
use Rattle.ideal.specs.Accuracy.{EarlierNot}
use Rattle.lists.proofs.Bools.{by_cases, clash, and_left, and_false, or_split, or_true_left, or_true_right}
use Rattle.ideal.specs.Valid.{Valid}
use Rattle.ideal.proofs.Does.{Does, does}
use Rattle.ideal.proofs.Runs.{state_before, valid_before, Accepted, stays, moves, moved, state_first, state_next, state_after}

-- what an accepted call does to a table
pub data Effect (Same Adds Ends : Type 0) : Type 0 where
  same : Same → Effect Same Adds Ends
  adds : Adds → Effect Same Adds Ends
  ends : Ends → Effect Same Adds Ends

module _ {A : Type 0} (Adds Ends : State → Call → Type 0) (entry : (s : State) (c : Call) → Adds s c → A)
    (names : (s : State) (c : Call) → Ends s c → Bool) (test : A → Bool) where
  -- a fresh table is empty, an accepted call that adds an entry adds it, one that ends entries ends those that pass the test
  -- where it names them, and no other accepted call alters the table
  pub record Fed (table : State → List A) : Type 0 where
    pub empty : any test (table fresh) ≡ false
    pub others : {s : State} {c : Call} {m : Move} → Does s c m → Effect (table (apply s m) ≡ table s) (Adds s c) (Ends s c)
    pub more : (s : State) (c : Call) (a : Adds s c) → Valid s
        → any test (table (effect s c)) ≡ any test (table s) || test (entry s c a)
    pub less : (s : State) (c : Call) (a : Ends s c) → any test (table (effect s c)) ≡ any test (table s) && not (names s c a)

  -- the call at this index adds an entry that passes the test
  pub record AddsAt (es : List Element) (k : ℕ) : Type 0 where
    pub call : Call
    pub used : ℕ
    pub adds : Adds (state_before es k) call
    pub accepted : Accepted (state_before es k) (element_at es k) call used
    pub passes : test (entry (state_before es k) call adds) ≡ true

  -- the call at this index ends the entries that pass it
  pub record EndsAt (es : List Element) (k : ℕ) : Type 0 where
    pub call : Call
    pub used : ℕ
    pub ends : Ends (state_before es k) call
    pub accepted : Accepted (state_before es k) (element_at es k) call used
    pub named : names (state_before es k) call ends ≡ true

  module _ (table : State → List A) (fed : Fed table) (es : List Element) where
    has : ℕ → Bool
    has k = any test (table (state_before es k))

    -- what the call at an index does to the table
    data Turn (k : ℕ) : Type 0 where
      stands : table (state_before es (suc k)) ≡ table (state_before es k) → Turn k
      grows : (c : Call) (used : ℕ) → Adds (state_before es k) c → Accepted (state_before es k) (element_at es k) c used → Turn k
      shrinks : (c : Call) (used : ℕ) → Ends (state_before es k) c → Accepted (state_before es k) (element_at es k) c used → Turn k

    turn : (k : ℕ) → Turn k
    unfolding effect
    turn k =
        elim (moved (state_before es k) (element_at es k)) [
          | stays q ↦ stands (ap table (state_next es k ∙ q))
          | moves c used a ↦ elim (fed.others (does (state_before es k) c (valid_before es k) a.passes)) [
            | same q ↦ stands (ap table (state_after es k c used a) ∙ q)
            | adds x ↦ grows c used x a
            | ends x ↦ shrinks c used x a
          ]
        ]

    after : (k : ℕ) (c : Call) (used : ℕ) (x : Adds (state_before es k) c) → Accepted (state_before es k) (element_at es k) c used
        → has (suc k) ≡ has k || test (entry (state_before es k) c x)
    unfolding has
    after k c used x a = ap (λ s. any test (table s)) (state_after es k c used a) ∙ fed.more _ c x (valid_before es k)

    behind : (k : ℕ) (c : Call) (used : ℕ) (x : Ends (state_before es k) c) → Accepted (state_before es k) (element_at es k) c used
        → has (suc k) ≡ has k && not (names (state_before es k) c x)
    unfolding has
    behind k c used x a = ap (λ s. any test (table s)) (state_after es k c used a) ∙ fed.less _ c x

    keeps : (k : ℕ) → (EndsAt es k → ⊥) → has k ≡ true → has (suc k) ≡ true
    unfolding has
    keeps k n h =
        elim (turn k) [
          | stands q ↦ ap (any test) q ∙ h
          | grows c used x a ↦ after k c used x a ∙ or_true_left _ _ h
          | shrinks c used x a ↦ by_cases (names (state_before es k) c x)
              (λ e. absurd (n (record { call = c; used = used; ends = x; accepted = a; named = e })))
              (λ e. behind k c used x a ∙ rw (h, e))
        ]

    ended : (k : ℕ) → EndsAt es k → has (suc k) ≡ false
    ended k x = behind k x.call x.used x.ends x.accepted ∙ and_false (has k) _ (rw x.named)

    gains : (k : ℕ) → has (suc k) ≡ true → (has k ≡ true) ⊎ AddsAt es k
    unfolding has
    gains k h =
        elim (turn k) [
          | stands q ↦ inl (sym (ap (any test) q) ∙ h)
          | grows c used x a ↦ elim (or_split (has k) (test (entry (state_before es k) c x)) (sym (after k c used x a) ∙ h)) [
            | inl y ↦ inl y
            | inr y ↦ inr (record { call = c; used = used; adds = x; accepted = a; passes = y })
          ]
          | shrinks c used x a ↦ inl (and_left (has k) _ (sym (behind k c used x a) ∙ h))
        ]

    module _ (P Q : ℕ → Type 0) (is : (k : ℕ) → AddsAt es k ↔ P k) (ends_is : (k : ℕ) → EndsAt es k ↔ Q k) where
      to_earlier : (k : ℕ) → has k ≡ true → EarlierNot P Q k
      unfolding has
      to_earlier zero h = clash (has 0) h (ap (λ s. any test (table s)) (state_first es) ∙ fed.empty)
      to_earlier (suc k) h =
          let here : Q k → ⊥ = λ q. clash (has (suc k)) h (ended k ((ends_is k).1 q)) in
          elim (gains k h) [
            | inl x ↦ let r = to_earlier k x in
                let b = r.before in
                record {
                  index = r.index;
                  before = omega arith;
                  there = r.there;
                  since = λ j l m q. by_cases (eqb j k)
                      (λ e. here (rw (eqb-true j k e) at q))
                      (λ e. let n = eqb-false j k e in r.since j l (omega arith) q);
                }
            | inr a ↦ record { index = k; before = omega arith; there = (is k).0 a; since = λ j l m q. absurd (omega arith) }
          ]

      from_index : (k j : ℕ) → j < k → AddsAt es j → ((m : ℕ) → j < m → m < k → Q m → ⊥) → has k ≡ true
      from_index zero j b p n = absurd (omega arith)
      from_index (suc k) j b p n =
          by_cases (eqb j k)
          (λ e. let a : AddsAt es k = rw (eqb-true j k e) at p in
          after k a.call a.used a.adds a.accepted ∙ or_true_right (has k) _ a.passes)
          (λ e.
          let d = eqb-false j k e in
          keeps k (λ x. n k (omega arith) (omega arith) ((ends_is k).0 x))
          (from_index k j (omega arith) p (λ m l h. n m l (omega arith))))

      pub since : (k : ℕ) → (any test (table (state_before es k)) ≡ true) ↔ EarlierNot P Q k
      unfolding has
      since k = (to_earlier k, λ r. from_index k r.index r.before ((is r.index).1 r.there) r.since)
