-- The links that a chain comes to, and two escrows in which it comes to the same. Assumes nothing.
use Prim.Native.Nat.{ℕ, zero, suc, ◌+◌}
use mathlib.Core.Path.{◌≡◌, refl, ap, subst}
use mathlib.Core.Bool.{false}
use mathlib.Core.List.{List}
use mathlib.Core.Option.{Option}
use native.Mathlib.Omega.{arith}
use lib.Dec.{eqb}
use Rattle.record.specs.declared.Handle.{Handle}
use Rattle.record.specs.Call.{Link, logged_link, escrowed_link, stray_link, identity_of}
use Rattle.ideal.specs.State.{Logged, Escrowed}
use Rattle.ideal.specs.Step.{Head, malformed, ends, leads, head_of, is_malformed, unreadable, bytes_after, after_head, links_after, link_value, unvouched, follow, links_from, first_holding}
use Rattle.lists.proofs.Bools.{by_cases}
use Rattle.ideal.proofs.TwoEscrows.{SameFound}

-- a link that is passed: its value is there, it is named, and it is vouched for
pub record Clear (log : List Logged) (look_up : ℕ → Handle → Option Escrowed) (k : Link) (bs : List ℕ) : Type 0 where
  pub reads : unreadable k bs ≡ false
  pub named : eqb (identity_of k) 0 ≡ false
  pub vouched : unvouched log look_up k bs ≡ false

-- from k on a chain comes to a link, with these chain bytes left, where so many may still be followed
pub data Comes (log : List Logged) (look_up : ℕ → Handle → Option Escrowed) (k : Link) (bs : List ℕ)
    : (left : ℕ) → Link → List ℕ → Type 0 where
  at_first : Comes log look_up k bs 16 k bs
  goes_on : {left : ℕ} {l m : Link} {rest : List ℕ} → Comes log look_up k bs (suc left) l rest → Clear log look_up l rest
      → head_of (link_value log look_up l rest) ≡ leads m → Comes log look_up k bs left m (bytes_after l rest)

-- ---- two look-ups that agree where a chain comes

module _ (log : List Logged) (one two : ℕ → Handle → Option Escrowed) where
  -- the value under a handle, in both
  abbrev pub Agree : ℕ → Handle → Type 0
  Agree i h = SameFound false (one i h) (two i h)

  record SameLink (k : Link) (bs : List ℕ) : Type 0 where
    value : link_value log one k bs ≡ link_value log two k bs
    vouched : unvouched log one k bs ≡ unvouched log two k bs

  same_link : (k : Link) (bs : List ℕ) → ((i : ℕ) (h : Handle) → k ≡ escrowed_link i h → Agree i h) → SameLink k bs
  unfolding link_value unvouched
  same_link (logged_link i g) bs a = record { value = refl; vouched = refl }
  same_link (escrowed_link i h) bs a = let b = a i h refl in record { value = b.value refl; vouched = b.absent }
  same_link (stray_link w i x) bs a = record { value = refl; vouched = refl }

  -- the same test refuses, and an accepted chain has as many links
  pub record SameChain (left : ℕ) (l : Link) (rest : List ℕ) : Type 0 where
    pub refuses : first_holding (follow log one left l rest) ≡ first_holding (follow log two left l rest)
    pub counts : first_holding (follow log one left l rest) ≡ 0 → links_from log one left l rest ≡ links_from log two left l rest

  by_head : (left : ℕ) (l : Link) (rest : List ℕ) → unreadable l rest ≡ false → eqb (identity_of l) 0 ≡ false
      → unvouched log one l rest ≡ false → SameLink l rest
      → ((m : Link) → head_of (link_value log one l rest) ≡ leads m → SameChain left m (bytes_after l rest))
      → (h : Head) → head_of (link_value log one l rest) ≡ h → SameChain (suc left) l rest
  unfolding follow first_holding links_from is_malformed after_head links_after
  by_head left l rest r i u same later malformed e =
      record {
        refuses = rw (r, i, ← same.vouched, u, ← same.value, e);
        counts = λ z. rw (← same.value, e);
      }
  by_head left l rest r i u same later ends e =
      record {
        refuses = rw (r, i, ← same.vouched, u, ← same.value, e);
        counts = λ z. rw (← same.value, e);
      }
  by_head left l rest r i u same later (leads m) e =
      record {
        refuses = rw (r, i, ← same.vouched, u, ← same.value, e) (later m e).refuses;
        counts = λ z. rw (← same.value, e) (ap (λ n. 1 + n) ((later m e).counts (rw (r, i, u, e) at z)));
      }

  module _ (k : Link) (bs : List ℕ)
      (agree : (left i : ℕ) (h : Handle) (rest : List ℕ) → Comes log one k bs (suc left) (escrowed_link i h) rest → Agree i h) where
    pub same_chain : (left : ℕ) (l : Link) (rest : List ℕ) → Comes log one k bs left l rest → SameChain left l rest
    unfolding follow first_holding links_from
    same_chain zero l rest c = record { refuses = refl; counts = λ _. refl }
    same_chain (suc left) l rest c =
        by_cases (unreadable l rest)
        (λ r. record { refuses = rw r; counts = λ z. absurd (let q : 19 ≡ 0 = rw r at z in omega arith) })
        (λ r.
        let same = same_link l rest (λ i h e. agree left i h rest (subst (λ a. Comes log one k bs (suc left) a rest) e c)) in
        by_cases (eqb (identity_of l) 0)
        (λ i. record { refuses = rw (r, i); counts = λ z. absurd (let q : 9 ≡ 0 = rw (r, i) at z in omega arith) })
        (λ i.
        by_cases (unvouched log one l rest)
        (λ u. record {
          refuses = rw (r, i, ← same.vouched, u);
          counts = λ z. absurd (let q : 18 ≡ 0 = rw (r, i, u) at z in omega arith);
        })
        (λ u.
        by_head left l rest r i u same
        (λ m e. same_chain left m (bytes_after l rest) (goes_on c (record { reads = r; named = i; vouched = u }) e))
        (head_of (link_value log one l rest)) refl)))
