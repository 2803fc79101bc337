-- Two states that differ in secrets alone, and one move made on both. Assumes nothing.
use Prim.Native.Nat.{ℕ, zero, suc, ◌+◌, ◌≤◌}
use mathlib.Core.Path.{◌≡◌, refl, sym, ap, ◌∙◌, subst}
use mathlib.Core.Logic.{◌≢◌}
use mathlib.Core.Bool.{Bool, true, false}
use mathlib.Core.List.{List, [], ◌∷◌}
use native.Mathlib.Omega.{arith}
use lib.ListN.{length, get_or, set, length-take, length-drop, length-set}
use lib.Seq.{sets, length-sets, get_or-set_other}
use lib.Dec.{eqb}
use borrow.Author.Tests.{eqb-true, eqb-false}
use Rattle.record.specs.declared.Handle.{Handle}
use Rattle.record.specs.declared.Draw.{Draw}
use Rattle.record.specs.Call.{Link, escrowed_link, Call, heap_write, attest, protect, retrieve, chain}
use Rattle.ideal.specs.State.{EscrowKey, Logged, Escrowed, State, Move, nothing, takes, activates, empties, writes, shares, logs, escrows, releases, cleared, identity_at, heap_at, caller, part, own_part}
use Rattle.ideal.specs.Step.{found, absent, idle, vacant, refusal, with_pair, protected, with_places, with_common, apply}
use Rattle.lists.proofs.Bools.{by_cases}
use Rattle.ideal.proofs.Following.{Comes}
use Rattle.ideal.proofs.TwoEscrows.{SameEntry, SameEscrow, SameFound, same_escrow, same_more, same_release, same_find}

-- ---- lists

-- one element replaced in each of two lists, at the same place
pub set_pointwise : {A : Type 0} (R : A → A → Type 0) (d : A) (l m : List A) (i p : ℕ) (x y : A) → length l ≡ length m → R d d
    → (p ≢ i → R (get_or l p d) (get_or m p d)) → (p ≡ i → R x y) → R (get_or (set l i x) p d) (get_or (set m i y) p d)
set_pointwise R d [] [] i p x y e z old new = z
set_pointwise R d [] (b ∷ m) i p x y e z old new = absurd (omega arith)
set_pointwise R d (a ∷ l) [] i p x y e z old new = absurd (omega arith)
set_pointwise R d (a ∷ l) (b ∷ m) zero zero x y e z old new = new refl
set_pointwise R d (a ∷ l) (b ∷ m) zero (suc p) x y e z old new = old (omega arith)
set_pointwise R d (a ∷ l) (b ∷ m) (suc i) zero x y e z old new = old (omega arith)
set_pointwise R d (a ∷ l) (b ∷ m) (suc i) (suc p) x y e z old new =
    set_pointwise R d l m i p x y (omega arith) z (λ n. old (omega arith)) (λ q. new (ap suc q))

pub length_part : (m k : List ℕ) (o n : ℕ) → length m ≡ length k → length (part m o n) ≡ length (part k o n)
length_part m k o n e = simp (length-take, length-drop, e)

-- ---- the relation

-- what may differ: the heaps of some places with some identities, and escrow values under some keys
pub record Secrets : Type 0 where
  pub heap : (place identity : ℕ) → Bool
  pub value : EscrowKey → Bool
  pub none_empty : (place : ℕ) → heap place 0 ≡ false

-- the heaps of two states, where the places' identities are `is`
pub record SameHeaps (z : Secrets) (is : List ℕ) (hs ks : List (List ℕ)) : Type 0 where
  pub places : length hs ≡ length ks
  pub sizes : (p : ℕ) → length (get_or hs p []) ≡ length (get_or ks p [])
  pub open_places : (p : ℕ) → z.heap p (get_or is p 0) ≡ false → get_or hs p [] ≡ get_or ks p []

-- two states that differ in secrets alone
pub record SameBut (z : Secrets) (s t : State) : Type 0 where
  pub identities : s.identities ≡ t.identities
  pub running : s.running ≡ t.running
  pub heaps : SameHeaps z s.identities s.heaps t.heaps
  pub shared : s.shared ≡ t.shared
  pub log : s.log ≡ t.log
  pub escrow : SameEscrow z.value s.escrow t.escrow

pub same_state : (z : Secrets) (s : State) → SameBut z s s
same_state z s =
    record {
      identities = refl;
      running = refl;
      heaps = record { places = refl; sizes = λ _. refl; open_places = λ _ _. refl };
      shared = refl;
      log = refl;
      escrow = same_escrow z.value s.escrow;
    }

-- two calls made on s and on a state like it
pub data AlikeCalls (z : Secrets) (s : State) : Call → Call → Type 0 where
  same_call : (c : Call) → AlikeCalls z s c c
  other_call : (p o : ℕ) (v w : List ℕ) → z.heap s.running (caller s) ≡ true → length v ≡ length w
      → AlikeCalls z s (heap_write p o v) (heap_write p o w)

-- a call that makes no secret known: neither by an attest or a protect, nor, where the heap is open, by a retrieve or a chain
pub record NoneTold (z : Secrets) (s t : State) (c : Call) : Type 0 where
  pub attests : z.heap s.running (caller s) ≡ true → (o n : ℕ) → c ≡ attest o n → o + n ≤ 256 → own_part s o n ≡ own_part t o n
  pub protects : z.heap s.running (caller s) ≡ true → (i o n : ℕ) (d : Draw) → c ≡ protect i o n d
      → z.value (protected s i o n d).key ≡ false → refusal s c ≡ 0 → own_part s o n ≡ own_part t o n
  pub retrieves : z.heap s.running (caller s) ≡ false → (i o : ℕ) (h : Handle) → c ≡ retrieve i o h → refusal s c ≡ 0
      → z.value (record { source = i; recipient = caller s; handle = h; mark = 0 }) ≡ false
  pub follows : z.heap s.running (caller s) ≡ false → (first : Link) (v : List ℕ) → c ≡ chain first v
      → (left i : ℕ) (h : Handle) (rest : List ℕ) → Comes s.log (found s) first v (suc left) (escrowed_link i h) rest
      → absent (found s i h) ≡ false → z.value (record { source = i; recipient = caller s; handle = h; mark = 0 }) ≡ false

module _ (z : Secrets) {s t : State} (k : SameBut z s t) where
  -- ---- what both states share

  pub same_caller : caller s ≡ caller t
  same_caller = rw (k.identities, k.running)

  pub same_idle : idle s ≡ idle t
  unfolding idle
  same_idle = rw k.running

  pub same_vacant : (p : ℕ) → vacant s p ≡ vacant t p
  unfolding vacant
  same_vacant p = rw k.identities

  pub same_size : (o n : ℕ) → length (own_part s o n) ≡ length (own_part t o n)
  unfolding own_part
  same_size o n = rw (← k.running) (length_part _ _ o n (k.heaps.sizes s.running))

  pub same_found : (i : ℕ) (h : Handle)
      → SameFound (z.value (record { source = i; recipient = caller s; handle = h; mark = 0 })) (found s i h) (found t i h)
  unfolding found
  same_found i h = rw same_caller (same_find z.value h i (caller t) k.escrow)

  -- where the running heap is open

  same_heap : z.heap s.running (caller s) ≡ false → heap_at s s.running ≡ heap_at t s.running
  same_heap g = k.heaps.open_places s.running g

  pub same_own : (o n : ℕ) → z.heap s.running (caller s) ≡ false → own_part s o n ≡ own_part t o n
  unfolding own_part
  same_own o n g = rw (← k.running, same_heap g)

-- ---- moves

-- two moves that differ in secrets alone, made on s and on t
pub data SameMove (z : Secrets) (s t : State) : Move → Move → Type 0 where
  same_nothing : SameMove z s t nothing nothing
  same_take : {p i : ℕ} → identity_at s p ≡ 0 → SameMove z s t (takes p i) (takes p i)
  same_activate : {p : ℕ} → SameMove z s t (activates p) (activates p)
  same_empty : {p q : ℕ} → p ≡ q → SameMove z s t (empties p) (empties q)
  same_write : {p q o : ℕ} {v w : List ℕ} → p ≡ q → length v ≡ length w → (z.heap p (identity_at s p) ≡ false → v ≡ w)
      → SameMove z s t (writes p o v) (writes q o w)
  same_share : {o : ℕ} {v : List ℕ} → SameMove z s t (shares o v) (shares o v)
  same_log : {e f : Logged} → e ≡ f → SameMove z s t (logs e) (logs f)
  same_escrows : {e f : Escrowed} → SameEntry z.value e f → SameMove z s t (escrows e) (escrows f)
  same_releases : {i r q : ℕ} {h : Handle} → r ≡ q → SameMove z s t (releases i r h) (releases i q h)

-- a heap is replaced in both
set_heaps : (z : Secrets) (is : List ℕ) (hs ks : List (List ℕ)) (i : ℕ) (x y : List ℕ) → SameHeaps z is hs ks
    → length x ≡ length y → (z.heap i (get_or is i 0) ≡ false → x ≡ y) → SameHeaps z is (set hs i x) (set ks i y)
set_heaps z is hs ks i x y h n e =
    record {
      places = length-set hs i x ∙ h.places ∙ sym (length-set ks i y);
      sizes = λ p.
          set_pointwise (λ a b. length a ≡ length b) [] hs ks i p x y h.places refl (λ _. h.sizes p) (λ _. n);
      open_places = λ p g.
          set_pointwise (λ a b. a ≡ b) [] hs ks i p x y h.places refl (λ _. h.open_places p g) (λ q. e (rw (← q) g));
    }

-- a place gets another identity: it may have an open heap, so its heaps must agree
set_identity : (z : Secrets) (is : List ℕ) (hs ks : List (List ℕ)) (p i : ℕ) → SameHeaps z is hs ks
    → get_or hs p [] ≡ get_or ks p [] → SameHeaps z (set is p i) hs ks
set_identity z is hs ks p i h e =
    record {
      places = h.places;
      sizes = h.sizes;
      open_places = λ q g.
          by_cases (eqb q p) (λ a. rw (eqb-true q p a) e)
          (λ a. h.open_places q (rw (get_or-set_other is p q i 0 (eqb-false q p a)) at g));
    }

emptied : (z : Secrets) (is : List ℕ) (hs ks : List (List ℕ)) (p : ℕ) → SameHeaps z is hs ks
    → SameHeaps z (set is p 0) (set hs p cleared) (set ks p cleared)
emptied z is hs ks p h =
    set_identity z is (set hs p cleared) (set ks p cleared) p 0
    (set_heaps z is hs ks p cleared cleared h refl (λ _. refl))
    (set_pointwise (λ a b. a ≡ b) [] hs ks p p cleared cleared h.places refl (λ n. absurd (n refl)) (λ _. refl))

module _ (z : Secrets) {s t : State} (k : SameBut z s t) where
  with_places_lem : {is js : List ℕ} {p q : ℕ} {hs ks : List (List ℕ)} → is ≡ js → p ≡ q → SameHeaps z is hs ks
      → SameBut z (with_places s is p hs) (with_places t js q ks)
  with_places_lem i p h =
      record { identities = i; running = p; heaps = h; shared = k.shared; log = k.log; escrow = k.escrow }

  with_common_lem : {m n : List ℕ} {l j : List Logged} {es fs : List Escrowed} → m ≡ n → l ≡ j → SameEscrow z.value es fs
      → SameBut z (with_common s m l es) (with_common t n j fs)
  with_common_lem m l e =
      record { identities = k.identities; running = k.running; heaps = k.heaps; shared = m; log = l; escrow = e }

  pub same_apply : {m n : Move} → SameMove z s t m n → SameBut z (apply s m) (apply t n)
  unfolding apply
  same_apply same_nothing = k
  same_apply (same_take {p = p} {i = i} e) =
      with_places_lem (ap (λ l. set l p i) k.identities) k.running
      (set_identity z s.identities s.heaps t.heaps p i k.heaps
      (k.heaps.open_places p (rw e (z.none_empty p))))
  same_apply same_activate = with_places_lem k.identities refl k.heaps
  same_apply (same_empty {p = p} e) =
      subst (λ q. SameBut z (apply s (empties p)) (apply t (empties q))) e
      (with_places_lem (ap (λ l. set l p 0) k.identities) refl (emptied z s.identities s.heaps t.heaps p k.heaps))
  same_apply (same_write {p = p} {o = o} {v = v} {w = w} e n h) =
      subst (λ q. SameBut z (apply s (writes p o v)) (apply t (writes q o w))) e
      (with_places_lem k.identities k.running
      (set_heaps z s.identities s.heaps t.heaps p _ _ k.heaps (simp length-sets (k.heaps.sizes p))
      (λ g. rw (k.heaps.open_places p g, h g))))
  same_apply (same_share {o = o} {v = v}) = with_common_lem (ap (λ m. sets m o v) k.shared) k.log k.escrow
  same_apply (same_log e) = with_common_lem k.shared (λ i. with_pair (e i) (k.log i)) k.escrow
  same_apply (same_escrows e) = with_common_lem k.shared k.log (same_more z.value k.escrow e)
  same_apply (same_releases {i = i} {r = r} {h = h} e) =
      subst (λ q. SameBut z (apply s (releases i r h)) (apply t (releases i q h))) e
      (with_common_lem k.shared k.log (same_release z.value h i r k.escrow))
