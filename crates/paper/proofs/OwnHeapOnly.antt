-- A call tells nothing of the heaps of places that don't run: ReadsOwnHeap of specs/ServiceLife.antt. Assumes nothing.
use Prim.Native.Nat.{ℕ, ◌<◌}
use mathlib.Core.Path.{◌≡◌, refl, sym, ap, ◌∙◌, subst₂}
use mathlib.Core.Bool.{false, not, ◌&&◌}
use mathlib.Core.List.{List, [], ◌∷◌}
use native.Mathlib.Omega.{arith}
use lib.ListN.{length, get_or-eq_default}
use lib.Dec.{eqb, ltb}
use borrow.Author.Tests.{eqb-true, eq-eqb, ltb-true, ltb-false, not-false}
use Rattle.record.specs.Call.{Call}
use Rattle.record.specs.Read.{read}
use Rattle.ideal.specs.State.{Escrowed, State, identity_at, heap_at, caller}
use Rattle.ideal.specs.Tables.{Tables, tables, box_record, state_of}
use Rattle.ideal.specs.Box.{Element, laid, call_on}
use Rattle.ideal.specs.Layouts.{Sound}
use Rattle.ideal.specs.Valid.{Valid}
use Rattle.paper.specs.ServiceLife.{heap_of, OnlyOtherHeaps, ReadsOwnHeap}
use Rattle.lists.proofs.Bools.{by_cases, clash, and_false, and_other, not_is}
use Rattle.ideal.proofs.Heaps.{chunks_length}
use Rattle.ideal.proofs.Laid.{valid_sound, tables_state, call_is}
use Rattle.ideal.proofs.Kept.{valid_step}
use Rattle.ideal.proofs.Hosted.{heap_is}
use Rattle.ideal.proofs.TwoEscrows.{SameEscrow, no_entries, entry, same_escrow}
use Rattle.ideal.proofs.TwoStates.{Secrets, SameBut, NoneTold}
use Rattle.ideal.proofs.Secret.{chained, both_element, all_equal, same_box, same_escrow_rows}

-- the heaps of taken places other than p
abbrev others : ℕ → Secrets
others p =
    record {
      heap = λ q i. not (eqb q p) && not (eqb i 0);
      value = λ _. false;
      none_empty = λ q. and_false (not (eqb q p)) _ refl;
    }

own_open : (p i : ℕ) → (others p).heap p i ≡ false
own_open p i = rw (eq-eqb p p refl)

-- no escrow value may differ
same_all : {l m : List Escrowed} → SameEscrow (λ _. false) l m → l ≡ m
same_all no_entries = refl
same_all (entry x xs) =
    let rest = same_all xs in λ j. record { key = x.key j; value = x.value refl j } ∷ rest j

-- ---- from tables to states, and back

heap_of_lem : (t : Tables) (q : ℕ) → Sound t 1024 → q < 16 → heap_of t q ≡ heap_at (state_of t) q
heap_of_lem t q h b = ap (λ x. heap_of x q) (sym (tables_state t 1024 h)) ∙ heap_is (state_of t) (valid_sound t 1024 h) q b

module _ (p : ℕ) {t u : Tables} (x : Sound t 1024) (y : Sound u 1024) (o : OnlyOtherHeaps p t u) where
  open_heaps : (q : ℕ) → (others p).heap q (identity_at (state_of t) q) ≡ false → heap_at (state_of t) q ≡ heap_at (state_of u) q
  unfolding state_of
  open_heaps q g =
      by_cases (ltb q 16)
      (λ l. let b = ltb-true q 16 l in
      by_cases (eqb q p)
      (λ e. let i = eqb-true q p e in sym (heap_of_lem t q x b) ∙ rw i (o.heap (rw (← i) b)) ∙ heap_of_lem u q y b)
      (λ e.
      let z = eqb-true (identity_at (state_of t) q) 0 (not-false _ (and_other _ _ (not_is _ e) g)) in
      let z' : identity_at (state_of u) q ≡ 0 = rw (← o.box) z in
      (valid_sound t 1024 x).empty q b z ∙ sym ((valid_sound u 1024 y).empty q b z')))
      (λ l. let b = ltb-false q 16 l in
      get_or-eq_default (state_of t).heaps [] (omega (arith, chunks_length 16 t.heaps))
      ∙ sym (get_or-eq_default (state_of u).heaps [] (omega (arith, chunks_length 16 u.heaps))))

  same_sizes : (q : ℕ) → length (heap_at (state_of t) q) ≡ length (heap_at (state_of u) q)
  unfolding state_of
  same_sizes q =
      by_cases (ltb q 16)
      (λ l. let b = ltb-true q 16 l in (valid_sound t 1024 x).sizes q b ∙ sym ((valid_sound u 1024 y).sizes q b))
      (λ l. let b = ltb-false q 16 l in
      ap length (get_or-eq_default (state_of t).heaps [] (omega (arith, chunks_length 16 t.heaps))
      ∙ sym (get_or-eq_default (state_of u).heaps [] (omega (arith, chunks_length 16 u.heaps)))))

  same_but : SameBut (others p) (state_of t) (state_of u)
  unfolding state_of
  same_but =
      record {
        identities = rw o.box;
        running = rw o.box;
        heaps =
            record {
              places = chunks_length 16 t.heaps ∙ sym (chunks_length 16 u.heaps);
              sizes = same_sizes;
              open_places = open_heaps;
            };
        shared = o.shared;
        log = rw (o.box, o.log_rows, o.log_values);
        escrow = rw (o.box, o.escrow_rows, o.escrow_values) (same_escrow (λ _. false) _);
      }

only_others : (p : ℕ) {s t : State} → SameBut (others p) s t → Valid s → Valid t → OnlyOtherHeaps p (tables s) (tables t)
unfolding tables box_record
only_others p {s} {t} k v w =
    record {
      box = same_box (others p) k;
      heap = λ b. heap_is s v p b ∙ k.heaps.open_places p (own_open p (identity_at s p)) ∙ sym (heap_is t w p b);
      shared = k.shared;
      log_rows = rw k.log;
      log_values = rw k.log;
      escrow_rows = same_escrow_rows (others p) k;
      escrow_values = rw (same_all k.escrow);
    }

-- ---- a call

abbrev Tells : ℕ → Tables → Tables → Element → Type 0
Tells p t u e = ((call_on t e).answer ≡ (call_on u e).answer) × OnlyOtherHeaps p (call_on t e).tables (call_on u e).tables

tells : (s t : State) (e : Element) → Valid s → Valid t → SameBut (others s.running) s t
    → Tells s.running (tables s) (tables t) e
unfolding laid
tells s t e v w k =
    let p = s.running in
    let none : (c : Call) → NoneTold (others p) s t c = λ c.
    record {
      attests = λ g. clash _ g (own_open p (caller s));
      protects = λ g. clash _ g (own_open p (caller s));
      retrieves = λ g i o h q r. refl;
      follows = λ g first v q left i h rest come some. refl;
    } in
    let b = both_element (others p) k e (λ x c u y. none c) in
    rw (call_is s e v, call_is t e w) (all_equal (chained (read e.bytes)) (own_open p (caller s)) b.answer, only_others p b.state (valid_step s e v) (valid_step t e w))

pub reads_own_heap : ReadsOwnHeap call_on
unfolding state_of
reads_own_heap t u e x y o =
    subst₂ (λ a b. Tells t.box.running a b e) (tables_state t 1024 x) (tables_state u 1024 y)
    (tells (state_of t) (state_of u) e (valid_sound t 1024 x) (valid_sound u 1024 y) (same_but t.box.running x y o))
