-- What holds of each entry, and of each two, by index and as a test of the whole list. Assumes nothing.
use Prim.Native.Nat.{ℕ, zero, suc, ◌/◌, ◌^◌, ◌≤◌, ◌<◌}
use mathlib.Core.Path.{◌≡◌, refl, sym, ap}
use mathlib.Core.Bool.{Bool, true, false, not, ◌&&◌, cond}
use mathlib.Core.List.{List, [], ◌∷◌}
use native.Mathlib.Omega.{arith}
use lib.ListN.{length, get_or}
use lib.Dec.{eqb, leb}
use borrow.Author.Tests.{eqb-true, eqb-false, eq-eqb, ne_eqb, leb-true, le-leb, not-true}
use Rattle.ideal.specs.State.{Entry, Logged, Escrowed, State, cleared, any, every, bytes_used}
use Rattle.ideal.specs.Step.{is_pair, has_handle}
use Rattle.ideal.specs.Soundness.{differ, same_pair, same_handle, right_tag}
use Rattle.ideal.specs.Valid.{Fitting, GoodLogged, GoodEscrowed, Valid}
use Rattle.lists.proofs.Bools.{by_cases, and_left, and_right, and_true, not_is, clash}
use Rattle.lists.proofs.Lists.{every_at, any_at, at_any, same_bytes_lem, same_bytes_refl}

-- ---- each, and each two

module _ {A : Type 0} where
  every_from : (p : A → Bool) (l : List A) → ((k : ℕ) (d : A) → k < length l → p (get_or l k d) ≡ true) → every p l ≡ true
  unfolding every
  every_from p [] h = refl
  every_from p (a ∷ l) h = and_true (p a) _ (h 0 a (omega arith)) (every_from p l (λ k d b. h (suc k) d (omega arith)))

  differ_from : (same : A → A → Bool) (l : List A)
      → ((j k : ℕ) (d : A) → j < k → k < length l → same (get_or l j d) (get_or l k d) ≡ true → ⊥) → differ same l ≡ true
  unfolding differ
  differ_from same [] h = refl
  differ_from same (a ∷ l) h =
      let none : any (same a) l ≡ false =
      by_cases (any (same a) l)
      (λ t. let x = any_at (same a) l t in absurd (h 0 (suc x.index) a (omega arith) (omega (arith, x.within)) (x.passes a)))
      (λ f. f) in
      and_true _ _ (not_is _ none) (differ_from same l (λ j k d b c. h (suc j) (suc k) d (omega arith) (omega arith)))

  differ_at : (same : A → A → Bool) (l : List A) → differ same l ≡ true
      → (j k : ℕ) (d : A) → j < k → k < length l → same (get_or l j d) (get_or l k d) ≡ true → ⊥
  unfolding differ
  differ_at same [] h j k d b c e = omega arith
  differ_at same (a ∷ l) h zero zero d b c e = omega arith
  differ_at same (a ∷ l) h zero (suc k) d b c e =
      clash (any (same a) l) (at_any (same a) l d k (omega arith) e) (not-true _ (and_left _ _ h))
  differ_at same (a ∷ l) h (suc j) zero d b c e = omega arith
  differ_at same (a ∷ l) h (suc j) (suc k) d b c e =
      differ_at same l (and_right (not (any (same a) l)) _ h) j k d (omega arith) (omega arith) e

-- ---- an entry

no_bytes : {A : Type 0} (l : List A) → length l ≡ 0 → l ≡ []
no_bytes [] h = refl
no_bytes (a ∷ l) h = absurd (omega arith)

unfoldable pub good_logged : Logged → Bool
good_logged e = not (eqb e.key.identity 0) && right_tag e

unfoldable pub good_escrowed : Escrowed → Bool
good_escrowed e =
    not (eqb e.key.source 0)
    && (not (eqb e.key.recipient 0)
    && (leb e.key.mark 1
    && cond (eqb e.key.mark 0) (eqb (e.key.handle.0 / 2 ^ 48) (length e.value)) (eqb (length e.value) 0)))

logged_good : (e : Logged) → good_logged e ≡ true → GoodLogged e
unfolding good_logged right_tag
logged_good e h =
    let t = eqb-true e.key.tag.0 _ (and_right (not (eqb e.key.identity 0)) _ h) in
    record {
      identity = eqb-false _ 0 (not-true _ (and_left (not (eqb e.key.identity 0)) _ h));
      tag = λ i. record { 0 = t i };
    }

good_logged_lem : (e : Logged) → GoodLogged e → good_logged e ≡ true
unfolding good_logged right_tag
good_logged_lem e g = and_true _ _ (not_is _ (ne_eqb _ 0 g.identity)) (eq-eqb _ _ (ap (λ t. t.0) g.tag))

escrowed_good : (e : Escrowed) → good_escrowed e ≡ true → GoodEscrowed e
unfolding good_escrowed
escrowed_good e h =
    let g = and_right (not (eqb e.key.source 0)) _ h in
    let m = and_right (not (eqb e.key.recipient 0)) _ g in
    let c = and_right (leb e.key.mark 1) _ m in
    record {
      source = eqb-false _ 0 (not-true _ (and_left (not (eqb e.key.source 0)) _ h));
      recipient = eqb-false _ 0 (not-true _ (and_left (not (eqb e.key.recipient 0)) _ g));
      mark = leb-true _ 1 (and_left (leb e.key.mark 1) _ m);
      handle = λ z. eqb-true _ _ (rw (eq-eqb e.key.mark 0 z) at c);
      spent = λ z. no_bytes e.value (eqb-true _ _ (rw (ne_eqb e.key.mark 0 (λ q. omega arith)) at c));
    }

good_escrowed_lem : (e : Escrowed) → GoodEscrowed e → good_escrowed e ≡ true
unfolding good_escrowed
good_escrowed_lem e g =
    and_true _ _ (not_is _ (ne_eqb _ 0 g.source))
    (and_true _ _ (not_is _ (ne_eqb _ 0 g.recipient))
    (and_true (leb e.key.mark 1) _ (le-leb _ 1 g.mark)
    (by_cases (eqb e.key.mark 0)
    (λ z. rw z (eq-eqb _ _ (g.handle (eqb-true _ _ z))))
    (λ z.
    let n = eqb-false e.key.mark 0 z in
    let m = g.mark in
    rw z (eq-eqb _ _ (ap length (g.spent (omega arith))))))))

-- ---- two entries

pair_same : (r q : Logged) → same_pair r q ≡ true → (r.key.identity ≡ q.key.identity) × (r.value ≡ q.value)
unfolding same_pair is_pair
pair_same r q h = (
  sym (eqb-true q.key.identity _ (and_left (eqb q.key.identity r.key.identity) _ h)),
  sym (same_bytes_lem q.value _ (and_right (eqb q.key.identity r.key.identity) _ h)),
)

same_pair_lem : (r q : Logged) → r.key.identity ≡ q.key.identity → r.value ≡ q.value → same_pair r q ≡ true
unfolding same_pair is_pair
same_pair_lem r q i v = and_true _ _ (eq-eqb _ _ (sym i)) (rw v (same_bytes_refl q.value))

handle_same : (r q : Escrowed) → same_handle r q ≡ true → r.key.handle ≡ q.key.handle
unfolding same_handle has_handle
handle_same r q h = let e = sym (eqb-true q.key.handle.0 _ h) in λ i. record { 0 = e i }

same_handle_lem : (r q : Escrowed) → r.key.handle ≡ q.key.handle → same_handle r q ≡ true
unfolding same_handle has_handle
same_handle_lem r q h = eq-eqb _ _ (ap (λ x. x.0) (sym h))

-- ---- a table's entries

abbrev pub is_short : {Key : Type 0} → Entry Key → Bool
is_short e = leb (length e.value) 256

-- as tests of the whole list
pub record Good {Key : Type 0} (ok : Entry Key → Bool) (same : Entry Key → Entry Key → Bool) (l : List (Entry Key)) : Type 0 where
  pub few : length l ≤ 64
  pub fits : bytes_used l ≤ 4096
  pub short : every is_short l ≡ true
  pub good : every ok l ≡ true
  pub apart : differ same l ≡ true

abbrev pub LogGood : List Logged → Type 0
LogGood l = Good good_logged same_pair l

abbrev pub EscrowGood : List Escrowed → Type 0
EscrowGood l = Good good_escrowed same_handle l

pub fitting : {Key : Type 0} {ok : Entry Key → Bool} {same : Entry Key → Entry Key → Bool} {l : List (Entry Key)}
    → Good ok same l → Fitting l
fitting {l} g =
    record { few = g.few; fits = g.fits; short = λ k d b. leb-true _ 256 (every_at is_short l d k g.short b) }

pub short_entries : {Key : Type 0} {l : List (Entry Key)} → Fitting l → every is_short l ≡ true
short_entries {l} f = every_from is_short l (λ k d b. le-leb _ 256 (f.short k d b))

module _ {s : State} (v : Valid s) where
  pub log_of_lem : LogGood s.log
  log_of_lem =
      record {
        few = v.log.few;
        fits = v.log.fits;
        short = short_entries v.log;
        good = every_from good_logged s.log (λ k d b. good_logged_lem _ (v.log_good k d b));
        apart = differ_from same_pair s.log (λ j k d b c h. let e = pair_same _ _ h in v.pairs_differ j k d b c e.0 e.1);
      }

  pub escrow_of_lem : EscrowGood s.escrow
  escrow_of_lem =
      record {
        few = v.escrow.few;
        fits = v.escrow.fits;
        short = short_entries v.escrow;
        good = every_from good_escrowed s.escrow (λ k d b. good_escrowed_lem _ (v.escrow_good k d b));
        apart = differ_from same_handle s.escrow (λ j k d b c h. v.handles_differ j k d b c (handle_same _ _ h));
      }

  -- each tag is the right one
  pub right_tags : every right_tag s.log ≡ true
  unfolding right_tag
  right_tags = every_from right_tag s.log (λ k d b. eq-eqb _ _ (ap (λ t. t.0) (v.log_good k d b).tag))

-- ---- a valid state in parts, since a call alters few of them

pub record Places (ids : List ℕ) (running : ℕ) (hs : List (List ℕ)) : Type 0 where
  pub places : length ids ≡ 16
  pub heaps : length hs ≡ 16
  pub sizes : (p : ℕ) → p < 16 → length (get_or hs p []) ≡ 256
  pub runs : running ≤ 16
  pub live : running < 16 → get_or ids running 0 ≡ 0 → ⊥
  pub empty : (p : ℕ) → p < 16 → get_or ids p 0 ≡ 0 → get_or hs p [] ≡ cleared

pub valid : (s : State) → Places s.identities s.running s.heaps → length s.shared ≡ 1024 → LogGood s.log
    → EscrowGood s.escrow → Valid s
valid s p m l e =
    record {
      places = p.places;
      heaps = p.heaps;
      sizes = p.sizes;
      shared = m;
      runs = p.runs;
      live = p.live;
      empty = p.empty;
      log = fitting l;
      log_good = λ k d b. logged_good _ (every_at good_logged s.log d k l.good b);
      pairs_differ = λ j k d b c i v. differ_at same_pair s.log l.apart j k d b c (same_pair_lem _ _ i v);
      escrow = fitting e;
      escrow_good = λ k d b. escrowed_good _ (every_at good_escrowed s.escrow d k e.good b);
      handles_differ = λ j k d b c h. differ_at same_handle s.escrow e.apart j k d b c (same_handle_lem _ _ h);
    }

pub places_of : {s : State} → Valid s → Places s.identities s.running s.heaps
places_of k =
    record {
      places = k.places;
      heaps = k.heaps;
      sizes = k.sizes;
      runs = k.runs;
      live = k.live;
      empty = k.empty;
    }
