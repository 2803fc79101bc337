-- A fresh box is sound, and a call on a sound box ends in a sound box: a fresh state is valid, and each move of an accepted
-- call keeps a state valid. Assumes nothing.
use Prim.Native.Nat.{ℕ, zero, suc, ◌+◌, ◌≤◌, ◌<◌}
use mathlib.Core.Path.{◌≡◌, refl, sym, ap, ◌∙◌, subst}
use mathlib.Core.Bool.{Bool, true, false, not, ◌&&◌}
use mathlib.Core.List.{List, [], ◌∷◌, ◌++◌}
use native.Mathlib.Omega.{arith}
use lib.ListN.{length, get_or, set, length-set, length-replicate, get_or-replicate, length-append}
use lib.Seq.{length-sets, get_or-set_same, get_or-set_other}
use lib.Dec.{eqb}
use borrow.Author.Tests.{ltb-false, eqb-true, eqb-false, eq-eqb, ne_eqb, le-leb}
use Rattle.fnv.specs.Fnv.{tag_of}
use Rattle.record.specs.Call.{Call}
use Rattle.record.specs.Read.{Reading, refused, whole, read}
use Rattle.ideal.specs.State.{Entry, Logged, Escrowed, State, Move, empties, cleared, fresh, heap_at, caller, own_part, any, every, same_bytes, bytes_used}
use Rattle.ideal.specs.Step.{is_pair, paired, pair_of, full, with_pair, has_handle, refusal, protected, apply, effect, refuse, accepted, settle, on_reading, step_on, reading_by, step_on_by, step_by}
use Rattle.ideal.specs.Tables.{tables, state_of}
use Rattle.ideal.specs.Soundness.{differ, same_pair, same_handle, right_tag}
use Rattle.ideal.specs.Box.{Element, laid, call_on}
use Rattle.ideal.specs.Valid.{Valid}
use Rattle.ideal.specs.Layouts.{Sound, StatesAgree, StaysSound, FreshBox}
use Rattle.lists.proofs.Bools.{by_cases, and_true, and_other, or_false_left, or_false_right, not_is}
use Rattle.lists.proofs.Lists.{every_more}
use Rattle.ideal.proofs.Lists.{bytes_more, differ_more}
use Rattle.ideal.proofs.Entries.{good_logged, good_escrowed, is_short, Good, LogGood, log_of_lem, escrow_of_lem, Places, valid, places_of}
use Rattle.ideal.proofs.Facts.{output_size_lem}
use Rattle.ideal.proofs.Laid.{state_tables, sound_tables, valid_sound, tables_state, fresh_tables_lem, step_element, call_is}
use Rattle.ideal.proofs.Does.{Does, does_nothing, does_take, does_activate, does_empty, does_write, does_share, does_log, does_escrow, does_release, does}
pub use Rattle.ideal.proofs.Does.{busy, own_size}
use Rattle.ideal.proofs.Handles.{in_no_row, carries_length_lem}
use Rattle.ideal.proofs.GivenUp.{good_after}

-- ---- places

pub cleared_length : length cleared ≡ 256
unfolding cleared
cleared_length = length-replicate {A = ℕ} 256 0

-- what holds of the element that is set, and of the others, holds after the set
pub at_set : {A : Type 0} (P : A → Type 0) (l : List A) (i j : ℕ) (a d : A) → i < length l → (j ≡ i → P a)
    → ((j ≡ i → ⊥) → P (get_or l j d)) → P (get_or (set l i a) j d)
at_set P l i j a d h f g =
    by_cases (eqb j i)
    (λ e. let q = eqb-true j i e in rw (q, get_or-set_same l i a d h) (f q))
    (λ e. let n = eqb-false j i e in rw (get_or-set_other l i j a d n) (g n))

module _ {ids : List ℕ} {r : ℕ} {hs : List (List ℕ)} (k : Places ids r hs) where
  created : (p i : ℕ) → p < 16 → (i ≡ 0 → ⊥) → Places (set ids p i) r hs
  created p i h n =
      let lt : p < length ids = omega (arith, k.places) in
      record {
        places = length-set ids p i ∙ k.places;
        heaps = k.heaps;
        sizes = k.sizes;
        runs = k.runs;
        live = λ g. at_set (λ x. x ≡ 0 → ⊥) ids p r i 0 lt (λ e. n) (λ e. k.live g);
        empty = λ q g. at_set (λ x. x ≡ 0 → get_or hs q [] ≡ cleared) ids p q i 0 lt (λ e z. absurd (n z)) (λ e. k.empty q g);
      }

  now_runs : (p : ℕ) → p ≤ 16 → (p < 16 → get_or ids p 0 ≡ 0 → ⊥) → Places ids p hs
  now_runs p h n = record { places = k.places; heaps = k.heaps; sizes = k.sizes; runs = h; live = n; empty = k.empty }

  module _ (runs : r < 16) where
    filled : (x : List ℕ) → length x ≡ 256 → Places ids r (set hs r x)
    filled x n =
        let lt : r < length hs = omega (arith, k.heaps) in
        record {
          places = k.places;
          heaps = length-set hs r x ∙ k.heaps;
          sizes = λ p h. at_set (λ y. length y ≡ 256) hs r p x [] lt (λ e. n) (λ e. k.sizes p h);
          runs = k.runs;
          live = k.live;
          empty = λ p h z. at_set (λ y. y ≡ cleared) hs r p x [] lt (λ e. absurd (k.live runs (rw e at z))) (λ e. k.empty p h z);
        }

    exited : Places (set ids r 0) 16 (set hs r cleared)
    exited =
        let lt : r < length hs = omega (arith, k.heaps) in
        record {
          places = length-set ids r 0 ∙ k.places;
          heaps = length-set hs r cleared ∙ k.heaps;
          sizes = λ p h. at_set (λ y. length y ≡ 256) hs r p cleared [] lt (λ e. cleared_length) (λ e. k.sizes p h);
          runs = omega arith;
          live = λ g. absurd (omega arith);
          empty = λ p h z.
              at_set (λ y. y ≡ cleared) hs r p cleared [] lt (λ e. refl)
              (λ e. k.empty p h (sym (get_or-set_other ids r p 0 0 e) ∙ z));
        }

-- ---- one entry more

pub eqb_comm : (a b : ℕ) → eqb a b ≡ eqb b a
eqb_comm a b =
    by_cases (eqb a b)
    (λ e. e ∙ sym (eq-eqb b a (sym (eqb-true a b e))))
    (λ e. e ∙ sym (ne_eqb b a (λ q. eqb-false a b e (sym q))))

pub same_comm : (v w : List ℕ) → same_bytes v w ≡ same_bytes w v
unfolding same_bytes
same_comm [] [] = refl
same_comm [] (b ∷ w) = refl
same_comm (a ∷ v) [] = refl
same_comm (a ∷ v) (b ∷ w) = rw (eqb_comm a b, same_comm v w)

pub any_same : {A : Type 0} (p q : A → Bool) (l : List A) → ((a : A) → p a ≡ q a) → any p l ≡ any q l
unfolding any
any_same p q [] e = refl
any_same p q (a ∷ l) e = rw (e a, any_same p q l e)

good_more : {Key : Type 0} {ok : Entry Key → Bool} {same : Entry Key → Entry Key → Bool} {l : List (Entry Key)} (e : Entry Key)
    (n : ℕ) → Good ok same l → length e.value ≡ n → n ≤ 256 → full l n ≡ false → ok e ≡ true → any (λ r. same r e) l ≡ false
    → Good ok same (l ++ (e ∷ []))
unfolding full
good_more {ok} {same} {l} e n k s m f g u =
    let a = eqb-false (length l) 64 (or_false_left (eqb (length l) 64) _ f) in
    let b = ltb-false 4096 (bytes_used l + n) (or_false_right (eqb (length l) 64) _ f) in
    let c = k.few in
    let d : length e.value ≤ 256 = omega arith in
    record {
      few = simp length-append (omega arith);
      fits = rw (bytes_more l e) (omega arith);
      short = every_more is_short l e k.short (le-leb (length e.value) 256 d);
      good = every_more ok l e k.good g;
      apart = differ_more same l e k.apart u;
    }

new_handle : (e : Escrowed) (l : List Escrowed) → any (has_handle e.key.handle) l ≡ false → any (λ r. same_handle r e) l ≡ false
unfolding same_handle has_handle
new_handle e l u = any_same _ (has_handle e.key.handle) l (λ r. eqb_comm e.key.handle.0 r.key.handle.0) ∙ u

log_more : (l : List Logged) (i : ℕ) (v : List ℕ) (n : ℕ) → LogGood l → (i ≡ 0 → ⊥) → length v ≡ n → n ≤ 256
    → not (paired i v l) && full l n ≡ false → LogGood (with_pair (pair_of i v) l)
unfolding with_pair paired good_logged right_tag same_pair is_pair
log_more l i v n k z e m h =
    by_cases (any (is_pair i v) l)
    (λ t. rw t k)
    (λ t.
    let f = and_other (not (any (is_pair i v) l)) _ (not_is _ t) h in
    let good = and_true (not (eqb i 0)) _ (not_is _ (ne_eqb i 0 z)) (eq-eqb (tag_of i v).0 _ refl) in
    let new = any_same _ (is_pair i v) l (λ r. rw (eqb_comm i r.key.identity, same_comm v r.value)) ∙ t in
    rw t (good_more (pair_of i v) n k e m f good new))

-- ---- each move

-- the place that an exit empties has a heap of zeros
valid_exit : {s : State} → Valid s → s.running < 16 → Valid (apply s (empties s.running))
unfolding apply
valid_exit {s} k h = valid _ (exited (places_of k) h) k.shared (log_of_lem k) (escrow_of_lem k)

pub valid_apply : {s : State} {c : Call} {m : Move} → Valid s → Does s c m → Valid (apply s m)
unfolding apply protected good_escrowed
valid_apply k does_nothing = k
valid_apply k (does_take h z n) = valid _ (created (places_of k) _ _ h n) k.shared (log_of_lem k) (escrow_of_lem k)
valid_apply k (does_activate h n) = valid _ (now_runs (places_of k) _ h n) k.shared (log_of_lem k) (escrow_of_lem k)
valid_apply k (does_empty h) = valid_exit k h
valid_apply {s} k (does_write {o = o} {v = v} w h f) =
    let n = length-sets (heap_at s s.running) o v ∙ k.sizes s.running h in
    valid _ (filled (places_of k) h _ n) k.shared (log_of_lem k) (escrow_of_lem k)
valid_apply {s} k (does_share {o = o} {v = v} f) =
    valid _ (places_of k) (length-sets s.shared o v ∙ k.shared) (log_of_lem k) (escrow_of_lem k)
valid_apply {s} k (does_log {o = o} {n = n} a) =
    let f = a.fits in
    let size = own_size s o n k a.runs f in
    let more = log_more s.log (caller s) (own_part s o n) n (log_of_lem k) (k.live a.runs) size (omega arith) a.room in
    valid _ (places_of k) k.shared more (escrow_of_lem k)
valid_apply {s} k (does_escrow {i = i} {o = o} {n = n} {d = d} a) =
    let f = a.fits in
    let size = own_size s o n k a.runs f in
    let good : good_escrowed (protected s i o n d) ≡ true =
    and_true (not (eqb (caller s) 0)) _ (not_is _ (ne_eqb _ _ (k.live a.runs)))
    (and_true (not (eqb i 0)) _ (not_is _ (ne_eqb i 0 a.named))
    (and_true true _ refl (eq-eqb _ _ (carries_length_lem s i o n d k a ∙ sym size)))) in
    let new = new_handle (protected s i o n d) s.escrow (in_no_row s i o n d k a) in
    valid _ (places_of k) k.shared (log_of_lem k) (good_more _ n (escrow_of_lem k) size (omega arith) a.room good new)
valid_apply {s} k (does_release {i = i} {h = h} a) =
    valid _ (places_of k) k.shared (log_of_lem k) (good_after h i (caller s) s.escrow (escrow_of_lem k))

-- ---- a fresh box

no_entries : {Key : Type 0} {ok : Entry Key → Bool} {same : Entry Key → Entry Key → Bool} → Good ok same []
unfolding bytes_used every differ
no_entries = record { few = omega arith; fits = omega arith; short = refl; good = refl; apart = refl }

pub valid_fresh : Valid fresh
unfolding fresh
valid_fresh =
    valid _
    (record {
      places = length-replicate {A = ℕ} 16 0;
      heaps = length-replicate 16 cleared;
      sizes = λ p h. ap length (get_or-replicate 16 p cleared [] h) ∙ cleared_length;
      runs = omega arith;
      live = λ g. absurd (omega arith);
      empty = λ p h z. get_or-replicate 16 p cleared [] h;
    })
    (length-replicate {A = ℕ} 1024 0)
    no_entries
    no_entries

-- ---- one element on the state

pub valid_effect : (s : State) (c : Call) → Valid s → refusal s c ≡ 0 → Valid (effect s c)
unfolding effect
valid_effect s c k r = valid_apply k (does s c k r)

valid_settle : (n : ℕ) (s : State) (c : Call) (used : ℕ) → Valid s → refusal s c ≡ n → Valid (settle n s c used).state
unfolding settle accepted refuse
valid_settle zero s c used k r = valid_effect s c k r
valid_settle (suc n) s c used k r = k

valid_reading : (s : State) (r : Reading) → Valid s → Valid (on_reading s r).state
unfolding reading_by step_by refuse
valid_reading s (refused code number) k = k
valid_reading s (whole c used) k = valid_settle (refusal s c) s c used k refl

pub valid_on : (s : State) (bytes : List ℕ) → Valid s → Valid (step_on s bytes).state
unfolding step_on_by
valid_on s bytes k = valid_reading s (read bytes) k

pub valid_step : (s : State) (e : Element) → Valid s → Valid (step_element s e).state
unfolding step_element refuse
valid_step s e k = by_cases (eqb e.output_size 1024) (λ x. rw x (valid_on s e.bytes k)) (λ x. rw x k)

-- ---- the statements

pub states_agree : StatesAgree
states_agree t n bytes h = state_tables (step_on (state_of t) bytes).state (valid_on (state_of t) bytes (valid_sound t n h))

pub stays_sound : StaysSound call_on
unfolding laid
stays_sound t e h =
    let k = valid_sound t e.output_size h in
    let s = (step_element (state_of t) e).state in
    let is : (call_on t e).tables ≡ tables s =
    ap (λ x. (call_on x e).tables) (sym (tables_state t e.output_size h)) ∙ ap (λ r. r.tables) (call_is (state_of t) e k) in
    subst (Sound (call_on t e).tables) (sym (output_size_lem t e.output_size h.sizes))
    (rw is (sound_tables s (valid_step (state_of t) e k)))

pub fresh_box : FreshBox
fresh_box =
    record {
      is = fresh_tables_lem;
      stands = ap state_of fresh_tables_lem ∙ state_tables fresh valid_fresh;
      sound = rw fresh_tables_lem (sound_tables fresh valid_fresh);
    }
