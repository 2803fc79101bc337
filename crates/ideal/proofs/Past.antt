-- The state is as the moves since the fresh one say: so is the fresh state, and each accepted call's move keeps it.
-- Assumes nothing.
use Prim.Native.Nat.{ℕ, ◌-◌, ◌<◌}
use mathlib.Core.Path.{◌≡◌, refl, sym, ap, ◌∙◌}
use mathlib.Core.Bool.{true, false, cond, false≢true}
use mathlib.Core.List.{List, [], ◌∷◌, ◌++◌, map, map-append}
use mathlib.Core.Logic.{⊎_elim}
use native.Mathlib.Omega.{arith}
use lib.ListN.{get_or, get_or-replicate}
use lib.Seq.{sets}
use lib.Dec.{eqb}
use borrow.Author.Tests.{eqb-true, eq-eqb, ne_eqb}
use Rattle.record.specs.declared.Handle.{Handle}
use Rattle.record.specs.declared.Draw.{Draw}
use Rattle.record.specs.Call.{Call}
use Rattle.ideal.specs.State.{Escrowed, State, Move, releases, any, caller, cleared, fresh, identity_at, heap_at}
use Rattle.ideal.specs.Step.{is_pair, paired, with_pair, is_named, is_escrowed, found, has_handle, spent, given_up, protected, apply}
use Rattle.ideal.specs.History.{runs, holder, within, byte_at, is_attested, pairs, protects, is_released}
use Rattle.ideal.specs.Valid.{Valid}
use Rattle.lists.proofs.Bools.{by_cases, clash, and_left, or_split, or_true_left}
use Rattle.lists.proofs.Lists.{any_append, any_at, at_any}
use Rattle.ideal.proofs.Unique.{present}
use Rattle.ideal.proofs.Free.{free_handle_lem}
use Rattle.ideal.proofs.Does.{ReleasePassed, Does, does_nothing, does_take, does_activate, does_empty, does_write, does_share, does_log, does_escrow, does_release}
use Rattle.ideal.proofs.GivenUp.{is_named_lem, handles_stay}
use Rattle.ideal.proofs.Left.{left_by, left, released_all}
use Rattle.ideal.proofs.Memory.{set_at, sets_byte}

-- ---- the state is as the past says

pub record StateAsPast (s : State) (past : List Move) : Type 0 where
  pub running : s.running ≡ runs past
  pub identity : (p : ℕ) → p < 16 → identity_at s p ≡ holder past p
  pub heap : (p x : ℕ) → p < 16 → x < 256 → get_or (heap_at s p) x 0 ≡ byte_at past p x
  pub shared : (x : ℕ) → x < 1024 → get_or s.shared x 0 ≡ byte_at past 16 x
  pub log : s.log ≡ pairs past
  pub escrow : s.escrow ≡ map (left past) (protects past)
  -- the handle of what was released is in the escrow still
  pub ended : (e : Escrowed) → is_released past e ≡ true → any (has_handle e.key.handle) s.escrow ≡ true

cleared_byte : (x : ℕ) → x < 256 → get_or cleared x 0 ≡ 0
unfolding cleared
cleared_byte x h = get_or-replicate 256 x 0 0 h

pub fresh_past : StateAsPast fresh []
unfolding fresh runs holder byte_at pairs protects is_released
fresh_past =
    record {
      running = refl;
      identity = λ p h. get_or-replicate 16 p 0 0 h;
      heap = λ p x h g. ap (λ l. get_or l x 0) (get_or-replicate 16 p cleared [] h) ∙ cleared_byte x g;
      shared = λ x h. get_or-replicate 1024 x 0 0 h;
      log = refl;
      escrow = refl;
      ended = λ e q. absurd (false≢true q);
    }

-- ---- a protect

-- the handle that it is given is that of nothing released
not_yet : (s : State) (i o n : ℕ) (d : Draw) {past : List Move} → Valid s → StateAsPast s past
    → is_released past (protected s i o n d) ≡ false
not_yet s i o n d {past} k h =
    by_cases (is_released past (protected s i o n d))
    (λ q. clash _ (h.ended (protected s i o n d) q) (unfold protected in free_handle_lem n _ s.escrow k.escrow.few))
    (λ q. q)

one_more : (s : State) (i o n : ℕ) (d : Draw) {past : List Move} → Valid s → StateAsPast s past
    → map (left past) (protects past ++ (protected s i o n d ∷ [])) ≡ map (left past) (protects past) ++ (protected s i o n d ∷ [])
unfolding protected left_by
one_more s i o n d {past} k h =
    map-append (left past) (protects past) _ ∙ rw (not_yet s i o n d k h)

-- ---- a release

-- two entries under one handle
under_it : (g : Handle) (i r : ℕ) (x e : Escrowed) → is_named g i r e ≡ true → is_named g i r x ≡ true
    → has_handle x.key.handle e ≡ true
unfolding has_handle
under_it g i r x e a b = eq-eqb _ _ ((is_named_lem g i r e a).handle ∙ sym (is_named_lem g i r x b).handle)

handle_left : (s : State) (i : ℕ) (g : Handle) {past : List Move} → StateAsPast s past → ReleasePassed s i g
    → (x : Escrowed) → is_released (releases i (caller s) g ∷ past) x ≡ true
    → any (has_handle x.key.handle) (map (given_up g i (caller s)) s.escrow) ≡ true
unfolding is_released found is_named is_escrowed
handle_left s i g {past} h a x q =
    let p = is_escrowed g i (caller s) in
    let t = any_at p s.escrow (present p s.escrow a.there) in
    let e = get_or s.escrow t.index x in
    let z : is_named g i (caller s) e ≡ true = and_left (is_named g i (caller s) e) _ (t.passes x) in
    let there : any (has_handle x.key.handle) s.escrow ≡ true =
    ⊎_elim
    (λ y. at_any (has_handle x.key.handle) s.escrow x t.index t.within (under_it g i (caller s) x e z y))
    (h.ended x)
    (or_split (is_named g i (caller s) x) (is_released past x) q) in
    handles_stay g i (caller s) x.key.handle s.escrow ∙ there

-- ---- each move (all of `apply` is opened, so that a wrong effect is refused at the fact that it breaks)

pub past_kept : {s : State} {past : List Move} {c : Call} {m : Move} → Valid s → StateAsPast s past → Does s c m
    → StateAsPast (apply s m) (m ∷ past)
unfolding apply with_pair paired is_pair is_attested is_named spent given_up runs holder byte_at pairs protects is_released
past_kept k h does_nothing =
    record {
      running = h.running;
      identity = h.identity;
      heap = h.heap;
      shared = h.shared;
      log = h.log;
      escrow = h.escrow;
      ended = h.ended;
    }
past_kept {s} k h (does_take {p = p} {i = i} l z n) =
    record {
      running = h.running;
      identity = λ q b. rw (set_at s.identities p i 0 q (omega (arith, k.places))) (ap (cond (eqb q p) i) (h.identity q b));
      heap = λ q x b d.
          by_cases (eqb q p)
          (λ e. rw (e, eqb-true q p e, k.empty p l z) (cleared_byte x d))
          (λ e. rw e (h.heap q x b d));
      shared = λ x b. rw (ne_eqb 16 p (λ e. omega arith)) (h.shared x b);
      log = h.log;
      escrow = h.escrow;
      ended = h.ended;
    }
past_kept k h (does_activate l n) =
    record {
      running = refl;
      identity = h.identity;
      heap = h.heap;
      shared = h.shared;
      log = h.log;
      escrow = h.escrow;
      ended = h.ended;
    }
past_kept {s} k h (does_empty l) =
    let p = s.running in
    record {
      running = refl;
      identity = λ q b. rw (set_at s.identities p 0 0 q (omega (arith, k.places))) (ap (cond (eqb q p) 0) (h.identity q b));
      heap = λ q x b d.
          rw (set_at s.heaps p cleared [] q (omega (arith, k.heaps)))
          (by_cases (eqb q p) (λ e. rw e (cleared_byte x d)) (λ e. rw e (h.heap q x b d)));
      shared = λ x b. rw (ne_eqb 16 p (λ e. omega arith)) (h.shared x b);
      log = h.log;
      escrow = h.escrow;
      ended = h.ended;
    }
past_kept {s} k h (does_write {o = o} {v = v} w l f) =
    let p = s.running in
    record {
      running = h.running;
      identity = h.identity;
      heap = λ q x b d.
          rw (set_at s.heaps p (sets (heap_at s p) o v) [] q (omega (arith, k.heaps)))
          (by_cases (eqb q p)
          (λ e. rw (e, eqb-true q p e, sets_byte (heap_at s p) o v x (omega (arith, k.sizes p l)))
          (ap (cond (within o v x) (get_or v (x - o) 0)) (h.heap p x l d)))
          (λ e. rw e (h.heap q x b d)));
      shared = λ x b. rw (ne_eqb 16 p (λ e. omega arith)) (h.shared x b);
      log = h.log;
      escrow = h.escrow;
      ended = h.ended;
    }
past_kept {s} k h (does_share {o = o} {v = v} f) =
    record {
      running = h.running;
      identity = h.identity;
      heap = λ q x b d. rw (ne_eqb q 16 (λ e. omega arith)) (h.heap q x b d);
      shared = λ x b.
          rw (sets_byte s.shared o v x (omega (arith, k.shared)))
          (ap (cond (within o v x) (get_or v (x - o) 0)) (h.shared x b));
      log = h.log;
      escrow = h.escrow;
      ended = h.ended;
    }
past_kept k h (does_log a) =
    record {
      running = h.running;
      identity = h.identity;
      heap = h.heap;
      shared = h.shared;
      log = rw h.log;
      escrow = h.escrow;
      ended = h.ended;
    }
past_kept {s} {past} k h (does_escrow {i = i} {o = o} {n = n} {d = d} a) =
    let e = protected s i o n d in
    record {
      running = h.running;
      identity = h.identity;
      heap = h.heap;
      shared = h.shared;
      log = h.log;
      escrow = ap (λ l. l ++ (e ∷ [])) h.escrow ∙ sym (one_more s i o n d k h);
      ended = λ x q. any_append (has_handle x.key.handle) s.escrow (e ∷ []) ∙ or_true_left _ _ (h.ended x q);
    }
past_kept {s} {past} k h (does_release {i = i} {h = g} a) =
    record {
      running = h.running;
      identity = h.identity;
      heap = h.heap;
      shared = h.shared;
      log = h.log;
      escrow = ap (map (given_up g i (caller s))) h.escrow ∙ released_all i (caller s) g past (protects past);
      ended = λ x q. handle_left s i g h a x q;
    }
