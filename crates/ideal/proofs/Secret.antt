-- Demand 3: two runs of the box differ only in what the group holds. First of any secrets: one call, and one element, on two
-- states that differ in secrets alone; then of what a group holds.
use Prim.Native.Nat.{ℕ, zero, suc, ◌+◌, ◌≤◌, ◌<◌}
use mathlib.Core.Path.{◌≡◌, refl, sym, ap, ◌∙◌, subst, subst₂}
use mathlib.Core.Bool.{Bool, true, false, ◌&&◌, cond, false≢true}
use mathlib.Core.List.{List, []}
use native.Mathlib.Omega.{arith}
use lib.ListN.{length, get_or, get_or-eq_default}
use lib.Dec.{eqb, ltb}
use borrow.Author.Tests.{eqb-true, ltb-true, ltb-false, not-false}
use Rattle.record.specs.declared.Draw.{Draw}
use Rattle.record.specs.Call.{Link, Call, create, exit, heap_write, heap_read, shared_write, shared_read, attest, check, protect, retrieve, report, hand_over, chain, release}
use Rattle.record.specs.Read.{Reading, refused, whole, read}
use Rattle.record.specs.Write.{filled}
use Rattle.ideal.specs.State.{EscrowKey, Escrowed, State, fresh, identity_at, caller, part, own_part}
use Rattle.ideal.specs.Step.{pair_of, found, absent, follow, links_from, idle, vacant, beyond, first_holding, tests, refusal, protected, move, apply, effect, number, shown, Answer, Stepped as Outcome, refused_answer, refuse, accepted, settle, step, on_reading, reading_by, step_on_by, step_by}
use Rattle.ideal.specs.Tables.{Tables, escrow_table, entry_of, rows_from, rows_of, box_record, tables, fresh_tables}
use Rattle.ideal.specs.Box.{Element, laid, call_on}
use Rattle.ideal.specs.Refusals.{own_bytes}
use Rattle.ideal.specs.Secrecy.{inside, group_runs, group_to_group, AlikeAt, same, other_bytes, EqualAt, AgreeOutside, PremiseAt, is_chain, own_chain, Secrecy}
use Rattle.ideal.specs.Valid.{Valid}
use Rattle.lists.proofs.Bools.{by_cases, and_left, and_right, and_true, and_false, and_other, or_true_left, clash}
use Rattle.ideal.proofs.Passing.{failed, passed}
use Rattle.ideal.proofs.Does.{protect_passed}
use Rattle.ideal.proofs.Laid.{step_element, fresh_tables_lem, call_is}
use Rattle.ideal.proofs.Kept.{valid_fresh, valid_step}
use Rattle.ideal.proofs.Hosted.{heap_is, escrowed_is}
use Rattle.ideal.proofs.OwnHeap.{own_bytes_lem}
use Rattle.ideal.proofs.Following.{at_first, SameChain, same_chain}
use Rattle.ideal.proofs.TwoEscrows.{SameFound, same_absent, SameEntry, SameEscrow, no_entries, entry, same_count, same_bytes_used, same_at, same_full, same_handle_lem}
use Rattle.ideal.proofs.TwoStates.{Secrets, SameBut, same_state, AlikeCalls, same_call, other_call, NoneTold, same_caller, same_idle, same_vacant, same_size, same_found, same_own, SameMove, same_nothing, same_take, same_activate, same_empty, same_write, same_share, same_log, same_escrows, same_releases, same_apply}
use Rattle.ideal.proofs.TwoRuns.{Preserved, Stepped, secrecy_of}

-- ---- one call on two states that differ in secrets alone

-- a chain is read
unfoldable pub chained : Reading → Bool
chained (refused code number) = false
chained (whole c used) = eqb (filled c).kind 15

-- a chain by a program whose heap is secret: its refusal and its number may differ
abbrev pub excused : Secrets → State → Call → Bool
excused z s c = z.heap s.running (caller s) && eqb (filled c).kind 15

-- the same refusal; and of an accepted call the same number, the same bytes shown where the running heap is open, and moves
-- that differ in secrets alone
pub record SameCall (z : Secrets) (s t : State) (c d : Call) : Type 0 where
  pub refuses : excused z s c ≡ false → refusal s c ≡ refusal t d
  pub answers : excused z s c ≡ false → refusal s c ≡ 0 → number s c ≡ number t d
  pub shows : z.heap s.running (caller s) ≡ false → shown s c ≡ shown t d
  pub moves : refusal s c ≡ 0 → SameMove z s t (move s c) (move t d)

open_chain : (b : Bool) → b && true ≡ false → b ≡ false
open_chain true o = absurd (false≢true (sym o))
open_chain false o = refl

module _ (z : Secrets) {s t : State} (k : SameBut z s t) where
  pub known_attest : (o n : ℕ) → NoneTold z s t (attest o n) → beyond 256 o n ≡ false → own_part s o n ≡ own_part t o n
  unfolding beyond
  known_attest o n a e =
      by_cases (z.heap s.running (caller s)) (λ g. a.attests g o n refl (ltb-false 256 (o + n) e)) (λ g. same_own z k o n g)

  accepted_attest : (o n : ℕ) → NoneTold z s t (attest o n) → refusal s (attest o n) ≡ 0
      → pair_of (caller s) (own_part s o n) ≡ pair_of (caller t) (own_part t o n)
  unfolding refusal tests
  accepted_attest o n a r = rw (same_caller z k, known_attest o n a (failed 10 _ _ (passed 3 (idle s) _ r)))

  accepted_protect : (i o n : ℕ) (d : Draw) → NoneTold z s t (protect i o n d) → refusal s (protect i o n d) ≡ 0
      → SameEntry z.value (protected s i o n d) (protected t i o n d)
  unfolding protected
  accepted_protect i o n d a r =
      record {
        key = λ m. record { source = same_caller z k m; recipient = i; handle = same_handle_lem z.value n d k.escrow m; mark = 0 };
        size = same_size z k o n;
        value = λ e.
            by_cases (z.heap s.running (caller s)) (λ g. a.protects g i o n d refl e r) (λ g. same_own z k o n g);
      }

  same_attest : (o n : ℕ) → NoneTold z s t (attest o n) → refusal s (attest o n) ≡ refusal t (attest o n)
  unfolding refusal tests first_holding
  same_attest o n a =
      by_cases (beyond 256 o n) (λ e. rw (same_idle z k, e))
      (λ e. rw (same_idle z k, same_caller z k, known_attest o n a e, k.log))

  -- a call that answers the same whatever it may see
  plain : {c d : Call} → refusal s c ≡ refusal t d → number s c ≡ number t d → shown s c ≡ shown t d
      → (refusal s c ≡ 0 → SameMove z s t (move s c) (move t d)) → SameCall z s t c d
  plain r n v m = record { refuses = λ _. r; answers = λ _ _. n; shows = λ _. v; moves = m }

  vacant_create : (p i : ℕ) → refusal s (create p i) ≡ 0 → identity_at s p ≡ 0
  unfolding refusal tests vacant
  vacant_create p i r = eqb-true (identity_at s p) 0 (not-false (vacant s p) (failed 6 _ _ (passed 5 (ltb 15 p) _ r)))

  -- a chain, where the running heap is open
  same_follow : (first : Link) (v : List ℕ) → NoneTold z s t (chain first v) → z.heap s.running (caller s) ≡ false
      → SameChain s.log (found s) (found t) 16 first v
  same_follow first v a g =
      same_chain s.log (found s) (found t) first v
      (λ left i h rest c.
      let f = same_found z k i h in
      by_cases (absent (found s i h))
      (λ none. same_absent _ _ f none)
      (λ some. subst (λ b. SameFound b (found s i h) (found t i h)) (a.follows g first v refl left i h rest c some) f))
      16 first v at_first

  same_chain_call : (first : Link) (v : List ℕ) → NoneTold z s t (chain first v) → SameCall z s t (chain first v) (chain first v)
  unfolding refusal tests first_holding number shown move filled
  same_chain_call first v a =
      let secret = z.heap s.running (caller s) in
      record {
        refuses = λ o.
            let same = (same_follow first v a (open_chain secret o)).refuses
            ∙ ap (λ l. first_holding (follow l (found t) 16 first v)) k.log in
            λ j. cond (same_idle z k j) 4 (same j);
        answers = λ o r.
            (same_follow first v a (open_chain secret o)).counts (passed 3 (idle s) (follow s.log (found s) 16 first v) r)
            ∙ ap (λ l. links_from l (found t) 16 first v) k.log;
        shows = λ g. refl;
        moves = λ r. same_nothing;
      }

  pub same_in_both : {c d : Call} → AlikeCalls z s c d → NoneTold z s t c → SameCall z s t c d
  unfolding refusal tests number shown move
  same_in_both (same_call (create p i)) a = plain (rw (same_vacant z k p)) refl refl (λ r. same_take (vacant_create p i r))
  same_in_both (same_call exit) a = plain (rw (same_idle z k)) refl refl (λ r. same_empty k.running)
  same_in_both (same_call (heap_write p o v)) a =
      plain (rw (same_idle z k, k.running)) refl refl (λ r. same_write k.running refl (λ _. refl))
  same_in_both (same_call (heap_read p o n)) a =
      record {
        refuses = λ _. rw (same_idle z k, k.running);
        answers = λ _ r. refl;
        shows = same_own z k o n;
        moves = λ r. same_nothing;
      }
  same_in_both (same_call (shared_write o v)) a = plain refl refl refl (λ r. same_share)
  same_in_both (same_call (shared_read o n)) a = plain refl refl (rw k.shared) (λ r. same_nothing)
  same_in_both (same_call (attest o n)) a =
      record {
        refuses = λ _. same_attest o n a;
        answers = λ _ r. ap (λ e. e.key.tag.0) (accepted_attest o n a r);
        shows = λ g. refl;
        moves = λ r. same_log (accepted_attest o n a r);
      }
  same_in_both (same_call (check i g v)) a = plain refl (rw k.log) refl (λ r. same_nothing)
  same_in_both (same_call (protect i o n d)) a =
      plain (rw (same_idle z k, same_full z.value n k.escrow)) (ap (λ h. h.0) (same_handle_lem z.value n d k.escrow)) refl
      (λ r. same_escrows (accepted_protect i o n d a r))
  same_in_both (same_call (retrieve i o h)) a =
      let f = same_found z k i h in
      plain (rw (same_idle z k, f.absent, f.size)) f.size refl
      (λ r. same_write k.running f.size (λ g. f.value (a.retrieves g i o h refl r)))
  same_in_both (same_call report) a =
      plain refl (rw (k.identities, k.log, same_count z.value k.escrow)) refl (λ r. same_nothing)
  same_in_both (same_call (hand_over p)) a = plain (rw (same_vacant z k p)) refl refl (λ r. same_activate)
  same_in_both (same_call (chain first v)) a = same_chain_call first v a
  same_in_both (same_call (release i h)) a =
      plain (rw (same_idle z k, (same_found z k i h).absent)) refl refl (λ r. same_releases (same_caller z k))
  same_in_both (other_call p o v w g n) a =
      plain (rw (same_idle z k, k.running, n)) n refl (λ r. same_write k.running n (λ h. clash _ g h))

  pub same_effect : {c d : Call} → AlikeCalls z s c d → NoneTold z s t c → refusal s c ≡ 0 → SameBut z (effect s c) (effect t d)
  unfolding effect
  same_effect a n r = same_apply z k ((same_in_both a n).moves r)

-- ---- one element on both

-- a branch of each side, by the same test
cond_both : {A : Type 0} (R : A → A → Type 0) (b : Bool) {x y v w : A} → (b ≡ true → R x y) → (b ≡ false → R v w)
    → R (cond b x v) (cond b y w)
cond_both R true f g = f refl
cond_both R false f g = g refl

-- where the first state was s and this was read; bytes shown by a program whose heap is secret may differ, and so may code
-- and number of its chains
pub record Both (z : Secrets) (s : State) (r : Reading) (o p : Outcome) : Type 0 where
  pub state : SameBut z o.state p.state
  pub answer : let secret = z.heap s.running (caller s) in EqualAt (secret && chained r) secret o.answer p.answer

-- a chain alters nothing and shows nothing
pub still : (s : State) (n : ℕ) (c : Call) (u : ℕ) → eqb (filled c).kind 15 ≡ true
    → ((settle n s c u).state ≡ s) × ((settle n s c u).answer.used ≡ u) × ((settle n s c u).answer.shown ≡ [])
unfolding filled settle accepted refuse refused_answer effect move apply shown
still s n (create p i) u e = absurd (false≢true e)
still s n exit u e = absurd (false≢true e)
still s n (heap_write p o v) u e = absurd (false≢true e)
still s n (heap_read p o m) u e = absurd (false≢true e)
still s n (shared_write o v) u e = absurd (false≢true e)
still s n (shared_read o m) u e = absurd (false≢true e)
still s n (attest o m) u e = absurd (false≢true e)
still s n (check i g v) u e = absurd (false≢true e)
still s n (protect i o m d) u e = absurd (false≢true e)
still s n (retrieve i o h) u e = absurd (false≢true e)
still s n report u e = absurd (false≢true e)
still s n (hand_over p) u e = absurd (false≢true e)
still s zero (chain first v) u e = (refl, refl, refl)
still s (suc n) (chain first v) u e = (refl, refl, refl)
still s n (release i h) u e = absurd (false≢true e)

module _ (z : Secrets) {s t : State} (k : SameBut z s t) where
  both_refuse : (r : Reading) (code number used : ℕ) → Both z s r (refuse s code number used) (refuse t code number used)
  unfolding refuse refused_answer
  both_refuse r code number used =
      record { state = k; answer = record { code = λ _. refl; number = λ _. refl; used = refl; shown = λ _. refl } }

  both_settle : (n : ℕ) {c d : Call} (u : ℕ) → AlikeCalls z s c d → NoneTold z s t c → excused z s c ≡ false → refusal s c ≡ n
      → Both z s (whole c u) (settle n s c u) (settle n t d u)
  unfolding settle accepted
  both_settle zero u a h o r =
      let c = same_in_both z k a h in
      record {
        state = same_effect z k a h r;
        answer = record { code = λ _. refl; number = λ _. c.answers o r; used = refl; shown = c.shows };
      }
  both_settle (suc n) {c} u a h o r = both_refuse (whole c u) (suc n) 0 u

  -- an excused chain
  both_still : {c d : Call} (n m u : ℕ) → AlikeCalls z s c d → excused z s c ≡ true
      → Both z s (whole c u) (settle n s c u) (settle m t d u)
  unfolding chained filled
  both_still {c} n m u (same_call _) x =
      let e = and_right (z.heap s.running (caller s)) _ x in
      let (s₁, u₁, v₁) = still s n c u e in
      let (s₂, u₂, v₂) = still t m c u e in
      record {
        state = subst₂ (λ a b. SameBut z a b) (sym s₁) (sym s₂) k;
        answer =
            record {
              code = λ o. clash _ x o;
              number = λ o. clash _ x o;
              used = u₁ ∙ sym u₂;
              shown = λ _. v₁ ∙ sym v₂;
            };
      }
  both_still n m u (other_call p o v w g l) x = absurd (false≢true (and_right (z.heap s.running (caller s)) _ x))

  both_step : {c d : Call} (u : ℕ) → AlikeCalls z s c d → NoneTold z s t c → Both z s (whole c u) (step s c u) (step t d u)
  unfolding step_by
  both_step {c} {d} u a h =
      by_cases (excused z s c)
      (λ x. both_still (refusal s c) (refusal t d) u a x)
      (λ o. rw (← (same_in_both z k a h).refuses o) (both_settle (refusal s c) u a h o refl))

  both_reading : (r : Reading) → ((c : Call) (u : ℕ) → r ≡ whole c u → NoneTold z s t c) → Both z s r (on_reading s r) (on_reading t r)
  unfolding reading_by
  both_reading (refused code number) h = both_refuse (refused code number) code number 0
  both_reading (whole c u) h = both_step u (same_call c) (h c u refl)

  module _ (e : Element)
      (h : eqb e.output_size 1024 ≡ true → (c : Call) (u : ℕ) → read e.bytes ≡ whole c u → NoneTold z s t c) where
    pub both_element : Both z s (read e.bytes) (step_element s e) (step_element t e)
    unfolding step_element step_on_by
    both_element =
        cond_both (λ o p. Both z s (read e.bytes) o p) (eqb e.output_size 1024) (λ x. both_reading (read e.bytes) (h x))
        (λ _. both_refuse _ 15 0 0)

    -- two elements that are read whole, to calls that are alike
    pub both_calls : (f : Element) {c d : Call} (u : ℕ) → AlikeCalls z s c d → e.output_size ≡ f.output_size
        → read e.bytes ≡ whole c u → read f.bytes ≡ whole d u
        → Both z s (read e.bytes) (step_element s e) (step_element t f)
    unfolding step_element step_on_by reading_by
    both_calls f {c} u a n q r =
        rw (← n, q, r)
        (cond_both (λ o p. Both z s (whole c u) o p) (eqb e.output_size 1024) (λ x. both_step u a (h x _ u q))
        (λ _. both_refuse _ 15 0 0))

-- where nothing is hidden the answers are the same
pub all_equal : (chains : Bool) {hidden : Bool} {a b : Answer} → hidden ≡ false → EqualAt (hidden && chains) hidden a b → a ≡ b
all_equal chains h x =
    let c = x.code (rw h) in
    let n = x.number (rw h) in
    let v = x.shown h in
    λ m. record { code = c m; number = n m; used = x.used m; shown = v m }

-- ---- what the group holds

pub inside_zero : (G : ℕ → Bool) → inside G 0 ≡ false
unfolding inside
inside_zero G = refl

-- group heaps, and escrow values from one group program to another
abbrev pub held : (ℕ → Bool) → Secrets
held G =
    record {
      heap = λ _. inside G;
      value = λ k. inside G k.source && inside G k.recipient;
      none_empty = λ _. inside_zero G;
    }

-- ---- the premise, on the states

pub runs_below : (G : ℕ → Bool) (s : State) → Valid s → inside G (caller s) ≡ true → s.running < 16
runs_below G s v g =
    by_cases (ltb s.running 16) (λ e. ltb-true _ _ e)
    (λ e.
    let h = ltb-false s.running 16 e in
    let n = v.places in
    let none : caller s ≡ 0 = get_or-eq_default s.identities 0 (omega arith) in
    clash (inside G (caller s)) g (rw none (inside_zero G)))

pub accepted_code : (s : State) (e : Element) (c : Call) (u : ℕ) → Valid s → eqb e.output_size 1024 ≡ true
    → read e.bytes ≡ whole c u → refusal s c ≡ 0 → (call_on (tables s) e).answer.code ≡ 0
unfolding laid step_element step_on_by reading_by step_by settle accepted
accepted_code s e c u v x y r = ap (λ z. z.answer.code) (call_is s e v) ∙ rw (x, y, r)

module _ (G : ℕ → Bool) {s t : State} (k : SameBut (held G) s t) (v : Valid s) (w : Valid t) (e : Element)
    (p : PremiseAt call_on G (tables s) (tables t) e) where
  same_known : (o n : ℕ) → inside G (caller s) ≡ true → o + n ≤ 256 → own_bytes (tables s) o n ≡ own_bytes (tables t) o n
      → own_part s o n ≡ own_part t o n
  same_known o n g h q =
      let r = runs_below G s v g in
      let a = k.running in
      sym (own_bytes_lem s v r o n h) ∙ q ∙ own_bytes_lem t w (omega arith) o n h

  pub told : eqb e.output_size 1024 ≡ true → (c : Call) (u : ℕ) → read e.bytes ≡ whole c u → NoneTold (held G) s t c
  unfolding group_runs tables box_record protected
  told x c u y =
      record {
        attests = λ g o n q h. same_known o n g h (p.attests g o n u (y ∙ ap (λ z. whole z u) q) h);
        protects = λ g i o n d q out r.
            same_known o n g (protect_passed s i o n d v (rw q at r)).fits
            (p.protects g i o n d u (y ∙ ap (λ z. whole z u) q) (and_other _ _ g out) (accepted_code s e c u v x y r));
        retrieves = λ g i o h q r. and_false (inside G i) _ g;
        follows = λ g first b q left i h rest come some. and_false (inside G i) _ g;
      }

  both_alike : (f : Element) → AlikeAt G (tables s) e f → Both (held G) s (read e.bytes) (step_element s e) (step_element t f)
  unfolding group_runs tables box_record
  both_alike f (same q) =
      subst (λ x. Both (held G) s (read e.bytes) (step_element s e) (step_element t x)) q (both_element (held G) k e told)
  both_alike f (other_bytes g h) =
      both_calls (held G) k e told f h.used (other_call _ _ _ _ g h.count) h.output_size h.reads₁ h.reads₂

-- ---- the tables of both states

no_entry : Escrowed
no_entry = record { key = record { source = 0; recipient = 0; handle = record { 0 = 0 }; mark = 0 }; value = [] }

same_rows : (secret : EscrowKey → Bool) (at : ℕ) {l m : List Escrowed} → SameEscrow secret l m
    → rows_from escrow_table at l ≡ rows_from escrow_table at m
unfolding rows_from
same_rows secret at no_entries = refl
same_rows secret at (entry {q = q} x xs) = rw (x.key, x.size, same_rows secret (at + length q.value) xs)

module _ (z : Secrets) {s t : State} (k : SameBut z s t) where
  pub same_box : box_record s ≡ box_record t
  unfolding box_record
  same_box = rw (k.identities, k.running, k.log, same_count z.value k.escrow, same_bytes_used z.value k.escrow)

  pub same_escrow_rows : (tables s).escrow_rows ≡ (tables t).escrow_rows
  unfolding tables rows_of
  same_escrow_rows = rw (same_rows z.value 0 k.escrow)

  pub same_escrow_values : Valid s → Valid t → (n : ℕ) → n < length s.escrow
      → let r = get_or (tables s).escrow_rows n escrow_table.blank in
      z.value (escrow_table.key r) ≡ false
      → part (tables s).escrow_values r.first r.length ≡ part (tables t).escrow_values r.first r.length
  same_escrow_values v w n h g =
      let c = same_count z.value k.escrow in
      let a = escrowed_is s v no_entry n h in
      let b = escrowed_is t w no_entry n (omega arith) in
      let m = same_at z.value no_entry n k.escrow in
      ap (λ e. e.value) a ∙ m.value (ap (λ e. z.value e.key) (sym a) ∙ g) ∙ sym (ap (λ e. e.value) b)
      ∙ ap (λ l. (entry_of escrow_table (tables t).escrow_values (get_or l n escrow_table.blank)).value) (sym same_escrow_rows)

agree_outside : (G : ℕ → Bool) {s t : State} → SameBut (held G) s t → Valid s → Valid t → AgreeOutside G (tables s) (tables t)
unfolding tables box_record group_to_group
agree_outside G {s} {t} k v w =
    record {
      box = same_box (held G) k;
      shared = k.shared;
      log_rows = rw k.log;
      log_values = rw k.log;
      escrow_rows = same_escrow_rows (held G) k;
      heaps = λ p h g. heap_is s v p h ∙ k.heaps.open_places p g ∙ sym (heap_is t w p h);
      escrow_values = same_escrow_values (held G) k v w;
    }

-- tables of two runs, with the states that they are the tables of
pub record Related (G : ℕ → Bool) (x y : Tables) : Type 0 where
  pub first : State
  pub second : State
  pub valid₁ : Valid first
  pub valid₂ : Valid second
  pub is₁ : tables first ≡ x
  pub is₂ : tables second ≡ y
  pub same : SameBut (held G) first second

-- what is compared is compared under an exemption that leaves out no less
pub exempt_more : {x y hidden : Bool} {a b : Answer} → (x ≡ true → y ≡ true) → EqualAt x hidden a b → EqualAt y hidden a b
exempt_more {x} {y} h q =
    let less : y ≡ false → x ≡ false = λ n. by_cases x (λ t. clash y (h t) n) (λ f. f) in
    record { code = λ n. q.code (less n); number = λ n. q.number (less n); used = q.used; shown = q.shown }

-- a group program's chains are exempt
chain_exempt : (r : Reading) → chained r ≡ true → is_chain r ≡ true
unfolding chained is_chain
chain_exempt (refused code number) h = absurd (false≢true h)
chain_exempt (whole c used) h = search (or_true_left, h)

own_exempt : (G : ℕ → Bool) (s : State) (e : Element) → (inside G (caller s) && chained (read e.bytes)) ≡ true
    → own_chain G (tables s) e ≡ true
unfolding own_chain group_runs tables box_record
own_exempt G s e h =
    let runs = and_left (inside G (caller s)) _ h in
    let chain = chain_exempt (read e.bytes) (and_right (inside G (caller s)) _ h) in
    search (and_true, runs, chain)

related_step : (G : ℕ → Bool) (s t : State) (e f : Element) → Valid s → Valid t → SameBut (held G) s t → AlikeAt G (tables s) e f
    → PremiseAt call_on G (tables s) (tables t) e → Stepped own_chain call_on G (Related G) (tables s) (tables t) e f
unfolding laid group_runs tables box_record
related_step G s t e f v w k a p =
    let b = both_alike G k v w e p f a in
    record {
      answer = rw (call_is s e v, call_is t f w) (exempt_more (own_exempt G s e) b.answer);
      after =
          record {
            first = (step_element s e).state;
            second = (step_element t f).state;
            valid₁ = valid_step s e v;
            valid₂ = valid_step t f w;
            is₁ = sym (ap (λ r. r.tables) (call_is s e v));
            is₂ = sym (ap (λ r. r.tables) (call_is t f w));
            same = b.state;
          };
    }

pub preserved : (G : ℕ → Bool) → Preserved own_chain call_on G (Related G)
preserved G =
    record {
      agrees = λ r. subst₂ (λ x y. AgreeOutside G x y) r.is₁ r.is₂ (agree_outside G r.same r.valid₁ r.valid₂);
      both = λ {x} {y} {e} {f} r.
          subst₂ (λ x y. AlikeAt G x e f → PremiseAt call_on G x y e → Stepped own_chain call_on G (Related G) x y e f) r.is₁ r.is₂
          (related_step G r.first r.second e f r.valid₁ r.valid₂ r.same);
    }

pub related_fresh : (G : ℕ → Bool) → Related G fresh_tables fresh_tables
related_fresh G =
    record {
      first = fresh;
      second = fresh;
      valid₁ = valid_fresh;
      valid₂ = valid_fresh;
      is₁ = sym fresh_tables_lem;
      is₂ = sym fresh_tables_lem;
      same = same_state (held G) fresh;
    }

-- demand 3
pub secrecy : Secrecy call_on
secrecy G = secrecy_of own_chain call_on G (preserved G) (related_fresh G)
