-- The box record, the memories and the tables are those that the accepted calls since a fresh box say, and so are the
-- answers of reads and of the report. Assumes nothing.
use Prim.Native.Nat.{ℕ, zero, suc, ◌+◌, ◌*◌}
use mathlib.Core.Path.{◌≡◌, refl, sym, ap, ◌∙◌}
use mathlib.Core.List.{List, [], ◌∷◌}
use native.Mathlib.Omega.{arith}
use lib.ListN.{length, get_or, take, length-map, get_or-map}
use lib.Dec.{eqb, eqb-suc-zero}
use borrow.Author.Tests.{ltb-false, eqb-true, not-false}
use Rattle.record.specs.declared.Handle.{Handle}
use Rattle.record.specs.Call.{Call, create, exit, heap_write, heap_read, shared_write, shared_read, attest, check, protect, retrieve, report, hand_over, chain, release}
use Rattle.record.specs.Read.{Reading, refused, whole, read}
use Rattle.ideal.specs.State.{State, Move, writes, fresh, heap_at, own_part, bytes_used}
use Rattle.ideal.specs.Step.{found, value_in, tests, refusal, beyond, protected, move, apply, effect, number, shown, refuse, refused_answer, accepted, settle, on_reading, reading_by, step_on_by, step_by}
use Rattle.ideal.specs.Tables.{Tables, tables, box_record, fresh_tables}
use Rattle.ideal.specs.Box.{Element, laid, call_on, element_at, tables_from, tables_after, tables_before, answer_at}
use Rattle.ideal.specs.Refusals.{own_bytes}
use Rattle.ideal.specs.History.{move_seen, added, past_from, past_of, holder, ones, pairs, protects, AsThePast, Shows, HistoryHolds, Accepts, Reports}
use Rattle.ideal.proofs.Accepts.{Accepted, accepted_of_lem}
use Rattle.lists.proofs.Bools.{by_cases}
use Rattle.ideal.proofs.Passing.{failed, passed}
use Rattle.ideal.specs.Valid.{Valid}
use Rattle.ideal.proofs.Does.{busy, own_size, attest_passed, protect_passed, does}
use Rattle.ideal.proofs.Laid.{sound_tables, step_element, fresh_tables_lem, call_is}
use Rattle.ideal.proofs.Kept.{valid_fresh, valid_effect, valid_step}
use Rattle.ideal.proofs.Hosted.{logged_is, escrowed_is}
use Rattle.ideal.proofs.Memory.{part_at, flat_at, taken_at, ones_taken, bits_occupied}
use Rattle.ideal.proofs.OwnHeap.{sized, own_bytes_lem, written_stands}
use Rattle.ideal.proofs.Table.{part_length}
use Rattle.ideal.proofs.Left.{left_by, left, bytes_left}
use Rattle.ideal.proofs.Past.{StateAsPast, fresh_past, past_kept}

-- ---- the move of each kind, as the tables before and after it tell

retrieved : (s : State) (i o : ℕ) (a : Handle) → Valid s → refusal s (retrieve i o a) ≡ 0
    → own_bytes (tables (effect s (retrieve i o a))) o (number s (retrieve i o a)) ≡ value_in (found s i a)
unfolding refusal tests beyond effect move apply number
retrieved s i o a k r =
    let v = value_in (found s i a) in
    let g = busy s k (failed 3 _ _ r) in
    let f = ltb-false 256 (o + length v) (failed 10 _ _ (passed 9 _ _ (passed 8 _ _ (passed 3 _ _ r)))) in
    own_bytes_lem (effect s (retrieve i o a)) (valid_effect s (retrieve i o a) k r) g o (length v) f ∙ written_stands s k g o v f

pub event_is : (s : State) (c : Call) → Valid s → refusal s c ≡ 0
    → move_seen (tables s) (tables (effect s c)) (number s c) c ≡ move s c
unfolding move_seen move number protected tables box_record
event_is s (create p i) k r = refl
event_is s exit k r = refl
event_is s (heap_write p o v) k r =
    unfold refusal tests in
    ap (λ q. writes q o v) (eqb-true p s.running (not-false _ (failed 7 _ _ (passed 5 _ _ (passed 3 _ _ r)))))
event_is s (heap_read p o n) k r = refl
event_is s (shared_write o v) k r = refl
event_is s (shared_read o n) k r = refl
event_is s (attest o n) k r =
    let a = attest_passed s o n k r in rw (own_bytes_lem s k a.runs o n a.fits)
event_is s (check i g v) k r = refl
event_is s (protect i o n d) k r =
    let a = protect_passed s i o n d k r in rw (own_bytes_lem s k a.runs o n a.fits)
event_is s (retrieve i o a) k r = ap (writes s.running o) (retrieved s i o a k r)
event_is s report k r = refl
event_is s (hand_over p) k r = refl
event_is s (chain first v) k r = refl
event_is s (release i h) k r = refl

-- ---- the tables of a state are as the past says

tables_past : (s : State) (past : List Move) → Valid s → StateAsPast s past → AsThePast (tables s) past
unfolding tables box_record left_by
tables_past s past k h =
    record {
      running = h.running;
      identity = h.identity;
      taken = λ p b. rw (taken_at s.identities p, h.identity p b);
      services = rw k.places at (bits_occupied s.identities (holder past) (λ p b. h.identity p (omega (arith, k.places))));
      heap = λ p x b c.
          flat_at s.heaps p x (sized s k) (omega (arith, k.heaps)) c ∙ h.heap p x b c;
      shared = h.shared;
      log_rows = ap length h.log;
      log_bytes = ap bytes_used h.log;
      escrow_rows = ap length h.escrow ∙ length-map (protects past) (left past);
      escrow_bytes = ap bytes_used h.escrow ∙ bytes_left past (protects past);
      log = λ j d b.
          let is = logged_is s k d j (omega (arith, ap length h.log)) ∙ ap (λ l. get_or l j d) h.log in
          record { identity = ap (λ e. e.key.identity) is; tag = ap (λ e. e.key.tag) is; value = ap (λ e. e.value) is };
      escrow = λ j d b.
          let is = escrowed_is s k (left past d) j (omega (arith, ap length h.escrow, length-map (protects past) (left past)))
          ∙ ap (λ l. get_or l j (left past d)) h.escrow ∙ get_or-map (left past) (protects past) j d in
          record {
            source = ap (λ e. e.key.source) is;
            recipient = ap (λ e. e.key.recipient) is;
            handle = ap (λ e. e.key.handle) is;
            mark = ap (λ e. e.key.mark) is;
            value = ap (λ e. e.value) is;
          };
      sound = sound_tables s k;
    }

-- ---- an element on the state

module _ (s : State) (past : List Move) (k : Valid s) (h : StateAsPast s past) where
  settled : (n : ℕ) (c : Call) (used : ℕ) → refusal s c ≡ n
      → StateAsPast (settle n s c used).state (added (tables s) (laid (settle n s c used)) (whole c used) past)
  unfolding settle accepted refuse refused_answer laid added
  settled zero c used e = rw (event_is s c k e) (unfold effect in past_kept k h (does s c k e))
  settled (suc n) c used e = rw (eqb-suc-zero n) h

  on_reading_lem : (r : Reading) → StateAsPast (on_reading s r).state (added (tables s) (laid (on_reading s r)) r past)
  unfolding reading_by step_by refuse added
  on_reading_lem (refused code number) = h
  on_reading_lem (whole c used) = settled (refusal s c) c used refl

  on_narrow : (r : Reading) → StateAsPast s (added (tables s) (laid (refuse s 15 0 0)) r past)
  unfolding refuse refused_answer laid added
  on_narrow (refused code number) = h
  on_narrow (whole c used) = h

  step_kept : (e : Element) → StateAsPast (step_element s e).state (added (tables s) (laid (step_element s e)) (read e.bytes) past)
  unfolding step_element step_on_by refuse
  step_kept e =
      by_cases (eqb e.output_size 1024)
      (λ z. rw z (on_reading_lem (read e.bytes)))
      (λ z. rw z (on_narrow (read e.bytes)))

-- ---- the tables that a fresh box comes to

pub record Reached (t : Tables) (past : List Move) : Type 0 where
  pub state : State
  pub valid : Valid state
  pub is : t ≡ tables state
  pub says : StateAsPast state past

reached_step : (t : Tables) (e : Element) (past : List Move) → Reached t past
    → Reached (call_on t e).tables (added t (call_on t e) (read e.bytes) past)
unfolding laid
reached_step t e past r =
    let s = r.state in
    rw (r.is, call_is s e r.valid)
    (record {
      state = (step_element s e).state;
      valid = valid_step s e r.valid;
      is = refl;
      says = step_kept s past r.valid r.says e;
    })

reached_from : (es : List Element) (t : Tables) (past : List Move) → Reached t past
    → Reached (tables_from call_on t es) (past_from call_on t past es)
unfolding tables_from past_from
reached_from [] t past r = r
reached_from (e ∷ es) t past r = reached_from es _ _ (reached_step t e past r)

pub reached : (es : List Element) → Reached (tables_after call_on es) (past_of call_on es)
unfolding tables_after past_of
reached es =
    reached_from es fresh_tables [] (record { state = fresh; valid = valid_fresh; is = fresh_tables_lem; says = fresh_past })

pub history_holds : HistoryHolds call_on
history_holds es = let r = reached es in rw r.is (tables_past r.state _ r.valid r.says)

-- ---- what reads and the report answer

-- the call at an index: the state before it, and that the call was accepted there
record At (es : List Element) (k : ℕ) (c : Call) (used : ℕ) : Type 0 where
  before : Reached (tables_before call_on es k) (past_of call_on (take k es))
  call : Accepted before.state c used (answer_at call_on es k)

at : (es : List Element) (k : ℕ) (c : Call) (used : ℕ) → Accepts call_on es k c used → At es k c used
unfolding tables_before answer_at laid
at es k c used a =
    let r = reached (take k es) in
    let e = element_at es k in
    let q : answer_at call_on es k ≡ (step_element r.state e).answer =
    ap (λ t. (call_on t e).answer) r.is ∙ ap (λ x. x.answer) (call_is r.state e r.valid) in
    record { before = r; call = rw q (accepted_of_lem r.state e c used a.0 (sym (ap (λ x. x.code) q) ∙ a.1)) }

module _ (s : State) (past : List Move) (k : Valid s) (h : StateAsPast s past) where
  heap_shows : (p o n used : ℕ) → refusal s (heap_read p o n) ≡ 0 → Shows past p o n (accepted s (heap_read p o n) used).answer
  unfolding refusal tests beyond accepted number shown own_part
  heap_shows p o n used r =
      let r₁ = passed 5 _ _ (passed 3 _ _ r) in
      let g = busy s k (failed 3 _ _ r) in
      let e : p ≡ s.running = eqb-true p s.running (not-false _ (failed 7 _ _ r₁)) in
      let f = ltb-false 256 (o + n) (failed 10 _ _ (passed 7 _ _ r₁)) in
      record {
        number = refl;
        count = own_size s o n k g f;
        byte = λ x b. part_at (heap_at s s.running) o n x b ∙ rw e (h.heap s.running (o + x) g (omega arith));
      }

  shared_shows : (o n used : ℕ) → refusal s (shared_read o n) ≡ 0 → Shows past 16 o n (accepted s (shared_read o n) used).answer
  unfolding refusal tests beyond accepted number shown
  shared_shows o n used r =
      let f = ltb-false 1024 (o + n) (failed 10 _ _ r) in
      record {
        number = refl;
        count = part_length _ o n (omega (arith, k.shared));
        byte = λ x b. part_at s.shared o n x b ∙ h.shared (o + x) (omega arith);
      }

  report_counts : (used : ℕ) → (accepted s report used).answer.number
      ≡ ones 16 (tables s).box.taken + 256 * length (pairs past) + 65536 * length (protects past)
  unfolding accepted number tables box_record
  report_counts used =
      let a = tables_past s past k h in
      rw (← ones_taken s.identities, k.places, ← a.log_rows, ← a.escrow_rows)

pub reports : Reports call_on
unfolding tables_before
reports =
    record {
      heap_reads = λ es k p o n used b a.
          let t = at es k (heap_read p o n) used a in
          let r = t.before in
          rw t.call.is (heap_shows r.state _ r.valid r.says p o n used t.call.passes);
      shared_reads = λ es k o n used b a.
          let t = at es k (shared_read o n) used a in
          let r = t.before in
          rw t.call.is (shared_shows r.state _ r.valid r.says o n used t.call.passes);
      report = λ es k used b a.
          let t = at es k report used a in
          let r = t.before in
          rw (t.call.is, r.is) (report_counts r.state _ r.valid r.says used);
    }
