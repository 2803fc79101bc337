-- A box that keeps what demand 2 says of history runs from a fresh box as the definition does. By induction over the calls:
-- the number of each is fixed by its conditions, and an accepted call's answer and event are fixed by the tables and the calls
-- before it; what a call leaves is then what the past says. Assumes nothing.
use Prim.Native.Nat.{ℕ, zero, suc, ◌≤◌, ◌<◌}
use mathlib.Core.Path.{◌≡◌, refl, sym, ap, ◌∙◌}
use mathlib.Core.Bool.{false, cond}
use mathlib.Core.List.{List, [], ◌∷◌, ◌++◌}
use mathlib.Core.Option.{some}
use native.Mathlib.Omega.{arith}
use lib.ListN.{length, take}
use lib.Seq.{ext_get_or, take-suc, take_all}
use lib.Dec.{eqb}
use borrow.Author.Tests.{eqb-true, eqb-false, ne_eqb, eq-eqb}
use Rattle.fnv.specs.declared.Tag.{Tag}
use Rattle.record.specs.declared.Handle.{Handle}
use Rattle.record.specs.declared.Draw.{Draw}
use Rattle.record.specs.Call.{Link, Call, create, exit, heap_write, heap_read, shared_write, shared_read, attest, check, protect, retrieve, report, hand_over, chain, release}
use Rattle.record.specs.Read.{Reading, refused, whole, read}
use Rattle.record.specs.Write.{filled}
use Rattle.ideal.specs.State.{Move, any}
use Rattle.ideal.specs.Step.{Answer, logged, number}
use Rattle.ideal.specs.Tables.{Tables, fresh_tables}
use Rattle.ideal.specs.Box.{Element, Result, call_on, element_at, tables_from, tables_after, tables_before, answer_at}
use Rattle.ideal.specs.Refusals.{caller_in, own_bytes, one_of, number_at, EachNumber, RefusalsAlterNothing}
use Rattle.ideal.specs.Answers.{plain_number, Answered, AcceptedAnswers}
use Rattle.ideal.specs.History.{move_seen, added, past_from, past_of, Shows}
use Rattle.ideal.specs.Accuracy.{HandsOut, Runs, HandleIsFirstFree}
use Rattle.ideal.specs.Demands.{SinceFresh}
use Rattle.ideal.specs.Fixed.{FixedByHistory}
use Rattle.lists.proofs.Bools.{by_cases}
use Rattle.ideal.proofs.Befores.{Box, Alike, alike_back, same_calls, SameBefore, logged_too, held_too, custody_too}
use Rattle.ideal.proofs.OneAnswer.{one_free, same_used, same_answer, accepted_reads}
use Rattle.ideal.proofs.Runs.{state_before, accepted_at_lem, number_at_lem}
use Rattle.ideal.proofs.Retrieves.{handed}
use Rattle.ideal.proofs.Demanded.{demands}
use Rattle.ideal.proofs.FixedCalls.{same_code}
use Rattle.ideal.proofs.OnePast.{one_past}

-- ---- a run, one call more

module _ (box : Box) where
  pub tables_more : (es fs : List Element) (t : Tables) → tables_from box t (es ++ fs) ≡ tables_from box (tables_from box t es) fs
  unfolding tables_from
  tables_more [] fs t = refl
  tables_more (e ∷ es) fs t = tables_more es fs (box t e).tables

  past_more : (es fs : List Element) (t : Tables) (past : List Move)
      → past_from box t past (es ++ fs) ≡ past_from box (tables_from box t es) (past_from box t past es) fs
  unfolding tables_from past_from
  past_more [] fs t past = refl
  past_more (e ∷ es) fs t past = past_more es fs (box t e).tables (added t (box t e) (read e.bytes) past)

  module _ (es : List Element) (k : ℕ) (b : k < length es) where
    pub tables_next : tables_before box es (suc k) ≡ (box (tables_before box es k) (element_at es k)).tables
    unfolding tables_before tables_after tables_from element_at
    tables_next = ap (tables_from box fresh_tables) (take-suc es k _ b) ∙ tables_more (take k es) (element_at es k ∷ []) fresh_tables

    pub past_next : past_of box (take (suc k) es)
        ≡ added (tables_before box es k) (box (tables_before box es k) (element_at es k)) (read (element_at es k).bytes)
        (past_of box (take k es))
    unfolding past_of past_from tables_before tables_after element_at
    past_next =
        ap (past_from box fresh_tables []) (take-suc es k _ b) ∙ past_more (take k es) (element_at es k ∷ []) fresh_tables []

-- ---- what the statements of one call fix

-- only a retrieve's event is told by what the call left
same_event : (c : Call) (t w x : Tables) (n : ℕ)
    → ((i o : ℕ) (h : Handle) → c ≡ retrieve i o h → own_bytes w o n ≡ own_bytes x o n) → move_seen t w n c ≡ move_seen t x n c
unfolding move_seen
same_event (create p i) t w x n f = refl
same_event exit t w x n f = refl
same_event (heap_write p o v) t w x n f = refl
same_event (heap_read p o m) t w x n f = refl
same_event (shared_write o v) t w x n f = refl
same_event (shared_read o m) t w x n f = refl
same_event (attest o m) t w x n f = refl
same_event (check i g v) t w x n f = refl
same_event (protect i o m d) t w x n f = refl
same_event (retrieve i o h) t w x n f = rw (f i o h refl)
same_event report t w x n f = refl
same_event (hand_over p) t w x n f = refl
same_event (chain first v) t w x n f = refl
same_event (release i h) t w x n f = refl

-- ---- what a refused and an accepted call add to the past

pub refused_adds : (t : Tables) (r : Result) (q : Reading) (past : List Move) → (r.answer.code ≡ 0 → ⊥) → added t r q past ≡ past
unfolding added
refused_adds t r (refused code number) past h = refl
refused_adds t r (whole c used) past h = rw (ne_eqb r.answer.code 0 h)

pub accepted_adds : (t : Tables) (r : Result) (c : Call) (used : ℕ) (past : List Move) → r.answer.code ≡ 0
    → added t r (whole c used) past ≡ move_seen t r.tables r.answer.number c ∷ past
unfolding added
accepted_adds t r c used past h = rw (eq-eqb r.answer.code 0 h)

-- ---- the induction

-- two boxes up to an index
pub record SameTo (a b : Box) (es : List Element) (k : ℕ) : Type 0 where
  pub tables : (j : ℕ) → j ≤ k → tables_before a es j ≡ tables_before b es j
  pub answers : (j : ℕ) → j < k → Alike (answer_at a es j) (answer_at b es j)
  pub past : past_of a (take k es) ≡ past_of b (take k es)

back : {a b : Box} {es : List Element} {k : ℕ} → SameTo a b es k → SameTo b a es k
back h = record { tables = λ j l. sym (h.tables j l); answers = λ j l. alike_back (h.answers j l); past = sym h.past }

calls_before : {a b : Box} {es : List Element} {k : ℕ} → SameTo a b es k → SameBefore a b es es k
calls_before {a} {b} {es} {k} h =
    let w = back h in
    record {
      caller = ap (λ y. caller_in y) (h.tables k (omega arith));
      there = λ j l. same_calls a b es es j refl (h.tables j (omega arith)) (h.answers j l);
      back = λ j l. same_calls b a es es j refl (w.tables j (omega arith)) (w.answers j l);
    }

module _ (box : Box) (numbers : EachNumber box) (answers : AcceptedAnswers box) (free : HandleIsFirstFree box) (history : SinceFresh box) where
  module _ (es : List Element) (k : ℕ) (b : k < length es) (h : SameTo box call_on es k) where
    abbrev e : Element
    e = element_at es k

    abbrev t : Tables
    t = tables_before call_on es k

    before : tables_before box es k ≡ t
    before = h.tables k (omega arith)

    -- both boxes on the same tables
    answer_is : answer_at box es k ≡ (box t e).answer
    unfolding answer_at
    answer_is = ap (λ x. (box x e).answer) before

    code_is : (answer_at box es k).code ≡ (answer_at call_on es k).code
    unfolding answer_at
    code_is = ap (λ a. a.code) answer_is ∙ same_code box call_on numbers demands.two.call.refuses_no_more t e

    -- what is left is as the past says, so the same where the pasts are
    tables_too : past_of box (take (suc k) es) ≡ past_of call_on (take (suc k) es)
        → tables_before box es (suc k) ≡ tables_before call_on es (suc k)
    unfolding tables_before
    tables_too p = one_past (history.holds (take (suc k) es)) (rw p (demands.two.history.holds (take (suc k) es)))

    further : Alike (answer_at box es k) (answer_at call_on es k) → past_of box (take (suc k) es) ≡ past_of call_on (take (suc k) es)
        → SameTo box call_on es (suc k)
    further x p =
        record {
          tables = λ j l.
              by_cases (eqb j (suc k))
              (λ q. rw (eqb-true j (suc k) q) (tables_too p))
              (λ q. h.tables j (omega (arith, eqb-false j (suc k) q)));
          answers = λ j l.
              by_cases (eqb j k)
              (λ q. rw (eqb-true j k q) x)
              (λ q. h.answers j (omega (arith, eqb-false j k q)));
          past = p;
        }

    -- ---- a refused call

    when_refused : ((answer_at call_on es k).code ≡ 0 → ⊥) → SameTo box call_on es (suc k)
    unfolding answer_at
    when_refused n =
        let m : (box (tables_before box es k) e).answer.code ≡ 0 → ⊥ = λ z. n (sym code_is ∙ z) in
        further (record { code = code_is; accepted = λ z. absurd (n z) })
        (past_next box es k b ∙ refused_adds _ _ (read e.bytes) _ m ∙ h.past
        ∙ sym (past_next call_on es k b ∙ refused_adds _ _ (read e.bytes) _ n))

    -- ---- an accepted call

    module _ (c : Call) (used : ℕ) (reads : read e.bytes ≡ whole c used) (z : (answer_at call_on es k).code ≡ 0) where
      abbrev r : Answer
      r = answer_at box es k

      abbrev s : Answer
      s = answer_at call_on es k

      takes_it : r.code ≡ 0
      takes_it = code_is ∙ z

      answered_r : Answered t c used r
      unfolding answer_at
      answered_r = rw (← before) (answers (tables_before box es k) e c used reads takes_it)

      answered_s : Answered t c used s
      unfolding answer_at
      answered_s = demands.two.call.answers t e c used reads z

      plain : (n : ℕ) → plain_number t c ≡ some n → r.number ≡ s.number
      plain n q = answered_r.number n q ∙ sym (answered_s.number n q)

      none : one_of (6 ∷ 8 ∷ []) (filled c).kind ≡ false → r.shown ≡ s.shown
      none q = answered_r.shown q ∙ sym (answered_s.shown q)

    shows_same : (p q : List Move) (m o n : ℕ) (x y : Answer) → p ≡ q → Shows p m o n x → Shows q m o n y → x.shown ≡ y.shown
    shows_same p q m o n x y w v u =
        let g : Shows p m o n y = rw w u in
        let l = v.count in
        ext_get_or 0 _ _ (v.count ∙ sym g.count) λ i j. v.byte i (omega arith) ∙ sym (g.byte i (omega arith))

    -- ---- the numbers that the history says

    check_is : (i : ℕ) (g : Tag) (v : List ℕ) (used : ℕ) → read e.bytes ≡ whole (check i g v) used
        → (answer_at call_on es k).code ≡ 0 → (answer_at box es k).number ≡ (answer_at call_on es k).number
    unfolding number
    check_is i g v used q z =
        let there = logged i g v (state_before es k).log in
        let n : (answer_at call_on es k).number ≡ cond there 1 0 =
        number_at_lem es k (check i g v) used (accepted_at_lem es k (check i g v) used q z) in
        let c = history.checks es k i g v used q in
        let d = demands.two.history.checks es k i g v used q in
        by_cases there
        (λ y.
        let m : (answer_at call_on es k).number ≡ 1 = rw y at n in
        let x = d.yes.0 (z, m) in
        (c.yes.1 (x.0, logged_too (calls_before (back h)) x.1)).1 ∙ sym m)
        (λ y.
        let m : (answer_at call_on es k).number ≡ 0 = rw y at n in
        let x = d.no.0 (z, m) in
        (c.no.1 (x.0, x.1, λ l. x.2 (logged_too (calls_before h) l))).1 ∙ sym m)

    chain_is : (first : Link) (v : List ℕ) (used : ℕ) → read e.bytes ≡ whole (chain first v) used
        → (answer_at call_on es k).code ≡ 0 → (answer_at box es k).number ≡ (answer_at call_on es k).number
    chain_is first v used q z =
        let n = (answer_at call_on es k).number in
        let y = (demands.two.history.chains es k first v used q n).0 (z, refl) in
        let runs : Runs box es k = λ r. y.1 (ap (λ u. u.box.running) (sym before) ∙ r) in
        ((history.chains es k first v used q n).1 (y.0, runs, custody_too (calls_before (back h)) y.2)).1

    handle_is : (i o n : ℕ) (d : Draw) (used : ℕ) → read e.bytes ≡ whole (protect i o n d) used
        → (answer_at call_on es k).code ≡ 0 → (answer_at box es k).number ≡ (answer_at call_on es k).number
    unfolding answer_at
    handle_is i o n d used q z =
        let y = free (tables_before box es k) e i o n d used q (code_is ∙ z) in
        let x = demands.two.call.handles_free t e i o n d used q z in
        ap (λ a. a.0) (one_free t n d.0 _ _ (rw (← before) y) x)

    -- what an accepted retrieve hands out
    record Both (o : ℕ) : Type 0 where
      value : List ℕ
      r : HandsOut box es o value k
      s : HandsOut call_on es o value k

    both : (i o : ℕ) (a : Handle) (used : ℕ) → read e.bytes ≡ whole (retrieve i o a) used → (answer_at call_on es k).code ≡ 0
        → Both o
    both i o a used q z =
        let x = handed es k i o a used q z in
        let v = x.value in
        let y = ((demands.two.history.retrieves es k i o a used q).hands_out v).0 x.is in
        record { value = v; r = ((history.retrieves es k i o a used q).hands_out v).1 (y.0, held_too (calls_before (back h)) y.1, y.2); s = x.is }

    report_is : (used : ℕ) → read e.bytes ≡ whole report used → (answer_at call_on es k).code ≡ 0
        → (answer_at box es k).number ≡ (answer_at call_on es k).number
    report_is used q z =
        let y = history.reports.report es k used b (q, code_is ∙ z) in
        let x = demands.two.history.reports.report es k used b (q, z) in
        y ∙ rw (before, h.past) (sym x)

    number_is : (c : Call) (used : ℕ) → read e.bytes ≡ whole c used → (answer_at call_on es k).code ≡ 0
        → (answer_at box es k).number ≡ (answer_at call_on es k).number
    unfolding plain_number
    number_is (create p i) used q z = plain _ used q z _ refl
    number_is exit used q z = plain _ used q z _ refl
    number_is (heap_write p o v) used q z = plain _ used q z _ refl
    number_is (heap_read p o n) used q z = plain _ used q z _ refl
    number_is (shared_write o v) used q z = plain _ used q z _ refl
    number_is (shared_read o n) used q z = plain _ used q z _ refl
    number_is (attest o n) used q z = plain _ used q z _ refl
    number_is (check i g v) used q z = check_is i g v used q z
    number_is (protect i o n d) used q z = handle_is i o n d used q z
    number_is (retrieve i o a) used q z = let x = both i o a used q z in x.r.accepts.1 ∙ sym x.s.accepts.1
    number_is report used q z = report_is used q z
    number_is (hand_over p) used q z = plain _ used q z _ refl
    number_is (chain first v) used q z = chain_is first v used q z
    number_is (release i h) used q z = plain _ used q z _ refl

    shown_is : (c : Call) (used : ℕ) → read e.bytes ≡ whole c used → (answer_at call_on es k).code ≡ 0
        → (answer_at box es k).shown ≡ (answer_at call_on es k).shown
    unfolding one_of any filled
    shown_is (create p i) used q z = none _ used q z refl
    shown_is exit used q z = none _ used q z refl
    shown_is (heap_write p o v) used q z = none _ used q z refl
    shown_is (heap_read p o n) used q z =
        shows_same _ _ p o n _ _ h.past (history.reports.heap_reads es k p o n used b (q, code_is ∙ z))
        (demands.two.history.reports.heap_reads es k p o n used b (q, z))
    shown_is (shared_write o v) used q z = none _ used q z refl
    shown_is (shared_read o n) used q z =
        shows_same _ _ 16 o n _ _ h.past (history.reports.shared_reads es k o n used b (q, code_is ∙ z))
        (demands.two.history.reports.shared_reads es k o n used b (q, z))
    shown_is (attest o n) used q z = none _ used q z refl
    shown_is (check i g v) used q z = none _ used q z refl
    shown_is (protect i o n d) used q z = none _ used q z refl
    shown_is (retrieve i o a) used q z = none _ used q z refl
    shown_is report used q z = none _ used q z refl
    shown_is (hand_over p) used q z = none _ used q z refl
    shown_is (chain first v) used q z = none _ used q z refl
    shown_is (release i h) used q z = none _ used q z refl

    when_accepted : (c : Call) (used : ℕ) → read e.bytes ≡ whole c used → (answer_at call_on es k).code ≡ 0
        → SameTo box call_on es (suc k)
    unfolding answer_at
    when_accepted c used q z =
        let n = number_is c used q z in
        let w = (box (tables_before box es k) e).tables in
        let x = (call_on t e).tables in
        let left : (i o : ℕ) (a : Handle) → c ≡ retrieve i o a
        → own_bytes w o (answer_at call_on es k).number ≡ own_bytes x o (answer_at call_on es k).number =
        λ i o a y.
        let g = both i o a used (q ∙ ap (λ d. whole d used) y) z in
        rw (g.s.accepts.1, ← tables_next box es k b, ← tables_next call_on es k b) (g.r.stands ∙ sym g.s.stands) in
        let event : move_seen (tables_before box es k) w (answer_at box es k).number c ≡ move_seen t x (answer_at call_on es k).number c =
        ap (λ y. move_seen y w (answer_at box es k).number c) before ∙ ap (λ m. move_seen t w m c) n ∙ same_event c t w x _ left in
        let past : added (tables_before box es k) (box (tables_before box es k) e) (read e.bytes) (past_of box (take k es))
        ≡ added t (call_on t e) (read e.bytes) (past_of call_on (take k es)) =
        rw (
          q,
          accepted_adds (tables_before box es k) (box (tables_before box es k) e) c used (past_of box (take k es)) (code_is ∙ z),
          accepted_adds t (call_on t e) c used (past_of call_on (take k es)) z,
          event,
          h.past,
        ) in
        let u = (answered_r c used q z).used ∙ sym (answered_s c used q z).used in
        further (record { code = code_is; accepted = λ _. same_answer _ _ code_is n u (shown_is c used q z) })
        (past_next box es k b ∙ past ∙ sym (past_next call_on es k b))

    one_more : SameTo box call_on es (suc k)
    unfolding answer_at
    one_more =
        by_cases (eqb (answer_at call_on es k).code 0)
        (λ y. let z = eqb-true _ _ y in let w = accepted_reads t e z in when_accepted w.call w.used w.reads z)
        (λ y. when_refused (eqb-false _ _ y))

  pub same_to : (es : List Element) (k : ℕ) → k ≤ length es → SameTo box call_on es k
  same_to es zero b =
      unfold tables_before tables_after tables_from past_of past_from in
      record {
        tables = λ j l. let q : j ≡ 0 = omega arith in rw q;
        answers = λ j l. absurd (omega arith);
        past = refl;
      }
  same_to es (suc k) b = one_more es k (omega arith) (same_to es k (omega arith))

-- a refusal is its code
refused_same : (box : Box) → RefusalsAlterNothing box → (es : List Element) (k : ℕ) → (answer_at box es k).code ≡ (answer_at call_on es k).code
    → ((answer_at call_on es k).code ≡ 0 → ⊥) → answer_at box es k ≡ answer_at call_on es k
unfolding answer_at
refused_same box alters es k q n =
    let e = element_at es k in
    let r = alters (tables_before box es k) e (λ y. n (sym q ∙ y)) in
    let s = demands.one.alters_nothing (tables_before call_on es k) e n in
    let u = rw q at r.used in
    same_answer _ _ q (r.number ∙ ap (number_at e.bytes) q ∙ sym s.number) (same_used e.bytes _ _ _ u s.used) (r.shown ∙ sym s.shown)

pub fixed_by_history : FixedByHistory
unfolding tables_before
fixed_by_history box numbers answers free history es =
    let n = length es in
    let h = same_to box numbers answers free history es n (omega arith) in
    record {
      code = λ k b. (h.answers k b).code;
      answer = λ k b. (h.answers k b).accepted;
      tables = rw (take_all n es (omega arith)) at (h.tables n (omega arith));
      every = λ alters k b.
          let a = h.answers k b in
          by_cases (eqb (answer_at call_on es k).code 0)
          (λ y. a.accepted (eqb-true _ _ y))
          (λ y. refused_same box alters es k a.code (eqb-false _ _ y));
    }
