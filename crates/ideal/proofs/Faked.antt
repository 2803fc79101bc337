-- No fake meets demand 2: each breaks the part of it that names its fault, on a short run, or on one with 41 protects. Assumes
-- nothing.
use Prim.Native.Nat.{ℕ, zero, suc, ◌+◌, ◌*◌, ◌≤◌, ◌<◌}
use mathlib.Core.Path.{◌≡◌, refl, sym, ap, ◌∙◌}
use mathlib.Core.Bool.{Bool, true, false, not, ◌&&◌}
use mathlib.Core.List.{List, [], ◌∷◌, ◌++◌, map, reverse}
use native.Mathlib.Omega.{arith}
use lib.ListN.{length, get_or, take}
use lib.Dec.{eqb, ltb}
use borrow.Author.Tests.{eq-eqb, not-true}
use Rattle.fnv.specs.Fnv.{mixed, fnv_from, fnv1a, little, tag_of}
use Rattle.record.specs.declared.Handle.{Handle}
use Rattle.record.specs.Call.{Call, create, attest, protect, retrieve, report, hand_over}
use Rattle.record.specs.Layout.{stands, kinds, among, kind_of}
use Rattle.record.specs.Read.{whole, read, from_little, field, contents, bytes_field, fields, read_fields, read_kind, after_map}
use Rattle.record.specs.Write.{write, only, record_of, filled, record_in}
use Rattle.ideal.specs.State.{Logged, State, Move, takes, activates, fresh, cleared, own_part, any, find, same_bytes, bytes_used}
use Rattle.ideal.specs.Step.{is_pair, paired, full, with_pair, is_named, is_escrowed, found, absent, value_in, has_handle, handle_of, next, free_from, free_handle, first_holding, idle, vacant, beyond, tests, refusal, protected, move, apply, effect, services, number, shown, Answer, accepted, settle, with_common, reading_by, step_on_by, step_by}
use Rattle.ideal.specs.Tables.{Tables, taken_map, box_record, tables, fresh_tables, state_of}
use Rattle.ideal.specs.Box.{Element, Result, laid, call_on, element_at, tables_from, tables_after, tables_before, answer_at}
use Rattle.ideal.specs.Refusals.{caller_in, EachNumber}
use Rattle.ideal.specs.Answers.{plain_number, AcceptedAnswers}
use Rattle.ideal.specs.History.{move_seen, added, past_from, past_of, runs, holder, pairs, protects as protects_in, ones, AsThePast, HistoryHolds, Reports}
use Rattle.ideal.specs.Accuracy.{RetrieveIsAccurate}
use Rattle.ideal.specs.OneCall.{leaves, AcceptedCalls}
use Rattle.ideal.specs.Valid.{Valid}
use Rattle.ideal.specs.Witness.{element}
use Rattle.ideal.specs.Fakes.{kind_in, used_in, reply, faked, always, of_kind, says, refuses_each, carries_out, fixed_reply, touches_nothing, serves_the_first, invents_totals, turned, turns_log_round, NeverAccepts, Faults, ShutOut}
use Rattle.lists.proofs.Bools.{by_cases, clash, and_true, and_false}
use Rattle.ideal.proofs.Draws.{below, at_below}
use Rattle.ideal.proofs.Table.{log_lawful, entries_back}
use Rattle.ideal.proofs.Laid.{step_element, state_tables, fresh_tables_lem, call_is}
use Rattle.ideal.proofs.Runs.{state_from, state_before, valid_before, state_first, state_next, tables_before_lem, answer_at_lem}
use Rattle.ideal.proofs.Numbers.{each_number}
use Rattle.ideal.proofs.Retrieves.{handed}
use Rattle.ideal.proofs.Accurate.{retrieve_is_accurate}
use Rattle.ideal.proofs.Befores.{alike_same, SameBefore, same_calls, held_too}
use Rattle.ideal.proofs.FixedCalls.{same_code}
use Rattle.ideal.proofs.FixedRuns.{tables_next, past_next, accepted_adds}

-- ---- the definition at a call of a run

-- its answer to the call at an index
unfoldable answer : List Element → ℕ → Answer
answer es k = (step_element (state_before es k) (element_at es k)).answer

module _ (es : List Element) (k : ℕ) where
  abbrev at : Tables
  at = tables (state_before es k)

  is : call_on at (element_at es k) ≡ laid (step_element (state_before es k) (element_at es k))
  is = call_is (state_before es k) (element_at es k) (valid_before es k)

  accepts : (answer es k).code ≡ 0 → (call_on at (element_at es k)).answer.code ≡ 0
  unfolding answer laid
  accepts z = ap (λ r. r.answer.code) is ∙ z

  accepts_at : (answer es k).code ≡ 0 → (answer_at call_on es k).code ≡ 0
  unfolding answer
  accepts_at z = ap (λ a. a.code) (answer_at_lem es k) ∙ z

fresh_before : (es : List Element) → tables (state_before es 0) ≡ fresh_tables
fresh_before es = ap tables (state_first es) ∙ sym fresh_tables_lem

-- ---- a short run

unfoldable short : List Element
short =
    map element
    (create 0 1 ∷ hand_over 0 ∷ attest 0 0 ∷ protect 1 0 0 (record { 0 = 0 }) ∷ retrieve 1 0 (record { 0 = 0 }) ∷ attest 0 1 ∷ report ∷ [])

-- 41 values escrowed, and one of them retrieved
unfoldable protects : ℕ → List Call
protects zero = []
protects (suc n) = protect 1 0 0 (record { 0 = n }) ∷ protects n

unfoldable long : List Element
long = map element (create 0 1 ∷ hand_over 0 ∷ (protects 41 ++ (retrieve 1 0 (record { 0 = 7 }) ∷ [])))

unfoldable create_report : List Element
create_report = map element (create 0 1 ∷ report ∷ [])

-- one call
unfoldable lone : Call → List Element
lone c = map element (c ∷ [])

-- the length of the first value
unfoldable first_length : List Logged → ℕ
first_length [] = 0
first_length (e ∷ l) = length e.value

record Computed : Type 0 where
  short_size : length short ≡ 7
  long_size : length long ≡ 44
  lone_size : length (lone report) ≡ 1
  then_size : length create_report ≡ 2
  first_reads : read (element_at create_report 0).bytes ≡ whole (create 0 1) 11
  first_code : (answer create_report 0).code ≡ 0
  then_taken : taken_map (state_before create_report 1).identities ≡ 1
  create_reads : read (element_at short 0).bytes ≡ whole (create 0 1) 11
  create_code : (answer short 0).code ≡ 0
  other_reads : read (element_at (lone (create 1 1)) 0).bytes ≡ whole (create 1 1) 11
  other_code : (answer (lone (create 1 1)) 0).code ≡ 0
  taken : taken_map (state_before short 1).identities ≡ 1
  runs : (state_before short 1).running ≡ 16
  hand_over_reads : read (element_at short 1).bytes ≡ whole (hand_over 0) 3
  hand_over_code : (answer short 1).code ≡ 0
  attest_code : (answer short 2).code ≡ 0
  protect_code : (answer short 3).code ≡ 0
  retrieve_code : (answer short 4).code ≡ 0
  report_code : (answer short 6).code ≡ 0
  report_reads : read (element_at short 6).bytes ≡ whole report 2
  lone_reads : read (element_at (lone report) 0).bytes ≡ whole report 2
  lone_code : (answer (lone report) 0).code ≡ 0
  then_reads : read (element_at create_report 1).bytes ≡ whole report 2
  then_code : (answer create_report 1).code ≡ 0
  retrieve_reads : read (element_at short 4).bytes ≡ whole (retrieve 1 0 (record { 0 = 0 })) 20
  long_reads : read (element_at long 43).bytes ≡ whole (retrieve 1 0 (record { 0 = 7 })) 20
  -- the first of the two that are logged is the shorter
  first_row : first_length (state_before short 6).log ≡ 0
  first_turned : first_length (reverse (state_before short 6).log) ≡ 1
  kept : (state_before short 7).log ≡ (state_before short 6).log
  long_code : (answer long 43).code ≡ 0
  -- the kinds that are replied to
  attest_kind : kind_in (read (element_at short 2).bytes) ≡ 9
  protect_kind : kind_in (read (element_at short 3).bytes) ≡ 11
  retrieves_none : below 4 (λ j. not (eqb (kind_in (read (element_at short j).bytes)) 12)) ≡ true
  long_none : below 43 (λ j. not (eqb (kind_in (read (element_at long j).bytes)) 12)) ≡ true
  long_rows : length (state_before long 43).escrow ≡ 41

computed : Computed
unfolding short long lone create_report below protects first_length kind_in element element_at answer step_element state_before state_from mixed fnv_from fnv1a little tag_of stands kinds among kind_of from_little field contents bytes_field fields read_fields read_kind after_map read write only record_of filled record_in fresh cleared own_part any find same_bytes bytes_used is_pair paired full with_pair is_named is_escrowed found absent value_in has_handle handle_of next free_from free_handle first_holding idle vacant beyond tests refusal protected move apply effect services number shown accepted settle step_by reading_by step_on_by taken_map
computed =
    record {
      short_size = refl;
      long_size = refl;
      lone_size = refl;
      then_size = refl;
      first_reads = refl;
      first_code = refl;
      then_taken = refl;
      create_reads = refl;
      create_code = refl;
      other_reads = refl;
      other_code = refl;
      taken = refl;
      runs = refl;
      hand_over_reads = refl;
      hand_over_code = refl;
      attest_code = refl;
      protect_code = refl;
      retrieve_code = refl;
      report_code = refl;
      report_reads = refl;
      lone_reads = refl;
      lone_code = refl;
      then_reads = refl;
      then_code = refl;
      retrieve_reads = refl;
      long_reads = refl;
      first_row = refl;
      first_turned = refl;
      kept = refl;
      long_code = refl;
      attest_kind = refl;
      protect_kind = refl;
      retrieves_none = refl;
      long_none = refl;
      long_rows = refl;
    }

-- ---- faults of one call

module _ (test : Tables → Element → Bool) (fake : Tables → Element → Result) (t : Tables) (e : Element) where
  pub faked_is : eqb (call_on t e).answer.code 0 && test t e ≡ true → faked test fake t e ≡ fake t e
  unfolding faked
  faked_is h = rw h

  pub faked_not : eqb (call_on t e).answer.code 0 && test t e ≡ false → faked test fake t e ≡ call_on t e
  unfolding faked
  faked_not h = rw h

  -- what is accepted, and of which the test holds, is faked
  pub fakes : (call_on t e).answer.code ≡ 0 → test t e ≡ true → faked test fake t e ≡ fake t e
  fakes z h = faked_is (and_true _ _ (eq-eqb _ 0 z) h)

  pub serves : test t e ≡ false → faked test fake t e ≡ call_on t e
  serves h = faked_not (and_false (eqb (call_on t e).answer.code 0) _ h)

refuses : (kind code : ℕ) (es : List Element) (k : ℕ) → kind_in (read (element_at es k).bytes) ≡ kind → (answer es k).code ≡ 0
    → EachNumber (faked (of_kind kind) (says (suc code) 0)) → ⊥
unfolding reply
refuses kind code es k q z n =
    let t = at es k in
    let e = element_at es k in
    let c = accepts es k z in
    let r = fakes (of_kind kind) (says (suc code) 0) t e c (eq-eqb _ kind q) in
    omega (arith, sym (ap (λ x. x.answer.code) r) ∙ same_code (faked (of_kind kind) (says (suc code) 0)) call_on n each_number t e ∙ c)

module _ (c : Computed) where
  replies : (n p : ℕ) (es : List Element) → read (element_at es 0).bytes ≡ whole (create p 1) 11 → (answer es 0).code ≡ 0
      → AcceptedAnswers (fixed_reply n) → n ≡ p
  unfolding reply plain_number
  replies n p es q z a =
      let t = at es 0 in
      let e = element_at es 0 in
      let r = fakes always (carries_out n) t e (accepts es 0 z) refl in
      sym (ap (λ x. x.answer.number) r) ∙ (a t e (create p 1) 11 q (ap (λ x. x.answer.code) r)).number p refl

  turned_log : (s : State) → Valid s → (state_of (turned (tables s))).log ≡ reverse s.log
  unfolding turned
  turned_log s v =
      ap (λ x. (state_of (tables (with_common x x.shared (reverse x.log) x.escrow))).log) (state_tables s v)
      ∙ (unfold state_of tables box_record in entries_back log_lawful (reverse s.log))

  turns_log_round_fault : AcceptedCalls turns_log_round → ⊥
  unfolding leaves kind_in filled
  turns_log_round_fault a =
      let s = state_before short 6 in
      let v = valid_before short 6 in
      let e = element_at short 6 in
      let t = tables s in
      let r = fakes (of_kind 13) (λ t e. record { tables = turned t; answer = (call_on t e).answer }) t e (accepts short 6 c.report_code)
      (ap (λ x. eqb (kind_in x) 13) c.report_reads) in
      let same : turned t ≡ t =
      sym (ap (λ x. x.tables) r)
      ∙ (a t e report 2 c.report_reads (ap (λ x. x.answer.code) r ∙ accepts short 6 c.report_code)).leaves in
      let z : ◌≡◌ {A = ℕ} 1 0 =
      sym c.first_turned ∙ ap first_length (sym (turned_log s v)) ∙ ap (λ x. first_length (state_of x).log) same
      ∙ ap (λ x. first_length x.log) (state_tables s v) ∙ c.first_row in
      omega arith

-- ---- faults of a run

-- the first call of a list creates
module _ (es : List Element) (long : 0 < length es) (reads : read (element_at es 0).bytes ≡ whole (create 0 1) 11)
    (code : (answer es 0).code ≡ 0) (box : Tables → Element → Result) where
  abbrev first : Element
  first = element_at es 0

  none_before : tables_before box es 0 ≡ fresh_tables
  unfolding tables_before tables_after tables_from
  none_before = refl

  first_accepted : (call_on fresh_tables first).answer.code ≡ 0
  first_accepted = rw (fresh_before es) at (accepts es 0 code)

  left_by_first : tables_before box es 1 ≡ (box fresh_tables first).tables
  left_by_first = tables_next box es 0 long ∙ ap (λ t. (box t first).tables) none_before

  past_first : (box fresh_tables first).answer.code ≡ 0 → past_of box (take 1 es) ≡ takes 0 1 ∷ []
  past_first z =
      past_next box es 0 long
      ∙ (unfold past_of past_from tables_before tables_after tables_from move_seen in
      (ap (λ r. added fresh_tables (box fresh_tables first) r []) reads ∙ accepted_adds fresh_tables (box fresh_tables first) (create 0 1) 11 [] z))

  module _ (serves : box fresh_tables first ≡ call_on fresh_tables first) where
    after_first : tables_before box es 1 ≡ tables (state_before es 1)
    unfolding laid
    after_first =
        left_by_first ∙ ap (λ r. r.tables) serves ∙ ap (λ t. (call_on t first).tables) (sym (fresh_before es)) ∙ ap (λ r. r.tables) (is es 0)
        ∙ ap tables (sym (state_next es 0))

    past_served : past_of box (take 1 es) ≡ takes 0 1 ∷ []
    past_served = past_first (ap (λ r. r.answer.code) serves ∙ first_accepted)

holds_at : (box : Tables → Element → Result) → HistoryHolds box → (es : List Element) (k : ℕ)
    → AsThePast (tables_before box es k) (past_of box (take k es))
unfolding tables_before
holds_at box h es k = h (take k es)

fresh_holds : get_or fresh_tables.box.identities 0 0 ≡ 0
unfolding fresh_tables
fresh_holds = refl

fresh_taken : fresh_tables.box.taken ≡ 0
unfolding fresh_tables
fresh_taken = refl

created_holds : holder (takes 0 1 ∷ []) 0 ≡ 1
unfolding holder
created_holds = refl

handed_runs : runs (activates 0 ∷ (takes 0 1 ∷ [])) ≡ 0
unfolding runs
handed_runs = refl

taken_in : (s : State) → (tables s).box.taken ≡ taken_map s.identities
unfolding tables box_record
taken_in s = refl

running_in : (s : State) → (tables s).box.running ≡ s.running
unfolding tables box_record
running_in s = refl

rows_in : (s : State) → (tables s).box.escrow.rows ≡ length s.escrow
unfolding tables box_record
rows_in s = refl

create_kind : eqb (kind_in (whole (create 0 1) 11)) 13 ≡ false
unfolding kind_in filled
create_kind = refl

fresh_total : (box : Tables → Element → Result) (es : List Element)
    → ones 16 (tables_before box es 0).box.taken + 256 * length (pairs (past_of box (take 0 es)))
    + 65536 * length (protects_in (past_of box (take 0 es)))
    ≡ 0
unfolding tables_before tables_after tables_from past_of past_from fresh_tables ones pairs protects_in
fresh_total box es = refl

created_total : ones 16 1 + 256 * length (pairs (takes 0 1 ∷ [])) + 65536 * length (protects_in (takes 0 1 ∷ [])) ≡ 1
unfolding ones pairs protects_in
created_total = refl

reply_adds : (t u : Tables) (used : ℕ) (past : List Move) → added t (reply u 0 0 used) (whole (hand_over 0) 3) past ≡ activates 0 ∷ past
unfolding reply move_seen
reply_adds t u used past = accepted_adds t (reply u 0 0 used) (hand_over 0) 3 past refl

reply_tables : (t : Tables) (code number used : ℕ) → (reply t code number used).tables ≡ t
unfolding reply
reply_tables t code number used = refl

module _ (c : Computed) where
  some_calls : 0 < length short
  some_calls = omega (arith, c.short_size)

  two_calls : 1 < length short
  two_calls = omega (arith, c.short_size)

  touches_nothing_fault : HistoryHolds touches_nothing → ⊥
  touches_nothing_fault h =
      let past = past_first short some_calls c.create_reads c.create_code touches_nothing
      (first_accepted short some_calls c.create_reads c.create_code touches_nothing) in
      let left = left_by_first short some_calls c.create_reads c.create_code touches_nothing in
      let w = (holds_at touches_nothing h short 1).identity 0 (omega arith) in
      let z : ◌≡◌ {A = ℕ} 0 1 =
      sym fresh_holds ∙ ap (λ t. get_or t.box.identities 0 0) (sym left) ∙ w ∙ ap (λ p. holder p 0) past ∙ created_holds in
      omega arith

  abbrev later : Tables → Element → Bool
  later t e = not (eqb t.box.taken 0)

  serves_create : serves_the_first fresh_tables (element_at short 0) ≡ call_on fresh_tables (element_at short 0)
  serves_create = serves later (says 0 0) fresh_tables (element_at short 0) (ap (λ n. not (eqb n 0)) fresh_taken)

  abbrev t₁ : Tables
  t₁ = tables (state_before short 1)

  abbrev e₁ : Element
  e₁ = element_at short 1

  before₁ : tables_before serves_the_first short 1 ≡ t₁
  before₁ = after_first short some_calls c.create_reads c.create_code serves_the_first serves_create

  fakes_hand_over : serves_the_first (tables_before serves_the_first short 1) e₁ ≡ reply t₁ 0 0 (used_in (read e₁.bytes))
  fakes_hand_over =
      ap (λ t. serves_the_first t e₁) before₁
      ∙ fakes later (says 0 0) t₁ e₁ (accepts short 1 c.hand_over_code)
      (ap (λ n. not (eqb n 0)) (taken_in (state_before short 1) ∙ c.taken))

  past₂ : past_of serves_the_first (take 2 short) ≡ activates 0 ∷ (takes 0 1 ∷ [])
  past₂ =
      past_next serves_the_first short 1 two_calls
      ∙ rw (fakes_hand_over, c.hand_over_reads, past_served short some_calls c.create_reads c.create_code serves_the_first serves_create)
      (reply_adds _ _ _ _)

  serves_the_first_fault : HistoryHolds serves_the_first → ⊥
  serves_the_first_fault h =
      let left : tables_before serves_the_first short 2 ≡ t₁ =
      tables_next serves_the_first short 1 two_calls ∙ ap (λ x. x.tables) fakes_hand_over ∙ reply_tables t₁ 0 0 _ in
      let z : ◌≡◌ {A = ℕ} 16 0 =
      sym c.runs ∙ sym (running_in (state_before short 1)) ∙ ap (λ t. t.box.running) (sym left)
      ∙ (holds_at serves_the_first h short 2).running ∙ ap runs past₂ ∙ handed_runs in
      omega arith

  -- ---- invented totals

  module _ (n : ℕ) where
    abbrev box : Tables → Element → Result
    box = invents_totals n

    -- a report that is accepted gets n
    invents : (t : Tables) (e : Element) → (call_on t e).answer.code ≡ 0 → read e.bytes ≡ whole report 2
        → ((box t e).answer.code ≡ 0) × ((box t e).answer.number ≡ n)
    unfolding reply kind_in filled
    invents t e z q =
        let r = fakes (of_kind 13) (says 0 n) t e z (ap (λ x. eqb (kind_in x) 13) q) in
        (ap (λ x. x.answer.code) r, ap (λ x. x.answer.number) r)

    total : (es : List Element) (k : ℕ) → k < length es → read (element_at es k).bytes ≡ whole report 2
        → (call_on (tables_before box es k) (element_at es k)).answer.code ≡ 0 → Reports box
        → n
        ≡ ones 16 (tables_before box es k).box.taken + 256 * length (pairs (past_of box (take k es)))
        + 65536 * length (protects_in (past_of box (take k es)))
    unfolding answer_at
    total es k l q z r =
        let x = invents (tables_before box es k) (element_at es k) z q in
        sym x.1 ∙ r.report es k 2 l (q, x.0)

    -- on a fresh box
    none : Reports box → n ≡ 0
    unfolding tables_before tables_after tables_from
    none r =
        let es = lone report in
        let q = total es 0 (omega (arith, c.lone_size)) c.lone_reads (rw (fresh_before es) at (accepts es 0 c.lone_code)) r in
        q ∙ fresh_total box es

    -- after a create
    one : Reports box → n ≡ 1
    one r =
        let es = create_report in
        let l : 0 < length es = omega (arith, c.then_size) in
        let kind : eqb (kind_in (read (element_at es 0).bytes)) 13 ≡ false = ap (λ x. eqb (kind_in x) 13) c.first_reads ∙ create_kind in
        let first = serves (of_kind 13) (says 0 n) fresh_tables (element_at es 0) kind in
        let left = after_first es l c.first_reads c.first_code box first in
        let past = past_served es l c.first_reads c.first_code box first in
        let q = total es 1 (omega (arith, c.then_size)) c.then_reads
        (ap (λ t. (call_on t (element_at es 1)).answer.code) left ∙ accepts es 1 c.then_code) r in
        q ∙ (λ i. ones 16 (left i).box.taken + 256 * length (pairs (past i)) + 65536 * length (protects_in (past i)))
        ∙ ap (λ m. ones 16 m + 256 * length (pairs (takes 0 1 ∷ [])) + 65536 * length (protects_in (takes 0 1 ∷ [])))
        (taken_in (state_before es 1) ∙ c.then_taken)
        ∙ created_total

    invents_totals_fault : Reports box → ⊥
    invents_totals_fault r = omega (arith, none r, one r)

-- ---- "not there" of a value that was protected

-- a box that is the definition before a retrieve that the definition accepts
module _ (box : Tables → Element → Result) (es : List Element) (k : ℕ) (b : k < length es)
    (agrees : (j : ℕ) → j < k → (t : Tables) → box t (element_at es j) ≡ call_on t (element_at es j)) where
  same_before : (j : ℕ) → j ≤ k → tables_before box es j ≡ tables_before call_on es j
  same_before zero l = unfold tables_before tables_after tables_from in refl
  same_before (suc j) l =
      tables_next box es j (omega arith) ∙ ap (λ r. r.tables) (agrees j (omega arith) _)
      ∙ ap (λ t. (call_on t (element_at es j)).tables) (same_before j (omega arith)) ∙ sym (tables_next call_on es j (omega arith))

  answers_same : (j : ℕ) → j < k → answer_at box es j ≡ answer_at call_on es j
  unfolding answer_at
  answers_same j l =
      ap (λ r. r.answer) (agrees j l _) ∙ ap (λ t. (call_on t (element_at es j)).answer) (same_before j (omega arith))

  calls_same : SameBefore call_on box es es k
  calls_same =
      record {
        caller = ap (λ t. caller_in t) (sym (same_before k (omega arith)));
        there = λ j l. same_calls call_on box es es j refl (sym (same_before j (omega arith))) (alike_same (sym (answers_same j l)));
        back = λ j l. same_calls box call_on es es j refl (same_before j (omega arith)) (alike_same (answers_same j l));
      }

  not_there : (i o : ℕ) (h : Handle) (used : ℕ) → read (element_at es k).bytes ≡ whole (retrieve i o h) used
      → (answer_at call_on es k).code ≡ 0 → (answer_at box es k).code ≡ 10 → RetrieveIsAccurate box → ⊥
  not_there i o h used q z ten r =
      let x = handed es k i o h used q z in
      let held = (((retrieve_is_accurate es k i o h used q).hands_out x.value).0 x.is).1 in
      ((r es k i o h used q).not_there.0 ten).3 x.value (held_too calls_same held)

-- of a fake that says it of retrieves, where none comes before
module _ (test : Tables → Element → Bool) (few : (t : Tables) (e : Element) → of_kind 12 t e ≡ false → test t e ≡ false) where
  fake_falls : (es : List Element) (k : ℕ) → k < length es → below k (λ j. not (eqb (kind_in (read (element_at es j).bytes)) 12)) ≡ true
      → (h : Handle) (used : ℕ) → read (element_at es k).bytes ≡ whole (retrieve 1 0 h) used → (answer es k).code ≡ 0
      → test (tables (state_before es k)) (element_at es k) ≡ true → RetrieveIsAccurate (faked test (says 10 0)) → ⊥
  unfolding answer_at reply
  fake_falls es k b none h used q z t r =
      let box = faked test (says 10 0) in
      let agrees : (j : ℕ) → j < k → (t : Tables) → box t (element_at es j) ≡ call_on t (element_at es j) =
      λ j l t. serves test (says 10 0) t (element_at es j) (few t (element_at es j) (not-true _ (at_below k _ none j l))) in
      let before = same_before box es k b agrees k (omega arith) ∙ tables_before_lem es k in
      let ten : (answer_at box es k).code ≡ 10 =
      ap (λ t. (box t (element_at es k)).answer.code) before
      ∙ ap (λ x. x.answer.code) (fakes test (says 10 0) (at es k) (element_at es k) (accepts es k z) t) in
      not_there box es k b agrees 1 0 h used q (accepts_at es k z) ten r

-- ---- the statements

never_accepts : NeverAccepts refuses_each
unfolding reply
never_accepts t e z =
    by_cases (eqb (call_on t e).answer.code 0 && always t e)
    (λ h. omega (arith, sym (ap (λ r. r.answer.code) (faked_is always (says 4 0) t e h)) ∙ z))
    (λ h.
    let c : (call_on t e).answer.code ≡ 0 = sym (ap (λ r. r.answer.code) (faked_not always (says 4 0) t e h)) ∙ z in
    clash _ (and_true _ _ (eq-eqb _ 0 c) refl) h)

pub faults : Faults
unfolding kind_in filled
faults =
    let c = computed in
    record {
      never_accepts = never_accepts;
      refuses_each_fault = λ box r n. r (at short 0) (element_at short 0) (same_code box call_on n each_number (at short 0) (element_at short 0) ∙ accepts short 0 c.create_code);
      fixed_reply_fault = λ n a.
          omega (arith, replies c n 0 short c.create_reads c.create_code a, replies c n 1 (lone (create 1 1)) c.other_reads c.other_code a);
      invents_totals_fault = invents_totals_fault c;
      touches_nothing_fault = touches_nothing_fault c;
      serves_the_first_fault = serves_the_first_fault c;
      says_not_there_fault =
          fake_falls (of_kind 12) (λ t e h. h) short 4 (omega (arith, c.short_size)) c.retrieves_none _ 20 c.retrieve_reads c.retrieve_code
          (ap (λ x. eqb (kind_in x) 12) c.retrieve_reads);
      recovers_nothing_later_fault =
          fake_falls (λ t e. of_kind 12 t e && ltb 40 t.box.escrow.rows) (λ t e h. rw h) long 43 (omega (arith, c.long_size)) c.long_none
          _ 20 c.long_reads c.long_code
          (and_true _ _ (ap (λ x. eqb (kind_in x) 12) c.long_reads) (ap (λ n. ltb 40 n) (rows_in (state_before long 43) ∙ c.long_rows)));
      says_log_full_fault = refuses 9 12 short 2 c.attest_kind c.attest_code;
      says_escrow_full_fault = refuses 11 13 short 3 c.protect_kind c.protect_code;
      turns_log_round_fault = turns_log_round_fault c;
    }

pub shut_out : ShutOut
shut_out =
    record {
      refuses_each_fault = λ box r two. faults.refuses_each_fault box r two.call.refuses_no_more;
      fixed_reply_fault = λ n two. faults.fixed_reply_fault n two.call.answers;
      invents_totals_fault = λ n two. faults.invents_totals_fault n two.history.reports;
      touches_nothing_fault = λ two. faults.touches_nothing_fault two.history.holds;
      serves_the_first_fault = λ two. faults.serves_the_first_fault two.history.holds;
      says_not_there_fault = λ two. faults.says_not_there_fault two.history.retrieves;
      recovers_nothing_later_fault = λ two. faults.recovers_nothing_later_fault two.history.retrieves;
      says_log_full_fault = λ two. faults.says_log_full_fault two.call.refuses_no_more;
      says_escrow_full_fault = λ two. faults.says_escrow_full_fault two.call.refuses_no_more;
      turns_log_round_fault = λ two. faults.turns_log_round_fault two.call.does;
    }
