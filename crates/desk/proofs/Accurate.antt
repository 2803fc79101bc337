-- What the desk's answers say (specs/Accuracy.antt), by what is stated of the box's checks.
--     signed_is_twos_complement
--     desk_on_any
--     desk_is_accurate, desk_is_accurate_in_both
-- Assumes nothing.
use mathlib.Core.Path.{◌≡◌, refl, sym, ◌∙◌, ap}
use mathlib.Core.Bool.{Bool, true, false, cond, ◌&&◌, false≢true}
use mathlib.Core.Logic.{◌↔◌, ◌⊎◌, inl, inr}
use mathlib.Core.List.{List, [], ◌∷◌, ◌++◌}
use Rattle.std.proofs.Common.{Option, Some, None, Ok, Err}
use Prim.Native.Nat.{ℕ, ◌+◌, ◌*◌, ◌<◌, ◌^◌}
use native.Mathlib.Nat.{le_of_lt}
use native.Mathlib.Omega.{arith}
use Rattle.std.proofs.lemmas.Int.{ints}
use Rattle.std.proofs.lemmas.List.{get_or_append_left, get_or_at}
use lib.ListN.{length}
use lib.Seq.{take-append_seam, take-append-le}
use lib.Dec.{eqb, ltb}
use lib.IntN.{ℤ, pos, ◌+ℤ◌, ◌-ℤ◌}
use borrow.Author.Tests.{eq-eqb, eqb-true, eqb-false, ne_eqb}
use Rattle.lists.proofs.Bools.{by_cases, and_left, and_right, and_true}
use Rattle.fnv.specs.declared.Tag.{Tag}
use Rattle.record.specs.Read.{whole, read}
use Rattle.record.specs.Write.{write}
use Rattle.ideal.specs.State.{any}
use Rattle.ideal.specs.Step.{Answer}
use Rattle.ideal.specs.Tables.{Tables, used_log}
use Rattle.ideal.specs.Soundness.{sizes_right, sound}
use Rattle.ideal.specs.Box.{Element, given, Result, call_on, element_at, tables_after, tables_before, answer_at}
use Rattle.ideal.specs.Accuracy.{Earlier, LogsAt, CheckAt, CheckIsAccurate}
use Rattle.ideal.specs.Refusals.{caller_in, own_bytes, is_log_row}
use Rattle.ideal.specs.BothProfiles.{both_on}
use Rattle.ideal.proofs.Demanded.{demands}
use Rattle.ideal.proofs.ProfilesDemanded.{both_demands, profiles_are}
use Rattle.desk.specs.declared.Tank.{Tank}
use Rattle.desk.specs.declared.Claim.{Claim}
use Rattle.desk.specs.declared.TankAnswer.{TankAnswer}
use Rattle.desk.specs.Decision.{Checked, refusal_of, between, in_range, correction_in_range, signed, told, answer_of, decided, says_yes, corrected, judged, claim_of, correction_of, desk_by}
use Rattle.desk.specs.Desk.{check_of, check_element, checked_on, desk_on}
use Rattle.desk.specs.Accuracy as S
use Rattle.desk.specs.Accuracy.{Within, TwosComplement, SignedIsTwosComplement, DeskOnAny, DeskIsAccurate}
use Rattle.desk.proofs.Ranges.{is_within, within_is}
use Rattle.desk.proofs.Record.{reads}
use Rattle.desk.proofs.Answering.{answers_15, answers_9, answers_0, row_is_one, no_row_is_none, one_or_none}

-- ---- tests, and the order that they decide

not_within : (low high x : ℤ) → between low high x ≡ false → Within low high x → ⊥
not_within low high x e w = false≢true (sym e ∙ within_is low high x w)

within_not : (low high x : ℤ) → (Within low high x → ⊥) → between low high x ≡ false
within_not low high x n = by_cases (between low high x) (λ e. absurd (n (is_within low high x e))) (λ e. e)

-- the action for a difference
decides : (k : Tank) (x : ℤ) {a : TankAnswer} → a ≡ decided (k.reading +ℤ x -ℤ k.setpoint) → S.Decides k x a
unfolding decided answer_of told
decides k x q =
    rw q
    (record {
      cool = (λ z. grind (arith, ints), λ l. grind (arith, ints));
      warm = (λ z. grind (arith, ints), λ l. grind (arith, ints));
      hold = (λ z. (grind (arith, ints), grind (arith, ints)), λ w. grind (arith, ints));
      code = grind (arith, ints);
      refusal = grind (arith, ints);
    })

-- reading and setpoint, as tests
both : (k : Tank) → S.InRange k → in_range k.reading && in_range k.setpoint ≡ true
unfolding in_range
both k r = and_true _ _ (within_is _ _ k.reading r.0) (within_is _ _ k.setpoint r.1)

both_are : (k : Tank) → in_range k.reading && in_range k.setpoint ≡ true → S.InRange k
unfolding in_range
both_are k e =
    (is_within _ _ k.reading (and_left (in_range k.reading) _ e), is_within _ _ k.setpoint (and_right (in_range k.reading) _ e))

-- ---- two's complement

pub signed_is_twos_complement : SignedIsTwosComplement
unfolding signed
signed_is_twos_complement low high l h =
    record {
      is = by_cases (ltb (low + 256 * high) 32768) (λ e. inl (rw e)) (λ e. inr (rw e));
      holds = (grind (arith, ints), grind (arith, ints));
    }

-- ---- the answer of a tank, part by part

-- a tank that makes this claim
record Gives (k : Tank) (g : Claim) : Type 0 where
  is : correction_of k ≡ Some g
  probe : g.probe < 2 ^ 64
  tag : g.tag.0 < 2 ^ 64

abbrev amount : Claim → ℤ
amount g = signed g.low g.high

-- that probe earlier logged those bytes and got that tag
abbrev WasLogged : (Tables → Element → Result) → List Element → Claim → Type 0
WasLogged box es g = Earlier (LogsAt box es g.probe (g.low ∷ g.high ∷ []) g.tag) (length es)

-- a decision is no refusal
decided_code : (d : ℤ) → (decided d).code ≡ 0
unfolding decided answer_of told
decided_code d = grind (arith, ints)

module _ (box : Tables → Element → Result) (t : Tables) (size : ℕ) (k : Tank) where
  abbrev answer : TankAnswer
  answer = desk_on box t size k

  -- where reading and setpoint are in range
  in_range_lem : S.InRange k → answer ≡ judged (checked_on box t size) k.reading k.setpoint (correction_of k)
  unfolding desk_on desk_by
  in_range_lem r = rw (both k r)

  out : (S.InRange k → ⊥) → answer ≡ told 24 0 0
  unfolding desk_on desk_by answer_of
  out z = by_cases (in_range k.reading && in_range k.setpoint) (λ e. absurd (z (both_are k e))) (λ e. rw e)

  without : S.InRange k → correction_of k ≡ None → answer ≡ decided (k.reading +ℤ pos 0 -ℤ k.setpoint)
  unfolding judged
  without r e = in_range_lem r ∙ rw e

  module _ (g : Claim) (r : S.InRange k) (is : correction_of k ≡ Some g) where
    abbrev c : Checked
    c = checked_on box t size g

    yes_is : says_yes c ≡ true → answer ≡ corrected k.reading k.setpoint (amount g)
    unfolding judged
    yes_is y = in_range_lem r ∙ rw (is, y)

    no_is : says_yes c ≡ false → answer ≡ told 25 0 (refusal_of c)
    unfolding judged answer_of
    no_is y = in_range_lem r ∙ rw (is, y)

-- codes that differ
apart : {P : Type 0} (m n : ℕ) → eqb m n ≡ false → m ≡ n → P
apart m n e f = absurd (eqb-false m n e f)

-- of an answer with a correction: no 24
corrected_code : (reading setpoint x : ℤ) → correction_in_range x ≡ false → corrected reading setpoint x ≡ told 26 0 0
unfolding corrected answer_of
corrected_code reading setpoint x e = rw e

corrected_small : (reading setpoint x : ℤ) → correction_in_range x ≡ true → corrected reading setpoint x ≡ decided (reading +ℤ x -ℤ setpoint)
unfolding corrected
corrected_small reading setpoint x e = rw e

-- a correction gets 0 or 26, and no other code
corrected_no : (reading setpoint x : ℤ) → (corrected reading setpoint x).code ≡ 25 → ⊥
unfolding corrected decided answer_of told
corrected_no reading setpoint x e = grind (arith, ints)

-- in range there is no 24
judged_no : (check : Claim → Checked) (reading setpoint : ℤ) (q : Option Claim) → (judged check reading setpoint q).code ≡ 24 → ⊥
unfolding judged corrected decided answer_of told
judged_no check reading setpoint None e = grind (arith, ints)
judged_no check reading setpoint (Some g) e = grind (arith, ints)

-- ---- on any tables

module _ (t : Tables) (size : ℕ) (k : Tank) (g : Claim) (r : S.InRange k) (gives : Gives k g) where
  abbrev a : Answer
  a = (call_on t (check_element g size)).answer

  abbrev the_answer : TankAnswer
  the_answer = desk_on call_on t size k

  abbrev ready : Bool
  ready = sizes_right t size && sound t

  abbrev check : Checked
  check = checked_on call_on t size g

  check_refused : (m : ℕ) → eqb m 0 ≡ false → a.code ≡ m → check ≡ Err m
  unfolding checked_on
  check_refused m z e = rw (e, z)

  check_accepted : a.code ≡ 0 → check ≡ Ok a.number
  unfolding checked_on
  check_accepted e = rw (eq-eqb _ _ e)

  refused : (m : ℕ) → eqb m 0 ≡ false → a.code ≡ m → the_answer ≡ told 25 0 m
  unfolding says_yes refusal_of
  refused m z e =
      let c = check_refused m z e in
      no_is call_on t size k g r gives.is (ap says_yes c) ∙ ap (λ (x : Checked). told 25 0 (refusal_of x)) c

  said_no : a.code ≡ 0 → eqb a.number 1 ≡ false → the_answer ≡ told 25 0 0
  unfolding says_yes refusal_of
  said_no e other =
      let c = check_accepted e in
      no_is call_on t size k g r gives.is (ap says_yes c ∙ other) ∙ ap (λ (x : Checked). told 25 0 (refusal_of x)) c

  said_yes : a.code ≡ 0 → a.number ≡ 1 → the_answer ≡ corrected k.reading k.setpoint (amount g)
  unfolding says_yes
  said_yes e one = yes_is call_on t size k g r gives.is (ap says_yes (check_accepted e) ∙ eq-eqb _ _ one)

  abbrev shown : TankAnswer → ℕ
  shown x = x.refusal

  -- an accepted check is shown with no other number
  accepted_zero : (m : ℕ) → a.code ≡ 0 → the_answer ≡ told 25 0 m → 0 ≡ m
  unfolding told
  accepted_zero m e s =
      by_cases (eqb a.number 1)
      (λ n. absurd (corrected_no k.reading k.setpoint (amount g)
      (ap (λ (x : TankAnswer). x.code) (sym (said_yes e (eqb-true _ _ n)) ∙ s))))
      (λ n. ap shown (sym (said_no e n) ∙ s))

  other : {P : Type 0} (m n : ℕ) → eqb m n ≡ false → the_answer ≡ told 25 0 m → the_answer ≡ told 25 0 n → P
  unfolding told
  other m n z e f = apart m n z (ap shown (sym e ∙ f))

  shows_15 : (the_answer ≡ told 25 0 15) ↔ (ready ≡ false)
  shows_15 = (
    λ s. by_cases ready
        (λ y. by_cases (eqb g.probe 0)
        (λ z. other 9 15 refl (refused 9 refl (answers_9 t size g gives.probe gives.tag y (eqb-true _ _ z))) s)
        (λ z. apart 0 15 refl (accepted_zero 15 (answers_0 t size g gives.probe gives.tag y (eqb-false _ _ z)) s)))
        (λ y. y),
    λ y. refused 15 refl (answers_15 t size g gives.probe gives.tag y),
  )

  shows_9 : (the_answer ≡ told 25 0 9) ↔ ((ready ≡ true) × (g.probe ≡ 0))
  shows_9 = (
    λ s. by_cases ready
        (λ y. by_cases (eqb g.probe 0) (λ z. (y, eqb-true _ _ z))
        (λ z. apart 0 9 refl (accepted_zero 9 (answers_0 t size g gives.probe gives.tag y (eqb-false _ _ z)) s)))
        (λ y. other 15 9 refl (refused 15 refl (answers_15 t size g gives.probe gives.tag y)) s),
    λ y. refused 9 refl (answers_9 t size g gives.probe gives.tag y.0 y.1),
  )

  -- on a sound box, of a probe that is not 0: the log's rows say it
  by_the_log : ready ≡ true → (g.probe ≡ 0 → ⊥)
      → the_answer ≡ cond (any (is_log_row t.log_values g.probe g.tag (g.low ∷ g.high ∷ [])) (used_log t)) (corrected k.reading k.setpoint (amount g)) (told 25 0 0)
  by_the_log y z =
      let e = answers_0 t size g gives.probe gives.tag y z in
      let b = any (is_log_row t.log_values g.probe g.tag (g.low ∷ g.high ∷ [])) (used_log t) in
      by_cases b (λ h. rw h (said_yes e (row_is_one t size g gives.probe gives.tag e h)))
      (λ h. rw h (said_no e (ap (λ (n : ℕ). eqb n 1) (no_row_is_none t size g gives.probe gives.tag e h))))

claims : (k : Tank) → S.Gives k → Gives k (claim_of k)
unfolding correction_of
claims k s = record { is = rw (ne_eqb k.given 0 s.given); probe = s.probe; tag = s.tag }

-- of a correction that is logged
counted : (k : Tank) (a : TankAnswer) → a ≡ corrected k.reading k.setpoint (S.amount k) → S.Small k → S.Decides k (S.amount k) a
unfolding correction_in_range
counted k a q s = decides k (S.amount k) (q ∙ corrected_small k.reading k.setpoint (S.amount k) (within_is _ _ _ s))

too_large : (k : Tank) (a : TankAnswer) → a ≡ corrected k.reading k.setpoint (S.amount k) → (S.Small k → ⊥) → a ≡ told 26 0 0
unfolding correction_in_range
too_large k a q n = q ∙ corrected_code k.reading k.setpoint (S.amount k) (within_not _ _ _ n)

pub desk_on_any : DeskOnAny call_on
unfolding told correction_of
desk_on_any t size k =
    record {
      out_of_range = (
        λ e r.
            judged_no (checked_on call_on t size) k.reading k.setpoint (correction_of k)
            (ap (λ (x : TankAnswer). x.code) (sym (in_range_lem call_on t size k r)) ∙ e),
        λ z. ap (λ (x : TankAnswer). x.code) (out call_on t size k z),
      );
      nothing_else = λ e.
          out call_on t size k
          (λ r. judged_no (checked_on call_on t size) k.reading k.setpoint (correction_of k)
          (ap (λ (x : TankAnswer). x.code) (sym (in_range_lem call_on t size k r)) ∙ e));
      without = λ r z. decides k (pos 0) (without call_on t size k r (rw (eq-eqb k.given 0 z)));
      unsound = λ r gives. shows_15 t size k (claim_of k) r (claims k gives);
      identity_zero = λ r gives. shows_9 t size k (claim_of k) r (claims k gives);
      by_the_log = λ r gives y z.
          let q = by_the_log t size k (claim_of k) r (claims k gives) y z in
          record {
            counts = λ e s. counted k _ (q ∙ rw e) s;
            large = λ e s. too_large k _ (q ∙ rw e) s;
            not_logged = λ e. q ∙ rw e;
          };
    }

-- ---- after a list of calls

-- of a box whose checks are accurate and that answers the desk's as the full box does
module _ (box : Tables → Element → Result) (accurate : CheckIsAccurate box)
    (as_full : (t : Tables) (g : Claim) (size : ℕ) → box t (check_element g size) ≡ call_on t (check_element g size)) where
  -- what an index of a list says depends on the calls up to it
  module _ (es fs : List Element) (j : ℕ) (q : element_at es j ≡ element_at fs j) (b : tables_before box es j ≡ tables_before box fs j) where
    same : answer_at box es j ≡ answer_at box fs j
    unfolding answer_at
    same i = (box (b i) (q i)).answer

    moved : (i : ℕ) (v : List ℕ) (tag : Tag) → LogsAt box es i v tag j → LogsAt box fs i v tag j
    moved i v tag l =
        record {
          offset = l.offset;
          size = l.size;
          used = l.used;
          reads = ap (λ (e : Element). read e.bytes) (sym q) ∙ l.reads;
          accepts = ap (λ (x : Answer). x.code) (sym same) ∙ l.accepts;
          by = ap caller_in (sym b) ∙ l.by;
          bytes = ap (λ (u : Tables). own_bytes u l.offset l.size) (sym b) ∙ l.bytes;
          gets = ap (λ (x : Answer). x.number) (sym same) ∙ l.gets;
        }

  module _ (es : List Element) (e : Element) where
    abbrev es' : List Element
    es' = es ++ (e ∷ [])

    front : (j : ℕ) → j < length es → element_at es j ≡ element_at es' j
    unfolding element_at
    front j l = sym (get_or_append_left es (e ∷ []) _ j l)

    before : (j : ℕ) → j < length es → tables_before box es j ≡ tables_before box es' j
    unfolding tables_before
    before j l = ap (tables_after box) (sym (take-append-le j es (e ∷ []) (le_of_lt l)))

    -- the call after the list
    last : answer_at box es' (length es) ≡ (box (tables_after box es) e).answer
    unfolding answer_at tables_before element_at
    last i = (box (tables_after box (take-append_seam es (e ∷ []) i)) (get_or_at es e [] (given [] 0) (length es) refl i)).answer

    module _ (i : ℕ) (v : List ℕ) (tag : Tag) where
      further : Earlier (LogsAt box es i v tag) (length es) → Earlier (LogsAt box es' i v tag) (length es)
      further l =
          record { index = l.index; before = l.before; there = moved es es' l.index (front l.index l.before) (before l.index l.before) i v tag l.there }

      back : Earlier (LogsAt box es' i v tag) (length es) → Earlier (LogsAt box es i v tag) (length es)
      back l =
          record { index = l.index; before = l.before; there = moved es' es l.index (sym (front l.index l.before)) (sym (before l.index l.before)) i v tag l.there }

  module _ (es : List Element) (size : ℕ) (k : Tank) (g : Claim) (r : S.InRange k) (gives : Gives k g) where
    abbrev e : Element
    e = check_element g size

    abbrev v : List ℕ
    v = g.low ∷ g.high ∷ []

    abbrev t : Tables
    t = tables_after box es

    abbrev b : Answer
    b = (call_on t e).answer

    abbrev desk : TankAnswer
    desk = desk_on box t size k

    as_desk : desk ≡ desk_on call_on t size k
    unfolding desk_on checked_on
    as_desk i = desk_by (λ c. let x = (as_full t c size i).answer in cond (eqb x.code 0) (Ok x.number) (Err x.code)) k

    answered : answer_at box (es' es e) (length es) ≡ b
    answered = last es e ∙ ap (λ (x : Result). x.answer) (as_full t g size)

    -- what is stated of the check that the desk makes, as the call after the list
    record_is : read (element_at (es' es e) (length es)).bytes ≡ whole (check_of g) (length (write (check_of g)))
    unfolding element_at check_element
    record_is = ap (λ (x : Element). read x.bytes) (get_or_at es e [] _ (length es) refl) ∙ reads g gives.probe gives.tag

    check_at : CheckAt box (es' es e) (length es) g.probe g.tag v
    unfolding check_of
    check_at = accurate (es' es e) (length es) g.probe g.tag v (length (write (check_of g))) record_is

    says : (n : ℕ) → (b.code ≡ 0) × (b.number ≡ n) → ((answer_at box (es' es e) (length es)).code ≡ 0) × ((answer_at box (es' es e) (length es)).number ≡ n)
    says n s = (ap (λ (x : Answer). x.code) answered ∙ s.0, ap (λ (x : Answer). x.number) answered ∙ s.1)

    said : (n : ℕ) → ((answer_at box (es' es e) (length es)).code ≡ 0) × ((answer_at box (es' es e) (length es)).number ≡ n) → (b.code ≡ 0) × (b.number ≡ n)
    said n s = (ap (λ (x : Answer). x.code) (sym answered) ∙ s.0, ap (λ (x : Answer). x.number) (sym answered) ∙ s.1)

    sized : (element_at (es' es e) (length es)).output_size ≡ size
    unfolding element_at check_element
    sized = ap (λ (x : Element). x.output_size) (get_or_at es e [] _ (length es) refl)

    -- yes and no, said of the list itself
    yes_when : ((b.code ≡ 0) × (b.number ≡ 1)) ↔ ((size ≡ 1024) × WasLogged box es g)
    yes_when = (
      λ s. let c = check_at.yes.0 (says 1 s) in (sym sized ∙ c.0, back es e g.probe v g.tag c.1),
      λ s. said 1 (check_at.yes.1 (sized ∙ s.0, further es e g.probe v g.tag s.1)),
    )

    no_when : ((b.code ≡ 0) × (b.number ≡ 0)) ↔ ((size ≡ 1024) × (g.probe ≡ 0 → ⊥) × (WasLogged box es g → ⊥))
    no_when = (
      λ s. let c = check_at.no.0 (says 0 s) in (sym sized ∙ c.0, c.1, λ l. c.2 (further es e g.probe v g.tag l)),
      λ s. said 0 (check_at.no.1 (sized ∙ s.0, s.1, λ l. s.2 (back es e g.probe v g.tag l))),
    )

    -- every answer is one of four
    data Outcome : Type 0 where
      yes_small : (b.code ≡ 0) × (b.number ≡ 1) → correction_in_range (amount g) ≡ true → desk ≡ decided (k.reading +ℤ amount g -ℤ k.setpoint) → Outcome
      yes_large : (b.code ≡ 0) × (b.number ≡ 1) → correction_in_range (amount g) ≡ false → desk ≡ told 26 0 0 → Outcome
      no_row : (b.code ≡ 0) × (b.number ≡ 0) → desk ≡ told 25 0 0 → Outcome
      no_check : (m : ℕ) → eqb m 0 ≡ false → b.code ≡ m → desk ≡ told 25 0 m → Outcome

    after_yes : (b.code ≡ 0) × (b.number ≡ 1) → Outcome
    after_yes s =
        let d = as_desk ∙ said_yes t size k g r gives s.0 s.1 in
        by_cases (correction_in_range (amount g)) (λ y. yes_small s y (d ∙ corrected_small k.reading k.setpoint (amount g) y))
        (λ y. yes_large s y (d ∙ corrected_code k.reading k.setpoint (amount g) y))

    after_no : (b.code ≡ 0) × (b.number ≡ 0) → Outcome
    after_no s = no_row s (as_desk ∙ said_no t size k g r gives s.0 (ap (λ (n : ℕ). eqb n 1) s.1))

    accepted : b.code ≡ 0 → (b.number ≡ 1) ⊎ (b.number ≡ 0) → Outcome
    accepted z (inl n) = after_yes (z, n)
    accepted z (inr n) = after_no (z, n)

    outcome : Outcome
    outcome =
        by_cases (eqb b.code 0)
        (λ y. let z = eqb-true b.code 0 y in accepted z (one_or_none t size g gives.probe gives.tag z))
        (λ y. no_check b.code y refl (as_desk ∙ refused t size k g r gives b.code y refl))

    abbrev code_of : TankAnswer → ℕ
    code_of x = x.code

    -- an answer has one code
    one_code : {P : Type 0} (m n : ℕ) → eqb m n ≡ false → desk.code ≡ m → desk.code ≡ n → P
    one_code m n z p q = apart m n z (sym p ∙ q)

    decides_when : Outcome → desk.code ≡ 0 → (size ≡ 1024) × WasLogged box es g × (correction_in_range (amount g) ≡ true)
    unfolding told
    decides_when (yes_small s y d) z = let w = yes_when.0 s in (w.0, w.1, y)
    decides_when (yes_large s y d) z = one_code 26 0 refl (ap code_of d) z
    decides_when (no_row s d) z = one_code 25 0 refl (ap code_of d) z
    decides_when (no_check m n c d) z = one_code 25 0 refl (ap code_of d) z

    decision_is : Outcome → desk.code ≡ 0 → desk ≡ decided (k.reading +ℤ amount g -ℤ k.setpoint)
    unfolding told
    decision_is (yes_small s y d) z = d
    decision_is (yes_large s y d) z = one_code 26 0 refl (ap code_of d) z
    decision_is (no_row s d) z = one_code 25 0 refl (ap code_of d) z
    decision_is (no_check m n c d) z = one_code 25 0 refl (ap code_of d) z

    large_when : Outcome → desk ≡ told 26 0 0 → (size ≡ 1024) × WasLogged box es g × (correction_in_range (amount g) ≡ false)
    unfolding told
    large_when (yes_small s y d) z = one_code 0 26 refl (ap code_of d ∙ decided_code (k.reading +ℤ amount g -ℤ k.setpoint)) (ap code_of z)
    large_when (yes_large s y d) z = let w = yes_when.0 s in (w.0, w.1, y)
    large_when (no_row s d) z = one_code 25 26 refl (ap code_of d) (ap code_of z)
    large_when (no_check m n c d) z = one_code 25 26 refl (ap code_of d) (ap code_of z)

    not_logged_when : Outcome → desk ≡ told 25 0 0 → (size ≡ 1024) × (g.probe ≡ 0 → ⊥) × (WasLogged box es g → ⊥)
    unfolding told
    not_logged_when (yes_small s y d) z = one_code 0 25 refl (ap code_of d ∙ decided_code (k.reading +ℤ amount g -ℤ k.setpoint)) (ap code_of z)
    not_logged_when (yes_large s y d) z = one_code 26 25 refl (ap code_of d) (ap code_of z)
    not_logged_when (no_row s d) z = no_when.0 s
    not_logged_when (no_check m n c d) z = apart m 0 n (ap (λ (x : TankAnswer). x.refusal) (sym d ∙ z))

    -- and the other way
    with_correction : (size ≡ 1024) × WasLogged box es g → desk ≡ corrected k.reading k.setpoint (amount g)
    with_correction w = let s = yes_when.1 w in as_desk ∙ said_yes t size k g r gives s.0 s.1

    answers_no : (size ≡ 1024) × (g.probe ≡ 0 → ⊥) × (WasLogged box es g → ⊥) → desk ≡ told 25 0 0
    answers_no w = let s = no_when.1 w in as_desk ∙ said_no t size k g r gives s.0 (ap (λ (n : ℕ). eqb n 1) s.1)

  accurate_desk : DeskIsAccurate box
  unfolding correction_in_range
  accurate_desk es size k r given =
      let g = claim_of k in
      let gives = claims k given in
      let o = outcome es size k g r gives in
      record {
        decides = (
          λ z. let w = decides_when es size k g r gives o z in (w.0, w.1, is_within _ _ _ w.2),
          λ w. (counted k _ (with_correction es size k g r gives (w.0, w.1)) w.2).code,
        );
        decision = λ z. decides k (S.amount k) (decision_is es size k g r gives o z);
        correction_out_of_range = (
          λ z. let w = large_when es size k g r gives o z in (w.0, w.1, not_within _ _ _ w.2),
          λ w. too_large k _ (with_correction es size k g r gives (w.0, w.1)) w.2,
        );
        not_logged = (not_logged_when es size k g r gives o, answers_no es size k g r gives);
      }

pub desk_is_accurate : DeskIsAccurate call_on
desk_is_accurate = accurate_desk call_on demands.two.history.checks (λ t g size. refl)

-- after calls of either profile; the desk's own checks are of the full one
pub desk_is_accurate_in_both : DeskIsAccurate both_on
unfolding check_element
desk_is_accurate_in_both =
    accurate_desk both_on both_demands.two.checks (λ t g size. ap (λ box. box t (check_element g size)) profiles_are.full)
