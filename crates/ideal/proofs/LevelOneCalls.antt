-- One call on a level-one box: what the full box promises of it. Assumes nothing.
use Prim.Native.Nat.{ℕ}
use mathlib.Core.Path.{◌≡◌, refl, sym, ap, ◌∙◌}
use mathlib.Core.Bool.{true, false, true≢false, false≢true}
use lib.Dec.{eqb}
use borrow.Author.Tests.{eqb-true}
use Rattle.record.specs.Call.{Call}
use Rattle.record.specs.Read.{whole, read}
use Rattle.ideal.specs.State.{any}
use Rattle.ideal.specs.Step.{refusal, refused_answer}
use Rattle.ideal.specs.Tables.{Tables, state_of}
use Rattle.ideal.specs.Box.{Element, laid, call_on}
use Rattle.ideal.specs.Layouts.{StaysSound}
use Rattle.ideal.specs.Refusals.{one_of, was_read, number_at, followed, Refused, RefusalsAlterNothing, NeverFive, NumberOnlyWithOne, MissingIsExact}
use Rattle.ideal.specs.Answers.{AcceptedAnswers}
use Rattle.ideal.specs.Accuracy.{LongCheckIsNo, HandleIsFirstFree}
use Rattle.ideal.specs.OneCall.{AcceptedCalls}
use Rattle.ideal.specs.Release.{ReleaseAlters}
use Rattle.ideal.specs.LevelOne.{level_one_on}
use Rattle.ideal.specs.LevelOneDemands.{barring, ElseFull}
use Rattle.lists.proofs.Bools.{by_cases, clash}
use Rattle.ideal.proofs.OwnRefusals.{barred_with, barred_is}
use Rattle.ideal.proofs.Numbers.{read_numbers, settle_code, call_number, never_five, refusals_alter_nothing}
use Rattle.ideal.proofs.Kept.{stays_sound}
use Rattle.ideal.proofs.Accepts.{accepted_answers}
use Rattle.ideal.proofs.MissingBytes.{number_only_with_one, missing_is_exact}
use Rattle.ideal.proofs.Checks.{long_check_is_no}
use Rattle.ideal.proofs.FirstFree.{handle_is_first_free}
use Rattle.ideal.proofs.OneCalls.{accepted_calls}
use Rattle.ideal.proofs.Released.{release_alters}
use Rattle.ideal.proofs.OneAnswer.{box_settles}
use Rattle.ideal.proofs.Yields.{as_full, barred, refused_on, yields}

-- none of the three is a number of the reader's, or 15
not_reader : (n : ℕ) → barring n ≡ true → one_of read_numbers n ≡ false
unfolding barring one_of any
not_reader n h =
    by_cases (eqb 21 n) (λ a. rw (← eqb-true 21 n a))
    (λ a. by_cases (eqb 22 n) (λ b. rw (← eqb-true 22 n b))
    (λ b. by_cases (eqb 23 n) (λ c. rw (← eqb-true 23 n c)) (λ c. absurd (false≢true (rw (a, b, c) at h)))))

module _ (t : Tables) (e : Element) where
  -- where none of the three is given, the full box's result is
  pub full_else : barring (level_one_on t e).answer.code ≡ false → level_one_on t e ≡ call_on t e
  unfolding refused_answer
  full_else h =
      elim (yields t e) [
        | as_full n q ↦ q
        | barred s c used r b z q ↦ clash _ (barred_is (state_of t) c z) (rw q at h)
      ]

  pub full_with : (n : ℕ) → barring n ≡ false → (level_one_on t e).answer.code ≡ n → level_one_on t e ≡ call_on t e
  full_with n h q = full_else (rw q h)

  -- a record that the full box refuses as cut is refused so here
  full_cut : (call_on t e).answer.code ≡ 1 → level_one_on t e ≡ call_on t e
  unfolding laid one_of any
  full_cut h =
      elim (yields t e) [
        | as_full n q ↦ q
        | barred s c used r b z q ↦
            let n : (call_on t e).answer.code ≡ refusal (state_of t) c =
            ap (λ x. x.answer.code) (box_settles refusal t e s c used r) ∙ settle_code (refusal (state_of t) c) (state_of t) c used in
            absurd (true≢false (rw (sym n ∙ h) at (call_number t _ s c)))
      ]

pub else_full : ElseFull level_one_on
else_full t e h =
    let q = full_else t e h in
    record { answer = ap (λ r. r.answer) q; tables = ap (λ r. r.tables) q }

pub level_one_stays_sound : StaysSound level_one_on
level_one_stays_sound t e h =
    elim (yields t e) [
      | as_full n q ↦ rw q (stays_sound t e h)
      | barred s c used r b z q ↦ rw q h
    ]

-- ---- the statements of demand 1

barred_alters_nothing : (t : Tables) (e : Element) (c : Call) (used n : ℕ) → read e.bytes ≡ whole c used → barring n ≡ true
    → Refused t e (refused_on t n used)
unfolding refused_answer number_at one_of any barring
barred_alters_nothing t e c used n r h =
    let one : eqb n 1 ≡ false = by_cases (eqb n 1) (λ y. absurd (false≢true (rw (eqb-true n 1 y) at h))) (λ y. y) in
    record { tables = refl; number = rw one; shown = refl; used = was_read (not_reader n h) c r }

pub alters_nothing : RefusalsAlterNothing level_one_on
alters_nothing t e f =
    elim (yields t e) [
      | as_full n q ↦ rw q (refusals_alter_nothing t e (rw q at f))
      | barred s c used r b z q ↦ rw q (barred_alters_nothing t e c used _ r (barred_is (state_of t) c z))
    ]

pub none_five : NeverFive level_one_on
unfolding barring one_of any
none_five t e h = never_five t e (rw (full_with t e 5 refl h) at h)

pub only_one_numbered : NumberOnlyWithOne level_one_on
unfolding barring one_of any refused_answer
only_one_numbered t e f =
    elim (yields t e) [
      | as_full n q ↦ rw q (number_only_with_one t e (rw q at f))
      | barred s c used r b z q ↦ (
        λ h. absurd (false≢true (rw (sym (ap (λ x. x.answer.code) q) ∙ h) at (barred_is (state_of t) c z))),
        λ n. absurd (n (rw q)),
      )
    ]

pub exactly_missing : MissingIsExact level_one_on
unfolding barring one_of any
exactly_missing t e h =
    let q = full_with t e 1 refl h in
    let m = missing_is_exact t e (rw q at h) in
    rw q
    (record {
      fewer = λ more l. let k = m.fewer more l in rw (full_cut t (followed e more) k.0) k;
      enough = m.enough;
    })

-- ---- those of demand 2 that speak of one call

pub answers_accepted : AcceptedAnswers level_one_on
unfolding barring one_of any
answers_accepted t e c used r z =
    let q = full_with t e 0 refl z in
    rw q (accepted_answers t e c used r (rw q at z))

pub first_free_handle : HandleIsFirstFree level_one_on
unfolding barring one_of any
first_free_handle t e i o n d used r z =
    let q = full_with t e 0 refl z in
    rw q (handle_is_first_free t e i o n d used r (rw q at z))

pub calls_accepted : AcceptedCalls level_one_on
unfolding barring one_of any
calls_accepted t e c used r z =
    let q = full_with t e 0 refl z in
    rw q (accepted_calls t e c used r (rw q at z))

pub alters_released : ReleaseAlters level_one_on
unfolding barring one_of any
alters_released t e i h used r z =
    let q = full_with t e 0 refl z in
    rw q (release_alters t e i h used r (rw q at z))

whole_call : {c d : Call} {m n : ℕ} → whole c m ≡ whole d n → c ≡ d
whole_call q = cc

pub long_check_no : LongCheckIsNo level_one_on
unfolding barred_with
long_check_no t e i g v used r l s f =
    elim (yields t e) [
      | as_full n q ↦ rw q (long_check_is_no t e i g v used r l s f)
      | barred y c m p b z q ↦ absurd (true≢false (rw (whole_call (sym p ∙ r)) at z))
    ]
