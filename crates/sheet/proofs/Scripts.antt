-- The records of a script: by the reader alone, and by the answers of either box.
use Prim.Native.Nat.{ℕ, zero, suc, ◌≤◌}
use mathlib.Core.Path.{◌≡◌, refl, ap}
use mathlib.Core.Bool.{true, cond, false≢true}
use mathlib.Core.List.{List, [], ◌∷◌}
use native.Mathlib.Omega.{arith}
use lib.ListN.{length, drop, length-drop}
use lib.Dec.{eqb}
use borrow.Author.Tests.{eqb-true, lt-ltb, le-ltb}
use Rattle.record.specs.Call.{Call}
use Rattle.record.specs.Read.{Reading, refused, whole, read}
use Rattle.ideal.specs.declared.Profile.{Profile}
use Rattle.ideal.specs.declared.Profile.TheVariants.{Full, LevelOne}
use Rattle.ideal.specs.State.{State, any}
use Rattle.ideal.specs.Step.{refused_answer, refuse, accepted, settle, reading_by, step_on_by, step_by}
use Rattle.ideal.specs.Tables.{Tables, state_of}
use Rattle.ideal.specs.Box.{Element, given, laid, box_by}
use Rattle.ideal.specs.LevelOne.{refusal_in, box_of}
use Rattle.ideal.specs.Layouts.{Sound, StaysSound}
use Rattle.ideal.specs.Refusals.{one_of, unread, was_read, RefusalsAlterNothing}
use Rattle.lists.proofs.Bools.{by_cases, clash}
use Rattle.ideal.proofs.Numbers.{refusals_alter_nothing}
use Rattle.ideal.proofs.Kept.{stays_sound}
use Rattle.ideal.proofs.LevelOneCalls.{level_one_stays_sound, alters_nothing}
use Rattle.sheet.specs.Sheet.{sheet, SheetLimit}
use Rattle.sheet.specs.Records.{behind, left_after, records_from, RecordByRecord, last_code, stops, StopsAsAnswered, UsesWithin}
use Rattle.sheet.proofs.Readings.{Ends, last, read_on, read_ends}

-- ---- by the reader

-- what is left behind a record is shorter
less_behind : (b : ℕ) (bs : List ℕ) {most : ℕ} (r : Reading) → Ends most r → length (behind r (b ∷ bs)) ≤ length bs
unfolding behind
less_behind b bs (refused code number) h = omega arith
less_behind b bs (whole c used) (read_on h k) = omega (arith, length-drop used (b ∷ bs))

pub left_less : (b : ℕ) (bs : List ℕ) → length (left_after (b ∷ bs)) ≤ length bs
left_less b bs = less_behind b bs (read (b ∷ bs)) (read_ends (b ∷ bs))

-- from the number of bytes left on, a higher count of records alters nothing
enough : (size m n : ℕ) (rest : List ℕ) → length rest ≤ m → length rest ≤ n → records_from size m rest ≡ records_from size n rest
unfolding records_from
enough size zero zero rest l k = refl
enough size zero (suc n) [] l k = refl
enough size zero (suc n) (b ∷ bs) l k = absurd (omega arith)
enough size (suc m) zero [] l k = refl
enough size (suc m) zero (b ∷ bs) l k = absurd (omega arith)
enough size (suc m) (suc n) [] l k = refl
enough size (suc m) (suc n) (b ∷ bs) l k =
    let less = left_less b bs in
    ap (λ es. given (b ∷ bs) size ∷ es) (enough size m n (left_after (b ∷ bs)) (omega arith) (omega arith))

pub sheet_limit : SheetLimit
unfolding sheet
sheet_limit box script =
    record { records = λ h. rw (le-ltb 65536 (length script) h); longer = λ h. rw (lt-ltb 65536 (length script) h) }

pub record_by_record : RecordByRecord
unfolding records_from
record_by_record size b bs =
    let rest = left_after (b ∷ bs) in
    ap (λ es. given (b ∷ bs) size ∷ es) (enough size (length bs) (length rest) rest (left_less b bs) (omega arith))

-- ---- by the answers

settle_used : (n : ℕ) (s : State) (c : Call) (used : ℕ) → (settle n s c used).answer.used ≡ used
unfolding settle accepted refuse refused_answer
settle_used zero s c used = refl
settle_used (suc n) s c used = refl

-- whatever calls a box refuses
module _ (refuses : State → Call → ℕ) (s : State) {most : ℕ} where
  reading_left : (rest : List ℕ) (r : Reading) → Ends most r
      → let a = (reading_by refuses s r).answer in
      (stops a ≡ true → a.used ≡ 0) → behind r rest ≡ cond (stops a) [] (drop a.used rest)
  unfolding reading_by refuse refused_answer step_by stops behind
  reading_left rest (refused code number) (last h) z = rw h
  reading_left rest (whole c used) (read_on h k) z =
      let a = (settle (refuses s c) s c used).answer in
      let u = settle_used (refuses s c) s c used in
      by_cases (stops a) (λ e. absurd (omega (arith, z e, u))) (λ e. rw (e, u))

  reading_within : (r : Reading) → Ends most r → (reading_by refuses s r).answer.used ≤ most
  unfolding reading_by refuse refused_answer step_by
  reading_within (refused code number) (last h) = omega arith
  reading_within (whole c used) (read_on h k) = rw (settle_used (refuses s c) s c used) k

on_sound : (refuses : State → Call → ℕ) (t : Tables) (e : Element) → Sound t e.output_size
    → box_by refuses t e ≡ laid (reading_by refuses (state_of t) (read e.bytes))
unfolding box_by step_on_by
on_sound refuses t e h = rw (h.sizes, h.box)

alters : (p : Profile) → RefusalsAlterNothing (box_of p)
alters Full = refusals_alter_nothing
alters LevelOne = alters_nothing

pub stays_sound_in : (p : Profile) → StaysSound (box_of p)
stays_sound_in Full = stays_sound
stays_sound_in LevelOne = level_one_stays_sound

unread_code : (n : ℕ) → last_code n ≡ true → one_of (1 ∷ 2 ∷ 3 ∷ 15 ∷ []) n ≡ true
unfolding last_code one_of any
unread_code n h =
    by_cases (eqb n 1) (λ a. rw (eqb-true n 1 a))
    (λ a. by_cases (eqb n 2) (λ b. rw (eqb-true n 2 b))
    (λ b. by_cases (eqb n 3) (λ c. rw (eqb-true n 3 c)) (λ c. absurd (false≢true (rw (a, b, c) at h)))))

-- an answer with 1, 2 or 3 uses no byte
nothing_used : (p : Profile) (t : Tables) (e : Element) → stops (box_of p t e).answer ≡ true → (box_of p t e).answer.used ≡ 0
unfolding stops last_code
nothing_used p t e h =
    elim (alters p t e (λ z. absurd (false≢true (rw z at h)))).used [
      | unread y z ↦ z
      | was_read n c r ↦ clash _ (unread_code _ h) n
    ]

pub stops_as_answered : StopsAsAnswered
unfolding laid
stops_as_answered p t e h =
    let q = on_sound (refusal_in p) t e h in
    rw q
    (reading_left (refusal_in p) (state_of t) e.bytes (read e.bytes) (read_ends e.bytes) (rw q at (nothing_used p t e)))

pub uses_within : UsesWithin
unfolding laid
uses_within p t e h =
    rw (on_sound (refusal_in p) t e h) (reading_within (refusal_in p) (state_of t) (read e.bytes) (read_ends e.bytes))
