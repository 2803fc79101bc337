-- Demand 1: each number exactly when its condition holds and no earlier one does; a refusal alters nothing.
use Prim.Native.Nat.{ℕ, zero, suc}
use mathlib.Core.Path.{◌≡◌, refl, sym, ap, ◌∙◌}
use mathlib.Core.Bool.{Bool, true, false, not, ◌&&◌}
use mathlib.Core.List.{List, [], ◌∷◌, ◌++◌, append-nil}
use lib.Dec.{eqb}
use borrow.Author.Tests.{eqb-false, ne_eqb, not-true}
use Rattle.record.specs.Call.{Call, first_in}
use Rattle.record.specs.Read.{Reading, refused, whole, read}
use Rattle.record.specs.Write.{filled}
use Rattle.ideal.specs.State.{State, any, every}
use Rattle.ideal.specs.Step.{refusal, refused_answer, refuse, accepted, settle, on_reading, reading_by, step_on_by, step_by}
use Rattle.ideal.specs.Tables.{Tables, state_of}
use Rattle.ideal.specs.Soundness.{sizes_right, sound}
use Rattle.ideal.specs.Box.{Element, laid, unsound, call_on, box_by}
use Rattle.ideal.specs.Layouts.{Sound}
use Rattle.ideal.specs.Refusals.{one_of, reader_conditions, call_conditions, on_call, conditions, unread, was_read, number_at, Refused, EachNumberBy, EachNumber, RefusalsAlterNothing, NeverFive, conditions_by, on_call_by}
use Rattle.lists.proofs.Bools.{by_cases, and_left, and_right, or_false_left, not_is}
use Rattle.ideal.proofs.Laid.{valid_sound, state_tables, tables_state}
use Rattle.ideal.proofs.Conditions.{first_of, first_of_lem, first_among}
use Rattle.ideal.proofs.ReaderNumbers.{seen, numbered, read_seen}
use Rattle.ideal.proofs.Links.{of_chain_every}
use Rattle.ideal.proofs.CallNumbers.{call_first}

-- what holds of the numbers of a call's conditions, of the rising ones and of those of a chain's links, holds of each
pub call_every : (p : ℕ → Bool) → every p (4 ∷ 6 ∷ 7 ∷ 8 ∷ 9 ∷ 10 ∷ 11 ∷ 12 ∷ 13 ∷ 14 ∷ []) ≡ true
    → every p (9 ∷ 18 ∷ 19 ∷ 20 ∷ []) ≡ true → (t : Tables) (c : Call) → every (λ x. p x.0) (call_conditions t c) ≡ true
unfolding every call_conditions
call_every p g h t c =
    rw (of_chain_every p h t (first_in c) (filled c).bytes) g

-- at these no bytes count as used
abbrev pub read_numbers : List ℕ
read_numbers = 1 ∷ 2 ∷ 3 ∷ 15 ∷ []

-- the answer's code is the refusal
pub settle_code : (n : ℕ) (s : State) (c : Call) (used : ℕ) → (settle n s c used).answer.code ≡ n
unfolding settle accepted refuse refused_answer
settle_code zero s c used = refl
settle_code (suc n) s c used = refl

pub sound_of : (t : Tables) (n : ℕ) → sizes_right t n && sound t ≡ true → Sound t n
sound_of t n h = record { sizes = and_left (sizes_right t n) _ h; box = and_right (sizes_right t n) _ h }

module _ (t : Tables) (n : ℕ) (h : Sound t n) where
  -- a call's refusal on a sound box is the first of the conditions on its tables
  refusal_first : (c : Call) → refusal (state_of t) c ≡ first_of (call_conditions t c)
  refusal_first c =
      let v = valid_sound t n h in
      call_first (state_of t) (state_tables (state_of t) v) v c ∙ ap (λ x. first_of (call_conditions x c)) (tables_state t n h)

  -- what holds neither of 0 nor of a number of a call's conditions holds of no call's refusal
  pub never_refused : (p : ℕ → Bool) → p 0 ≡ false → every (λ m. not (p m)) (4 ∷ 6 ∷ 7 ∷ 8 ∷ 9 ∷ 10 ∷ 11 ∷ 12 ∷ 13 ∷ 14 ∷ []) ≡ true
      → every (λ m. not (p m)) (9 ∷ 18 ∷ 19 ∷ 20 ∷ []) ≡ true → (c : Call) → p (refusal (state_of t) c) ≡ false
  unfolding first_of
  never_refused p z g l c =
      let k = first_among (λ m. not (p m)) (call_conditions t c) [] (call_every (λ m. not (p m)) g l t c) (not_is _ z) in
      ap p (refusal_first c) ∙ not-true _ (rw append-nil at k)

  -- no call is refused with a number of the reader's, or with 15
  pub call_number : (c : Call) → one_of read_numbers (refusal (state_of t) c) ≡ false
  unfolding every one_of any
  call_number = never_refused (one_of read_numbers) refl refl refl

-- a box whose refusals are the first of these rows, on sound tables
module _ (refuses : State → Call → ℕ) (rows : Tables → Call → List (ℕ × Bool))
    (first : (t : Tables) (n : ℕ) → Sound t n → (c : Call) → refuses (state_of t) c ≡ first_of (rows t c)) where
  module _ (t : Tables) (n : ℕ) (h : Sound t n) where
    reading_code : (bs : List ℕ) (r : Reading)
        → (reading_by refuses (state_of t) r).answer.code ≡ (seen r (numbered bs (first_of (on_call_by rows t r)))).0
    unfolding reading_by refuse refused_answer step_by seen on_call_by
    reading_code bs (refused code number) = refl
    reading_code bs (whole c used) = settle_code (refuses (state_of t) c) (state_of t) c used ∙ first t n h c

    step_code : (bs : List ℕ)
        → (step_on_by refuses (state_of t) bs).answer.code ≡ first_of (reader_conditions bs ++ on_call_by rows t (read bs))
    unfolding step_on_by
    step_code bs = reading_code bs (read bs) ∙ ap (λ x. x.0) (read_seen bs (on_call_by rows t (read bs)))

  box_code : (t : Tables) (e : Element) → (box_by refuses t e).answer.code ≡ first_of (conditions_by rows t e)
  unfolding box_by laid unsound refused_answer conditions_by first_of
  box_code t e =
      by_cases (sizes_right t e.output_size && sound t)
      (λ h. rw h (step_code t e.output_size (sound_of t _ h) e.bytes))
      (λ h. rw h)

  pub each_number_by : EachNumberBy (box_by refuses) (conditions_by rows)
  each_number_by t e n = rw (box_code t e) (first_of_lem n (conditions_by rows t e))

call_code : (t : Tables) (e : Element) → (call_on t e).answer.code ≡ first_of (conditions t e)
call_code = box_code refusal call_conditions refusal_first

pub each_number : EachNumber call_on
each_number = each_number_by refusal call_conditions refusal_first

-- ---- 5 is given no more: no condition has that number

not_five : ℕ → Bool
not_five m = not (eqb m 5)

-- what holds of 0 and of each number of a call's conditions holds of the first
pub call_passes : (t : Tables) (p : ℕ → Bool) → p 0 ≡ true → ((c : Call) → every (λ x. p x.0) (call_conditions t c) ≡ true)
    → (r : Reading) → p (first_of (on_call t r)) ≡ true
unfolding on_call_by first_of
call_passes t p z h (refused code number) = z
call_passes t p z h (whole c used) = rw append-nil at (first_among p (call_conditions t c) [] (h c) z)

pub never_five : NeverFive call_on
unfolding not_five every conditions_by reader_conditions call_conditions
never_five t e h =
    let bs = e.bytes in
    let reader : List (ℕ × Bool) = (15, not (sizes_right t e.output_size && sound t)) ∷ reader_conditions bs in
    let k = first_among not_five reader (on_call t (read bs)) refl (call_passes t not_five refl (call_every not_five refl refl t) (read bs)) in
    eqb-false _ 5 (not-true _ k) (sym (call_code t e) ∙ h)

-- ---- what a refusal leaves

-- the reader refuses with 1, 2 or 3, and with the answer number of that
pub read_refused : (bs : List ℕ) (code number : ℕ) → read bs ≡ refused code number
    → (number ≡ number_at bs code) × (one_of read_numbers code ≡ true)
unfolding seen every reader_conditions first_of one_of any
read_refused bs code number e =
    let some : List (ℕ × Bool) = (1, true) ∷ [] in
    let h = rw e at (read_seen bs some) in
    let first = ap (λ x. x.0) h in (
      ap (λ x. x.1) h ∙ ap (number_at bs) (sym first),
      ap (one_of read_numbers) first ∙ first_among (one_of read_numbers) (reader_conditions bs) some refl refl,
    )

module _ (t : Tables) (e : Element) (h : Sound t e.output_size) where
  settle_refused : (c : Call) (used n : ℕ) → read e.bytes ≡ whole c used → one_of read_numbers n ≡ false
      → ((settle n (state_of t) c used).answer.code ≡ 0 → ⊥) → Refused t e (laid (settle n (state_of t) c used))
  unfolding settle accepted laid refuse refused_answer number_at one_of any
  settle_refused c used zero r k f = absurd (f refl)
  settle_refused c used (suc n) r k f =
      let other = eqb-false 1 (suc n) (or_false_left (eqb 1 (suc n)) _ k) in
      let none = ne_eqb (suc n) 1 (λ y. other (sym y)) in
      record { tables = tables_state t _ h; number = rw none; shown = refl; used = was_read k c r }

  reading_refused : (r : Reading) → read e.bytes ≡ r → ((on_reading (state_of t) r).answer.code ≡ 0 → ⊥)
      → Refused t e (laid (on_reading (state_of t) r))
  unfolding reading_by laid refuse refused_answer step_by
  reading_refused (refused code number) r f =
      let k = read_refused e.bytes code number r in
      record { tables = tables_state t _ h; number = k.0; shown = refl; used = unread k.1 refl }
  reading_refused (whole c used) r f = settle_refused c used (refusal (state_of t) c) r (call_number t _ h c) f

pub refusals_alter_nothing : RefusalsAlterNothing call_on
unfolding box_by laid unsound refused_answer number_at one_of any step_on_by
refusals_alter_nothing t e =
    by_cases (sizes_right t e.output_size && sound t)
    (λ h. rw h (reading_refused t e (sound_of t _ h) (read e.bytes) refl))
    (λ h. rw h
    (λ f. record { tables = refl; number = refl; shown = refl; used = unread refl refl }))
