-- The examples: computed on the state, and carried to the tables by law.
use Prim.Native.Nat.{ℕ, zero, suc}
use mathlib.Core.Path.{◌≡◌, refl, sym, ap, ◌∙◌}
use mathlib.Core.Bool.{false}
use mathlib.Core.List.{List, [], ◌∷◌, ◌++◌, map}
use lib.ListN.{length}
use lib.Dec.{eqb, ltb}
use borrow.Author.Tests.{eqb-false}
use Rattle.fnv.specs.Fnv.{mixed, fnv_from, fnv1a, little, tag_of}
use Rattle.record.specs.Call.{Call}
use Rattle.record.specs.Layout.{stands, kinds, among, kind_of}
use Rattle.record.specs.Read.{Reading, refused, whole, cut, unknown, from_little, field, contents, bytes_field, fields, read_fields, read_kind, after_map, read}
use Rattle.ideal.specs.declared.Profile.{Profile}
use Rattle.ideal.specs.declared.Profile.TheVariants.{Full, LevelOne}
use Rattle.ideal.specs.State.{State, cleared, fresh, own_part, any, same_bytes, bytes_used}
use Rattle.ideal.specs.Step.{is_pair, is_logged, paired, logged, full, with_pair, has_handle, handle_of, free_from, free_handle, first_holding, idle, vacant, beyond, tests, refusal, protected, move, apply, effect, services, number, shown, Answer, refused_answer, refuse, accepted, settle, reading_by, step_on_by, step_by}
use Rattle.ideal.specs.Tables.{tables, flat}
use Rattle.ideal.specs.Box.{Element, laid, box_by, answers_from}
use Rattle.ideal.specs.LevelOne.{put_after, is_other, logged_other, level_one_tests, level_one_refusal, refusal_in, box_of}
use Rattle.ideal.specs.Exam.{hex}
use Rattle.ideal.specs.Valid.{Valid}
use Rattle.lists.proofs.Bools.{by_cases}
use Rattle.ideal.proofs.OwnRefusals.{barred_with, level_one}
use Rattle.ideal.proofs.Laid.{state_tables, sound_tables, fresh_tables_lem}
use Rattle.ideal.proofs.Kept.{valid_fresh, valid_effect}
use Rattle.sheet.specs.Records.{behind, left_after, records_from}
use Rattle.sheet.specs.Sheet.{bytes_of, digit_of, decimal_in, decimal, hexadecimal, shown_text, spaced, line, header, too_long, lines_of, sheet}
use Rattle.sheet.specs.Examples.{example_script, example_sheet, Example, retired_script, retired_sheet, RetiredExample, cut_script, cut_sheet, CutExample, level_one_script, level_one_sheet, LevelOneExample, TooLongLine}

-- the answers of a list of calls on a state, each with an output buffer of its size
unfoldable answers_on : (State → Call → ℕ) → State → List Element → List Answer
answers_on refuses s [] = []
answers_on refuses s (e ∷ es) =
    let o = step_on_by refuses s e.bytes in
    o.answer ∷ answers_on refuses o.state es

-- the lines of a script of n bytes on a fresh box
unfoldable computed_in : (State → Call → ℕ) → ℕ → List ℕ → List ℕ
computed_in refuses n script = flat (map line (answers_on refuses fresh (records_from 1024 n script)))

-- a profile accepts only what the full box accepts
stricter : (p : Profile) (s : State) (c : Call) → refusal_in p s c ≡ 0 → refusal s c ≡ 0
stricter Full s c r = r
stricter LevelOne s c r =
    let own = sym (level_one s c) ∙ r in
    by_cases (eqb (barred_with s c) 0) (λ e. rw e at own) (λ e. absurd (eqb-false (barred_with s c) 0 e (rw e at own)))

module _ (p : Profile) where
  valid_settle : (n : ℕ) (s : State) (c : Call) (used : ℕ) → Valid s → refusal_in p s c ≡ n → Valid (settle n s c used).state
  unfolding settle accepted refuse
  valid_settle zero s c used v r = valid_effect s c v (stricter p s c r)
  valid_settle (suc n) s c used v r = v

  valid_reading : (s : State) (r : Reading) → Valid s → Valid (reading_by (refusal_in p) s r).state
  unfolding reading_by step_by refuse
  valid_reading s (refused code number) v = v
  valid_reading s (whole c used) v = valid_settle (refusal_in p s c) s c used v refl

  valid_in : (s : State) (bytes : List ℕ) → Valid s → Valid (step_on_by (refusal_in p) s bytes).state
  unfolding step_on_by
  valid_in s bytes v = valid_reading s (read bytes) v

  answers_on_lem : (n : ℕ) (s : State) (rest : List ℕ) → Valid s
      → answers_from (box_of p) (tables s) (records_from 1024 n rest) ≡ answers_on (refusal_in p) s (records_from 1024 n rest)
  unfolding records_from answers_from answers_on laid box_by
  answers_on_lem zero s rest v = refl
  answers_on_lem (suc n) s [] v = refl
  answers_on_lem (suc n) s (b ∷ bs) v =
      let h = sound_tables s v in
      let o = step_on_by (refusal_in p) s (b ∷ bs) in
      rw (h.sizes, h.box, state_tables s v)
      (ap (λ later. o.answer ∷ later) (answers_on_lem n o.state (left_after (b ∷ bs)) (valid_in s (b ∷ bs) v)))

  on_fresh : (n : ℕ) (script : List ℕ) {made : List ℕ} → length script ≡ n → ltb 65536 n ≡ false
      → header ++ computed_in (refusal_in p) n script ≡ made → sheet (box_of p) script ≡ made
  unfolding sheet lines_of computed_in
  on_fresh n script size short made = rw (size, short, fresh_tables_lem, answers_on_lem n fresh script valid_fresh) made

computed : header ++ computed_in refusal 51 example_script ≡ example_sheet
unfolding example_script example_sheet hex answers_on computed_in flat behind records_from bytes_of digit_of decimal_in decimal shown_text spaced line header stands kinds among kind_of from_little field contents bytes_field fields read_fields read_kind after_map read fresh any bytes_used full has_handle handle_of free_from free_handle first_holding idle vacant beyond tests refusal protected move apply effect services number shown refused_answer refuse accepted settle step_by reading_by step_on_by
computed = refl

pub example : Example
unfolding example_script hex
example = on_fresh Full 51 example_script refl refl computed

retired_computed : header ++ computed_in refusal 50 retired_script ≡ retired_sheet
unfolding retired_script retired_sheet hex answers_on computed_in flat behind records_from bytes_of digit_of decimal_in decimal shown_text spaced line header stands kinds among kind_of from_little field contents bytes_field fields read_fields read_kind after_map read unknown fresh vacant first_holding tests refusal move apply effect number shown refused_answer refuse accepted settle step_by reading_by step_on_by
retired_computed = refl

pub retired_example : RetiredExample
unfolding retired_script hex
retired_example = on_fresh Full 50 retired_script refl refl retired_computed

cut_computed : header ++ computed_in refusal 19 cut_script ≡ cut_sheet
unfolding cut_script cut_sheet hex answers_on computed_in flat behind records_from bytes_of digit_of decimal_in decimal shown_text spaced line header stands kinds among kind_of from_little field contents bytes_field fields read_fields read_kind after_map read cut fresh vacant first_holding tests refusal move apply effect number shown refused_answer refuse accepted settle step_by reading_by step_on_by
cut_computed = refl

pub cut_example : CutExample
unfolding cut_script hex
cut_example = on_fresh Full 19 cut_script refl refl cut_computed

level_one_computed : header ++ computed_in level_one_refusal 239 level_one_script ≡ level_one_sheet
unfolding level_one_script level_one_sheet hex mixed fnv_from fnv1a little tag_of answers_on computed_in flat behind records_from bytes_of digit_of decimal_in decimal hexadecimal shown_text spaced line header stands kinds among kind_of from_little field contents bytes_field fields read_fields read_kind after_map read cut cleared fresh own_part any same_bytes bytes_used is_pair is_logged paired logged full with_pair first_holding idle vacant beyond tests put_after is_other logged_other level_one_tests level_one_refusal move apply effect services number shown refused_answer refuse accepted settle step_by reading_by step_on_by
level_one_computed = refl

pub level_one_example : LevelOneExample
unfolding level_one_script hex
level_one_example = on_fresh LevelOne 239 level_one_script refl refl level_one_computed

pub too_long_line : TooLongLine
unfolding too_long bytes_of digit_of decimal_in decimal shown_text spaced line refused_answer
too_long_line = refl
