-- A turn from what the entry on a sound box and the line's writer leave.
use Prim.Native.Nat.{ℕ, ◌≤◌}
use mathlib.Core.Path.{◌≡◌, refl, ap, sym, subst, ◌∙◌}
use mathlib.Core.Bool.{Bool, true, false, cond}
use mathlib.Core.List.{List, []}
use native.Mathlib.Omega.{arith}
use lib.ListN.{length, drop, length-append}
use lib.Seq.{take_at, drop-length}
use Rattle.ideal.specs.declared.Profile.{Profile}
use Rattle.ideal.specs.Step.{Answer}
use Rattle.ideal.specs.Tables.{Tables}
use Rattle.ideal.specs.Box.{given, Result, output_after, box_by}
use Rattle.ideal.specs.LevelOne.{box_of}
use Rattle.ideal.specs.Layouts.{Sound}
use Rattle.ideal.proofs.Facts.{output_size_lem}
use Rattle.calls.specs.Entry.{EntryResult, result_on, sound_on}
use Rattle.sheet.specs.Records.{last_code, stops}
use Rattle.sheet.specs.Sheet.{line}
use Rattle.sheet.specs.Stored.{AtFront}
use Rattle.sheet.proofs.Scripts.{stops_as_answered, uses_within}
use Rattle.turns.specs.Next.{answer_in, turn, TurnMade}

skipped : (last : Bool) (used : ℕ) (rest : List ℕ) → drop (cond last (length rest) used) rest ≡ cond last [] (drop used rest)
skipped true used rest = drop-length rest
skipped false used rest = refl

at_most : (last : Bool) (used all : ℕ) → used ≤ all → cond last all used ≤ all
at_most true used all h = omega arith
at_most false used all h = h

module _ (p : Profile) (x : EntryResult) (t : Tables) (rest output : List ℕ) (e : x ≡ sound_on p t rest output)
    (h : Sound t (length output)) where
  pub shown_fits : x.answer.shown ≤ length x.output
  unfolding sound_on result_on output_after
  shown_fits =
      omega (arith, ap (λ (y : EntryResult). y.answer.shown) e, simp length-append at (ap (λ (y : EntryResult). length y.output) e))

  -- the buffer of a sound box has the size that a script's call is given
  sound : Sound t 1024
  sound = subst (Sound t) (output_size_lem t (length output) h.sizes) h

  abbrev called : Result
  called = box_of p t (given rest 1024)

  entered : x ≡ result_on called output
  unfolding sound_on box_by
  entered = rw (e, sound.sizes, sound.box)

  answer_called : answer_in x.answer x.output ≡ called.answer
  unfolding result_on output_after
  answer_called = rw (entered, take_at)

  tables_called : x.tables ≡ called.tables
  unfolding result_on
  tables_called = ap (λ (y : EntryResult). y.tables) entered

  pub output_called : x.output ≡ output_after called.answer output
  unfolding result_on
  output_called = ap (λ (y : EntryResult). y.output) entered

  done_called : cond (last_code x.answer.code) (length rest) x.answer.used ≡ cond (stops called.answer) (length rest) called.answer.used
  unfolding stops
  done_called = ap (λ (a : Answer). cond (last_code a.code) (length rest) a.used) answer_called

  -- the line of the answer stands at the front of a buffer
  pub turn_called : {before after : List ℕ} {size done : ℕ} → AtFront (line (answer_in x.answer x.output)) before after size
      → done ≡ cond (last_code x.answer.code) (length rest) x.answer.used
      → TurnMade (turn (box_of p) t rest) x.tables rest done before after size
  unfolding turn
  turn_called {before} {after} {size} f d =
      let a = called.answer in
      let goes = d ∙ done_called in
      record {
        same = tables_called;
        rest_left =
            rw goes (skipped (stops a) a.used rest) ∙ sym (stops_as_answered p t (given rest 1024) sound);
        within = rw goes (at_most (stops a) a.used (length rest) (uses_within p t (given rest 1024) sound));
        front = subst (λ (y : Answer). AtFront (line y) before after size) answer_called f;
      }
