-- What a call leaves and answers, by the number of its refusal. Assumes nothing.
use Prim.Native.Nat.{ℕ, zero, suc}
use mathlib.Core.Path.{◌≡◌, refl}
use mathlib.Core.List.{List, []}
use Rattle.record.specs.Call.{Call}
use Rattle.ideal.specs.Step.{Answer as StepAnswer, refusal, effect, number, shown, refused_answer, refuse, accepted, settle, step, step_by}
use Rattle.ideal.specs.Tables.{Tables, tables, state_of}
use Rattle.ideal.specs.Box.{Result, laid}
use Rattle.state.specs.declared.Answer.{Answer}
use Rattle.state.specs.Answers.{refused_with, settled, answered}

-- ---- a refused call on a part of the box

pub refused_leaves : {A : Type 0} (n : ℕ) (old new : A) → (n ≡ 0 → ⊥) → settled n old new ≡ old
unfolding settled
refused_leaves zero old new z = absurd (z refl)
refused_leaves (suc n) old new z = refl

pub refused_answers : (n number : ℕ) → (n ≡ 0 → ⊥) → answered n number ≡ refused_with n
unfolding answered
refused_answers zero number z = absurd (z refl)
refused_answers (suc n) number z = refl

-- an answer of a call that reads no record and shows nothing
abbrev pub ShowsNone : Answer → Type 0
ShowsNone a = (a.used ≡ 0) × (a.shown ≡ 0)

pub answered_alone : (r n : ℕ) → ShowsNone (answered r n)
unfolding answered
answered_alone zero n = (refl, refl)
answered_alone (suc r) n = (refl, refl)

-- ---- the step of the state, laid out

-- what a call on a part of the box answers, with the bytes used and the bytes shown
abbrev pub answer_of : Answer → (used : ℕ) → (bytes : List ℕ) → StepAnswer
answer_of a used v = record { code = a.code; number = a.number; used = used; shown = v }

-- the tables before and after an accepted call, its number, the bytes that it shows, the bytes used
abbrev pub settled_result : (refusal : ℕ) → (t after : Tables) → (n : ℕ) → (v : List ℕ) → (used : ℕ) → Result
settled_result r t after n v used =
    record {
      tables = settled r t after;
      answer = record { code = r; number = settled r 0 n; used = used; shown = settled r [] v };
    }

-- of a call that alters one part of the tables and shows nothing
pub part_settled : {A : Type 0} {t : Tables} (with_part : A → Tables) (old new : A) (r n used : ℕ) → with_part old ≡ t
    → settled_result r t (with_part new) n [] used
    ≡ record { tables = with_part (settled r old new); answer = answer_of (answered r n) used [] }
unfolding settled answered
part_settled with_part old new zero n used e = refl
part_settled with_part old new (suc r) n used e = rw e

-- what an accepted call leaves, answers and shows
pub record Moves (t after : Tables) (c : Call) (n : ℕ) (v : List ℕ) : Type 0 where
  pub leaves : refusal (state_of t) c ≡ 0 → tables (effect (state_of t) c) ≡ after
  pub answers : refusal (state_of t) c ≡ 0 → number (state_of t) c ≡ n
  pub shows : refusal (state_of t) c ≡ 0 → shown (state_of t) c ≡ v

module _ {t after : Tables} {c : Call} {n : ℕ} {v : List ℕ} (used : ℕ) (e : tables (state_of t) ≡ t) (m : Moves t after c n v) where
  laid_at : (r : ℕ) → refusal (state_of t) c ≡ r → laid (settle r (state_of t) c used) ≡ settled_result r t after n v used
  unfolding laid settle accepted refuse refused_answer settled
  laid_at zero h = rw (m.leaves h, m.answers h, m.shows h)
  laid_at (suc r) h = rw e

  pub laid_step : laid (step (state_of t) c used) ≡ settled_result (refusal (state_of t) c) t after n v used
  unfolding step_by
  laid_step = laid_at (refusal (state_of t) c) refl
