-- What the demands fix: every box that meets demands 1 and 2 is the definition, on any tables, sound or not, so it has
-- demand 3 too. The hypotheses do not name the definition.
use Rattle.std.specs.Prelude.{ℕ, ◌<◌, ◌≡◌, List, length}
use Rattle.ideal.specs.Tables.{Tables}
use Rattle.ideal.specs.Box.{Element, Result, call_on, tables_after, answer_at}
use Rattle.ideal.specs.Refusals.{EachNumber, RefusalsAlterNothing}
use Rattle.ideal.specs.Answers.{AcceptedAnswers}
use Rattle.ideal.specs.Accuracy.{HandleIsFirstFree}
use Rattle.ideal.specs.Secrecy.{Secrecy}
use Rattle.ideal.specs.Demands.{Demand1, SinceFresh, Demand2}

abbrev pub Fixed : Type 0
Fixed = (box : Tables → Element → Result) → Demand1 box → Demand2 box → (t : Tables) (e : Element) → box t e ≡ call_on t e

abbrev pub SecrecyFollows : Type 0
SecrecyFollows = (box : Tables → Element → Result) → Demand1 box → Demand2 box → Secrecy box

-- ---- with less

-- the same code, and where it is 0 the same in all
pub record SameAccepted (r s : Result) : Type 0 where
  pub code : r.answer.code ≡ s.answer.code
  pub accepted : s.answer.code ≡ 0 → r ≡ s

-- demand 2 alone
abbrev pub FixedByTwo : Type 0
FixedByTwo = (box : Tables → Element → Result) → Demand2 box → (t : Tables) (e : Element) → SameAccepted (box t e) (call_on t e)

-- two boxes on a list from a fresh box: the same but for a refusal's number, bytes used and bytes shown; and the same in all
-- where the first's refusals have the number of their code, show nothing and alter nothing
pub record SameRun (a b : Tables → Element → Result) (es : List Element) : Type 0 where
  pub code : (k : ℕ) → k < length es → (answer_at a es k).code ≡ (answer_at b es k).code
  pub answer : (k : ℕ) → k < length es → (answer_at b es k).code ≡ 0 → answer_at a es k ≡ answer_at b es k
  pub tables : tables_after a es ≡ tables_after b es
  pub every : RefusalsAlterNothing a → (k : ℕ) → k < length es → answer_at a es k ≡ answer_at b es k

-- history fixes runs, with nothing said of what one call leaves
abbrev pub FixedByHistory : Type 0
FixedByHistory = (box : Tables → Element → Result) → EachNumber box → AcceptedAnswers box → HandleIsFirstFree box → SinceFresh box
    → (es : List Element) → SameRun box call_on es
