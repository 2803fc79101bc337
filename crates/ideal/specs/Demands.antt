-- The three demands, each of a box on a host's tables.
use Rattle.std.specs.Prelude.{ℕ, Bool, List}
use Rattle.ideal.specs.Tables.{Tables}
use Rattle.ideal.specs.Box.{Element, Result}
use Rattle.ideal.specs.Refusals.{conditions, EachNumberBy, RefusalsAlterNothing, NeverFive, NumberOnlyWithOne, MissingIsExact}
use Rattle.ideal.specs.Answers.{AcceptedAnswers}
use Rattle.ideal.specs.History.{HistoryHolds, Reports}
use Rattle.ideal.specs.Accuracy.{CheckIsAccurate, LongCheckIsNo, RetrieveIsAccurate, ReleaseIsAccurate, ChainIsAccurate, HandleOnce, HandleIsFirstFree}
use Rattle.ideal.specs.OneCall.{AcceptedCalls}
use Rattle.ideal.specs.Release.{ReleaseAlters}
use Rattle.ideal.specs.Secrecy.{Secrecy}

-- whatever is malformed or full, the box finishes with the numbered refusal that this table has for it, and a refusal alters
-- nothing
pub record Demand1By (table : Tables → Element → List (ℕ × Bool)) (box : Tables → Element → Result) : Type 0 where
  pub numbers : EachNumberBy box table
  pub alters_nothing : RefusalsAlterNothing box
  pub never_five : NeverFive box
  pub number_only_with_one : NumberOnlyWithOne box
  pub missing_is_exact : MissingIsExact box

-- of one call, on any tables that a host may hold, hand-made ones too: the box refuses nothing else, and the tables before the
-- call say what it leaves, answers and shows where it is accepted
pub record EachCallBy (table : Tables → Element → List (ℕ × Bool)) (box : Tables → Element → Result) : Type 0 where
  pub refuses_no_more : EachNumberBy box table
  pub does : AcceptedCalls box
  pub answers : AcceptedAnswers box
  pub handles_free : HandleIsFirstFree box
  pub long_checks : LongCheckIsNo box
  pub release_alters : ReleaseAlters box

module _ (box : Tables → Element → Result) where
  abbrev pub Demand1 : Type 0
  Demand1 = Demand1By conditions box

  abbrev pub EachCall : Type 0
  EachCall = EachCallBy conditions box

  -- of history: the calls since a fresh box say what the box holds and answers
  pub record SinceFresh : Type 0 where
    pub checks : CheckIsAccurate box
    pub retrieves : RetrieveIsAccurate box
    pub releases : ReleaseIsAccurate box
    pub chains : ChainIsAccurate box
    pub handles_once : HandleOnce box
    pub holds : HistoryHolds box
    pub reports : Reports box

  -- the box does what the ideal functionality says
  pub record Demand2 : Type 0 where
    pub call : EachCall
    pub history : SinceFresh

  -- all three, of the same box
  pub record Demands : Type 0 where
    pub one : Demand1
    pub two : Demand2
    pub three : Secrecy box
