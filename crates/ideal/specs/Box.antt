-- The whole box on the host's tables, and runs of it from a fresh box.
use Rattle.std.specs.Prelude.{ℕ, ◌&&◌, cond, List, [], ◌∷◌, ◌++◌, length, get_or, take, drop}
use Rattle.record.specs.Call.{Call}
use Rattle.ideal.specs.declared.Profile.{Profile}
use Rattle.ideal.specs.declared.Profile.TheVariants.{Full}
use Rattle.ideal.specs.State.{State}
use Rattle.ideal.specs.Step.{Answer, Stepped, refused_answer, refusal, step_on_by}
use Rattle.ideal.specs.Tables.{Tables, tables, state_of, fresh_tables}
use Rattle.ideal.specs.Soundness.{sizes_right, sound}

-- what a call is given besides the tables: any bytes to read as a record, the size of the output buffer, and its profile
-- (document 02, P5), at which a box of one profile does not look
pub record Element : Type 0 where
  pub bytes : List ℕ
  pub output_size : ℕ
  pub profile : Profile

-- for a box of one profile
abbrev pub given : (bytes : List ℕ) → (output_size : ℕ) → Element
given bytes size = record { bytes = bytes; output_size = size; profile = Full }

pub record Result : Type 0 where
  pub tables : Tables
  pub answer : Answer

unfoldable pub laid : Stepped → Result
laid o = record { tables = tables o.state; answer = o.answer }

-- a lent buffer isn't of its size, or the box isn't sound
unfoldable pub unsound : Tables → Result
unsound t = record { tables = t; answer = refused_answer 15 0 0 }

-- a box that refuses calls with these numbers: 15 first of all, else the step of the state that the tables stand for, laid
-- out again
unfoldable pub box_by : (State → Call → ℕ) → Tables → Element → Result
box_by refuses t e =
    cond (sizes_right t e.output_size && sound t) (laid (step_on_by refuses (state_of t) e.bytes)) (unsound t)

-- the box
abbrev pub call_on : Tables → Element → Result
call_on = box_by refusal

-- the bytes shown stand at the front of the output buffer, the remainder unaltered
unfoldable pub output_after : Answer → List ℕ → List ℕ
output_after a output = a.shown ++ drop (length a.shown) output

-- ---- runs: each call gets the tables as the one before left them, refused or not

unfoldable pub element_at : List Element → ℕ → Element
element_at es k = get_or es k (given [] 0)

module _ (box : Tables → Element → Result) where
  unfoldable pub tables_from : Tables → List Element → Tables
  tables_from t [] = t
  tables_from t (e ∷ es) = tables_from (box t e).tables es

  -- the answers of a list of calls
  unfoldable pub answers_from : Tables → List Element → List Answer
  answers_from t [] = []
  answers_from t (e ∷ es) = (box t e).answer ∷ answers_from (box t e).tables es

  -- after a list of calls on a fresh box
  unfoldable pub tables_after : List Element → Tables
  tables_after es = tables_from fresh_tables es

  -- just before the call at an index
  unfoldable pub tables_before : List Element → ℕ → Tables
  tables_before es k = tables_after (take k es)

  unfoldable pub answer_at : List Element → ℕ → Answer
  answer_at es k = (box (tables_before es k) (element_at es k)).answer
