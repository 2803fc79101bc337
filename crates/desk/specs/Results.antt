-- What the functions answer and leave: nothing of the box and no lent buffer is altered, but for a list's answers.
use Rattle.std.specs.Prelude.{ℕ, Bool, not, ◌&&◌, cond, List, map, length, eqb, Result as Outcome, Ok, Err}
use Rattle.ideal.specs.Tables.{Tables}
use Rattle.ideal.specs.Box.{Element, Result}
use Rattle.desk.specs.declared.Tank.{Tank}
use Rattle.desk.specs.declared.TankAnswer.{TankAnswer}
use Rattle.desk.specs.declared.Claim.{Claim}
use Rattle.desk.specs.declared.list.ListRefusal.{ListRefusal}
use Rattle.desk.specs.declared.list.ListRefusal.TheVariants.{AnswerCount, TankCount}
use Rattle.desk.specs.Decision.{Checked, in_range, claim_of}
use Rattle.desk.specs.Desk.{Answered, checked_on, desk_on, shift_on}

-- an answer of any kind, with the box's tables and the output buffer
pub record Left (A : Type 0) : Type 0 where
  pub answer : A
  pub tables : Tables
  pub output : List ℕ

-- of the code
abbrev pub check_result : Checked → Tables → (output : List ℕ) → Left Checked
check_result c t output = record { answer = c; tables = t; output = output }

abbrev pub desk_result : TankAnswer → Tables → (output : List ℕ) → Left TankAnswer
desk_result a t output = record { answer = a; tables = t; output = output }

abbrev pub list_result : List TankAnswer → Tables → (output : List ℕ) → Left (List TankAnswer)
list_result answers t output = record { answer = answers; tables = t; output = output }

abbrev pub shift_result : (code : ℕ) → List TankAnswer → Tables → (output : List ℕ) → Left Answered
shift_result code answers t output =
    record { answer = record { code = code; answers = answers }; tables = t; output = output }

-- where the box is not asked
unfoldable pub unasked : Checked
unasked = Ok 0

-- a tank's answer depends on the box
unfoldable pub needs_box : Tank → Bool
needs_box k = not (eqb k.given 0) && (in_range k.reading && in_range k.setpoint)

-- every check is refused with 15, as where a lent buffer isn't of its size or the box isn't sound
unfoldable pub refused_all : Claim → Checked
refused_all g = Err 15

-- the number with which a list is refused whole, and 0 where it is answered
abbrev pub refusal_number : ListRefusal → ℕ
refusal_number AnswerCount = 15
refusal_number TankCount = 24

abbrev pub code_in : {A : Type 0} → Outcome A ListRefusal → ℕ
code_in (Ok a) = 0
code_in (Err r) = refusal_number r

-- of the definition: the tables and the output buffer are what they were
module _ (box : Tables → Element → Result) (t : Tables) (output : List ℕ) where
  abbrev pub check_leaves : Claim → Left Checked
  check_leaves g = record { answer = checked_on box t (length output) g; tables = t; output = output }

  -- the box is asked where a tank's answer depends on it
  abbrev pub asked_leaves : Tank → Left Checked
  asked_leaves k =
      record {
        answer = cond (needs_box k) (checked_on box t (length output) (claim_of k)) unasked;
        tables = t;
        output = output;
      }

  abbrev pub desk_leaves : Tank → Left TankAnswer
  desk_leaves k = record { answer = desk_on box t (length output) k; tables = t; output = output }

  -- every tank of a list
  abbrev pub list_leaves : List Tank → Left (List TankAnswer)
  list_leaves tanks = record { answer = map (desk_on box t (length output)) tanks; tables = t; output = output }

  abbrev pub shift_leaves : List Tank → List TankAnswer → Left Answered
  shift_leaves tanks answers = record { answer = shift_on box t (length output) tanks answers; tables = t; output = output }
