-- The desk over a box: what it asks, and a tank's or a list's answers.
use Rattle.std.specs.Prelude.{ℕ, Bool, ◌&&◌, cond, List, [], ◌∷◌, map, length, eqb, leb, Ok, Err}
use Rattle.record.specs.Call.{Call, check}
use Rattle.record.specs.Write.{write}
use Rattle.ideal.specs.Tables.{Tables}
use Rattle.ideal.specs.Box.{Element, given, Result}
use Rattle.desk.specs.declared.Tank.{Tank}
use Rattle.desk.specs.declared.Claim.{Claim}
use Rattle.desk.specs.declared.TankAnswer.{TankAnswer}
use Rattle.desk.specs.Decision.{Checked, desk_by}

-- whether that probe logged those two bytes and got that tag
unfoldable pub check_of : Claim → Call
check_of g = check g.probe g.tag (g.low ∷ g.high ∷ [])

-- its record, as the box's writer writes it, with the size of the output buffer lent
unfoldable pub check_element : Claim → (output_size : ℕ) → Element
check_element g size = given (write (check_of g)) size

-- the whole list's answer, and each tank's
pub record Answered : Type 0 where
  pub code : ℕ
  pub answers : List TankAnswer

-- 1 to 8 tanks
unfoldable pub is_list : (tanks : ℕ) → Bool
is_list tanks = leb 1 tanks && leb tanks 8

-- 15 where the lent answers are not as many as the tanks; else 24 where the list is empty or longer
unfoldable pub shift_code : (tanks answers : ℕ) → ℕ
shift_code tanks answers = cond (eqb answers tanks) (cond (is_list tanks) 0 24) 15

module _ (box : Tables → Element → Result) (t : Tables) (output_size : ℕ) where
  -- what the box answers to the check
  unfoldable pub checked_on : Claim → Checked
  checked_on g =
      let a = (box t (check_element g output_size)).answer in
      cond (eqb a.code 0) (Ok a.number) (Err a.code)

  -- one tank
  unfoldable pub desk_on : Tank → TankAnswer
  desk_on = desk_by checked_on

  -- a list, with what the answers' slice holds before: refused whole it stays so
  unfoldable pub shift_on : List Tank → List TankAnswer → Answered
  shift_on tanks answers =
      let code = shift_code (length tanks) (length answers) in
      record { code = code; answers = cond (eqb code 0) (map desk_on tanks) answers }
