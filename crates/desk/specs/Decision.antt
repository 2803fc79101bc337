-- The decision over the integers (document 02, P6). Temperatures are in hundredths of a degree Celsius.
use Rattle.std.specs.Prelude.{ℕ, ◌+◌, ◌*◌, Bool, false, ◌&&◌, cond, eqb, ltb, ℤ, pos, neg_ℤ, ◌+ℤ◌, ◌-ℤ◌, Option, Some, None, Result, Ok, Err}
use Rattle.std.specs.Int.Signed.{lt_z, le_z}
use Rattle.desk.specs.declared.Tank.{Tank}
use Rattle.desk.specs.declared.Claim.{Claim}
use Rattle.desk.specs.declared.Decision.{Decision}
use Rattle.desk.specs.declared.Decision.TheVariants.{Hold, Cool, Warm, OutOfRange, NotLogged, CorrectionOutOfRange}
use Rattle.desk.specs.declared.TankAnswer.{TankAnswer}

-- from low to high, both included
unfoldable pub between : (low high : ℤ) → ℤ → Bool
between low high x = le_z low x && le_z x high

-- a reading or a setpoint that the desk takes
unfoldable pub in_range : ℤ → Bool
in_range = between (neg_ℤ (pos 500)) (pos 3000)

-- a correction that the desk takes
unfoldable pub correction_in_range : ℤ → Bool
correction_in_range = between (neg_ℤ (pos 50)) (pos 50)

-- two bytes, lowest first, in two's complement: the number of 16 bits that they make, less 2^16 where its highest bit stands
unfoldable pub signed : (low high : ℕ) → ℤ
signed low high =
    let n = low + 256 * high in
    cond (ltb n 32768) (pos n) (pos n -ℤ pos 65536)

-- ---- the number and the values of each answer

-- with a refusal the action is 0; the box's own refusal number is shown with 25 alone
unfoldable pub told : (code action refusal : ℕ) → TankAnswer
told code action refusal = record { code = code; action = action; refusal = refusal }

unfoldable pub answer_of : Decision → TankAnswer
answer_of Hold = told 0 1 0
answer_of Cool = told 0 2 0
answer_of Warm = told 0 3 0
answer_of OutOfRange = told 24 0 0
answer_of (NotLogged refusal) = told 25 0 refusal
answer_of CorrectionOutOfRange = told 26 0 0

-- ---- the decision

-- above 50 is cool, below -50 is warm, otherwise hold
unfoldable pub decided : (difference : ℤ) → TankAnswer
decided d = cond (lt_z (pos 50) d) (answer_of Cool) (cond (lt_z d (neg_ℤ (pos 50))) (answer_of Warm) (answer_of Hold))

-- what the box answers to a check: the number of one that it accepts, or the number of its refusal
abbrev pub Checked : Type 0
Checked = Result ℕ ℕ

-- yes is an accepted check's 1
unfoldable pub says_yes : Checked → Bool
says_yes (Ok n) = eqb n 1
says_yes (Err r) = false

-- shown with 25: the box's own refusal number, or 0 where the check said no
unfoldable pub refusal_of : Checked → ℕ
refusal_of (Ok n) = 0
refusal_of (Err r) = r

-- with a correction that was checked
unfoldable pub corrected : (reading setpoint correction : ℤ) → TankAnswer
corrected reading setpoint x = cond (correction_in_range x) (decided (reading +ℤ x -ℤ setpoint)) (answer_of CorrectionOutOfRange)

-- with no correction zero is used; a correction counts only if the box's check says yes
unfoldable pub judged : (Claim → Checked) → (reading setpoint : ℤ) → Option Claim → TankAnswer
judged check reading setpoint None = decided (reading +ℤ pos 0 -ℤ setpoint)
judged check reading setpoint (Some g) =
    cond (says_yes (check g)) (corrected reading setpoint (signed g.low g.high)) (answer_of (NotLogged (refusal_of (check g))))

-- what the row that a host lends claims of its correction, if one is given
abbrev pub claim_of : Tank → Claim
claim_of k = record { probe = k.probe; tag = k.tag; low = k.low; high = k.high }

-- none where `given` is 0
unfoldable pub correction_of : Tank → Option Claim
correction_of k = cond (eqb k.given 0) None (Some (claim_of k))

-- a tank, where this is what the box answers to checks
unfoldable pub desk_by : (Claim → Checked) → Tank → TankAnswer
desk_by check k =
    cond (in_range k.reading && in_range k.setpoint) (judged check k.reading k.setpoint (correction_of k))
    (answer_of OutOfRange)
