-- Boundaries, computed: what the desk answers to a tank, where this is the box's answer to its check.
use Rattle.std.specs.Prelude.{ℕ, ◌≡◌, List, [], ◌∷◌, map, ℤ, pos, neg_ℤ, Ok, Err}
use Rattle.desk.specs.declared.Tank.{Tank}
use Rattle.desk.specs.declared.TankAnswer.{TankAnswer}
use Rattle.desk.specs.Decision.{Checked, told, desk_by}

infix 80 ◌gives◌
-- a tank, what the box answers, and the answer in its numbers
pub record Case : Type 0 where
  pub tank : Tank
  pub checked : Checked
  pub answer : TankAnswer

-- a tank without a correction
unfoldable pub plain : (reading setpoint : ℤ) → Tank
plain reading setpoint =
    record { reading = reading; setpoint = setpoint; probe = 0; tag = record { 0 = 0 }; given = 0; low = 0; high = 0 }

-- with a correction of these two bytes, given by a byte
unfoldable pub given_by : (given : ℕ) (reading setpoint : ℤ) (low high : ℕ) → Tank
given_by given reading setpoint low high =
    record { reading = reading; setpoint = setpoint; probe = 1; tag = record { 0 = 2 }; given = given; low = low; high = high }

unfoldable pub with : (reading setpoint : ℤ) (low high : ℕ) → Tank
with = given_by 1

-- the box's check says yes; no; refuses with 15
unfoldable pub yes : Checked
yes = Ok 1

unfoldable pub no : Checked
no = Ok 0

unfoldable pub unsound : Checked
unsound = Err 15

unfoldable pub ◌gives◌ : Tank → TankAnswer → Checked → Case
(k gives a) c = record { tank = k; checked = c; answer = a }

unfoldable pub minus : ℕ → ℤ
minus n = neg_ℤ (pos n)

unfoldable pub cases : List Case
cases =
    -- differences of 50, 51, -50, -51: hold is 1, cool is 2, warm is 3
    (plain (pos 1050) (pos 1000) gives told 0 1 0) no
    ∷ (plain (pos 1051) (pos 1000) gives told 0 2 0) no
    ∷ (plain (pos 950) (pos 1000) gives told 0 1 0) no
    ∷ (plain (pos 949) (pos 1000) gives told 0 3 0) no
    -- the same with corrections of 50 and -50
    ∷ (with (pos 1000) (pos 1000) 0x32 0x00 gives told 0 1 0) yes
    ∷ (with (pos 1001) (pos 1000) 0x32 0x00 gives told 0 2 0) yes
    ∷ (with (pos 1000) (pos 1000) 0xCE 0xFF gives told 0 1 0) yes
    ∷ (with (pos 999) (pos 1000) 0xCE 0xFF gives told 0 3 0) yes
    -- corrections of 51, -51, 32,767 and -32,768
    ∷ (with (pos 1000) (pos 1000) 0x33 0x00 gives told 26 0 0) yes
    ∷ (with (pos 1000) (pos 1000) 0xCD 0xFF gives told 26 0 0) yes
    ∷ (with (pos 1000) (pos 1000) 0xFF 0x7F gives told 26 0 0) yes
    ∷ (with (pos 1000) (pos 1000) 0x00 0x80 gives told 26 0 0) yes
    -- corrections of -1 and 1: the lowest byte is first
    ∷ (with (pos 1051) (pos 1000) 0xFF 0xFF gives told 0 1 0) yes
    ∷ (with (pos 1050) (pos 1000) 0x01 0x00 gives told 0 2 0) yes
    -- readings of -500, -501, 3,000, 3,001, and setpoints
    ∷ (plain (minus 500) (minus 500) gives told 0 1 0) no
    ∷ (plain (minus 501) (minus 500) gives told 24 0 0) no
    ∷ (plain (pos 3000) (pos 3000) gives told 0 1 0) no
    ∷ (plain (pos 3001) (pos 3000) gives told 24 0 0) no
    ∷ (plain (minus 500) (minus 501) gives told 24 0 0) no
    ∷ (plain (pos 3000) (pos 3001) gives told 24 0 0) no
    -- a reading in range stays so with its correction
    ∷ (with (pos 3000) (pos 3000) 0x32 0x00 gives told 0 1 0) yes
    ∷ (with (pos 3001) (pos 3000) 0xCE 0xFF gives told 24 0 0) yes
    -- 24 before 25 before 26
    ∷ (with (pos 3001) (pos 3000) 0x33 0x00 gives told 24 0 0) no
    ∷ (with (pos 1000) (pos 1000) 0x33 0x00 gives told 25 0 0) no
    ∷ (with (pos 1000) (pos 1000) 0x33 0x00 gives told 25 0 15) unsound
    ∷ (with (pos 1000) (pos 1000) 0x00 0x00 gives told 25 0 0) no
    -- any other byte than 0 gives a correction
    ∷ (given_by 2 (pos 1001) (pos 1000) 0x32 0x00 gives told 0 2 0) yes
    ∷ (given_by 255 (pos 1001) (pos 1000) 0x32 0x00 gives told 25 0 0) no
    ∷ []

abbrev pub Boundaries : Type 0
Boundaries = map (λ (c : Case). desk_by (λ _. c.checked) c.tank) cases ≡ map (λ (c : Case). c.answer) cases
