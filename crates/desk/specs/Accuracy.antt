-- What the desk's answers say, by the order of the integers: on any tables, and about the calls since a fresh box.
use Rattle.std.specs.Prelude.{ℕ, ◌+◌, ◌*◌, ◌≤◌, ◌<◌, ◌^◌, ◌≡◌, ◌↔◌, ◌⊎◌, Bool, true, false, ◌&&◌, List, [], ◌∷◌, length, get_or, ℤ, pos, neg_ℤ, ◌+ℤ◌, ◌-ℤ◌, ◌≤ℤ◌, ◌<ℤ◌}
use Rattle.ideal.specs.State.{any}
use Rattle.ideal.specs.Tables.{Tables, used_log}
use Rattle.ideal.specs.Soundness.{sizes_right, sound}
use Rattle.ideal.specs.Box.{Element, Result, tables_after}
use Rattle.ideal.specs.Accuracy.{Earlier, LogsAt}
use Rattle.ideal.specs.Refusals.{is_log_row}
use Rattle.desk.specs.declared.Tank.{Tank}
use Rattle.desk.specs.declared.TankAnswer.{TankAnswer}
use Rattle.desk.specs.Decision.{signed, told}
use Rattle.desk.specs.Desk.{desk_on, shift_on}

-- from low to high, both included
abbrev pub Within : (low high x : ℤ) → Type 0
Within low high x = (low ≤ℤ x) × (x ≤ℤ high)

-- ---- two's complement: the number that the bytes make, or that less 2^16, whichever 16 bits with a sign hold

pub record TwosComplement (low high : ℕ) : Type 0 where
  pub is : (signed low high ≡ pos (low + 256 * high)) ⊎ (signed low high ≡ pos (low + 256 * high) -ℤ pos 65536)
  pub holds : Within (neg_ℤ (pos 32768)) (pos 32767) (signed low high)

abbrev pub SignedIsTwosComplement : Type 0
SignedIsTwosComplement = (low high : ℕ) → low < 256 → high < 256 → TwosComplement low high

-- ---- a tank

-- reading and setpoint are in range
abbrev pub InRange : Tank → Type 0
InRange k =
    Within (neg_ℤ (pos 500)) (pos 3000) k.reading × Within (neg_ℤ (pos 500)) (pos 3000) k.setpoint

-- a correction is given
pub record Gives (k : Tank) : Type 0 where
  pub given : k.given ≡ 0 → ⊥
  -- the numbers fit their fields
  pub probe : k.probe < 2 ^ 64
  pub tag : k.tag.0 < 2 ^ 64

-- its two bytes, and the number in them
abbrev pub bytes_of : Tank → List ℕ
bytes_of k = k.low ∷ k.high ∷ []

abbrev pub amount : Tank → ℤ
amount k = signed k.low k.high

-- the correction is in range
abbrev pub Small : Tank → Type 0
Small k = Within (neg_ℤ (pos 50)) (pos 50) (amount k)

-- reading plus correction minus setpoint
abbrev pub difference : Tank → ℤ → ℤ
difference k correction = k.reading +ℤ correction -ℤ k.setpoint

-- a decision: above 50 is cool (2), below -50 is warm (3), otherwise hold (1)
pub record Decides (k : Tank) (correction : ℤ) (a : TankAnswer) : Type 0 where
  pub cool : (a.action ≡ 2) ↔ (pos 50 <ℤ difference k correction)
  pub warm : (a.action ≡ 3) ↔ (difference k correction <ℤ neg_ℤ (pos 50))
  pub hold : (a.action ≡ 1) ↔ Within (neg_ℤ (pos 50)) (pos 50) (difference k correction)
  pub code : a.code ≡ 0
  pub refusal : a.refusal ≡ 0

-- whether the correction is logged says what is answered
pub record ByTheLog (k : Tank) (logged : Bool) (a : TankAnswer) : Type 0 where
  pub counts : logged ≡ true → Small k → Decides k (amount k) a
  pub large : logged ≡ true → (Small k → ⊥) → a ≡ told 26 0 0
  pub not_logged : logged ≡ false → a ≡ told 25 0 0

module _ (box : Tables → Element → Result) where
  -- on any tables, hand-made ones included
  pub record OnAny (t : Tables) (output_size : ℕ) (k : Tank) : Type 0 where
    -- 24 comes first
    pub out_of_range : ((desk_on box t output_size k).code ≡ 24) ↔ (InRange k → ⊥)
    pub nothing_else : (desk_on box t output_size k).code ≡ 24 → desk_on box t output_size k ≡ told 24 0 0
    -- with no correction zero is used, whatever the box
    pub without : InRange k → k.given ≡ 0 → Decides k (pos 0) (desk_on box t output_size k)
    -- 25 with 15: a lent buffer isn't of its size, or the box isn't sound
    pub unsound : InRange k → Gives k
        → (desk_on box t output_size k ≡ told 25 0 15) ↔ (sizes_right t output_size && sound t ≡ false)
    -- 25 with 9: identity 0
    pub identity_zero : InRange k → Gives k
        → (desk_on box t output_size k ≡ told 25 0 9) ↔ ((sizes_right t output_size && sound t ≡ true) × (k.probe ≡ 0))
    -- else the log says it: with a row of that probe, tag and bytes the correction counts, and without one it is 25 with 0
    pub by_the_log : InRange k → Gives k → sizes_right t output_size && sound t ≡ true → (k.probe ≡ 0 → ⊥)
        → ByTheLog k (any (is_log_row t.log_values k.probe k.tag (bytes_of k)) (used_log t)) (desk_on box t output_size k)

  abbrev pub DeskOnAny : Type 0
  DeskOnAny = (t : Tables) (output_size : ℕ) (k : Tank) → OnAny t output_size k

  -- that probe earlier logged those two bytes and got that tag
  abbrev pub WasLogged : List Element → Tank → Type 0
  WasLogged es k = Earlier (LogsAt box es k.probe (bytes_of k) k.tag) (length es)

  -- after a list of calls on a fresh box, with a correction, where reading and setpoint are in range
  pub record AfterCalls (es : List Element) (output_size : ℕ) (k : Tank) : Type 0 where
    -- cool, warm or hold is answered only where the correction was logged, and always where it was and is in range
    pub decides : ((desk_on box (tables_after box es) output_size k).code ≡ 0)
        ↔ ((output_size ≡ 1024) × WasLogged es k × Small k)
    -- and it is the decision with this correction
    pub decision : (desk_on box (tables_after box es) output_size k).code ≡ 0
        → Decides k (amount k) (desk_on box (tables_after box es) output_size k)
    pub correction_out_of_range : (desk_on box (tables_after box es) output_size k ≡ told 26 0 0)
        ↔ ((output_size ≡ 1024) × WasLogged es k × (Small k → ⊥))
    pub not_logged : (desk_on box (tables_after box es) output_size k ≡ told 25 0 0)
        ↔ ((output_size ≡ 1024) × (k.probe ≡ 0 → ⊥) × (WasLogged es k → ⊥))

  abbrev pub DeskIsAccurate : Type 0
  DeskIsAccurate = (es : List Element) (output_size : ℕ) (k : Tank) → InRange k → Gives k → AfterCalls es output_size k

  -- ---- a list

  pub record OfList (t : Tables) (output_size : ℕ) (tanks : List Tank) (answers : List TankAnswer) : Type 0 where
    -- 15: a lent buffer isn't of its size, not as many answers as tanks
    pub size : ((shift_on box t output_size tanks answers).code ≡ 15) ↔ (length answers ≡ length tanks → ⊥)
    -- then 24: an empty or longer list
    pub whole : ((shift_on box t output_size tanks answers).code ≡ 24)
        ↔ ((length answers ≡ length tanks) × ((1 ≤ length tanks) × (length tanks ≤ 8) → ⊥))
    -- else 0
    pub accepts : ((shift_on box t output_size tanks answers).code ≡ 0)
        ↔ ((length answers ≡ length tanks) × (1 ≤ length tanks) × (length tanks ≤ 8))
    pub count : length (shift_on box t output_size tanks answers).answers ≡ length answers
    -- refused whole, no answer is written
    pub unwritten : ((shift_on box t output_size tanks answers).code ≡ 0 → ⊥) → (shift_on box t output_size tanks answers).answers ≡ answers
    -- accepted, each tank in order has its own answer, refused or not
    pub each : (shift_on box t output_size tanks answers).code ≡ 0 → (i : ℕ) (d : TankAnswer) (e : Tank) → i < length tanks
        → get_or (shift_on box t output_size tanks answers).answers i d ≡ desk_on box t output_size (get_or tanks i e)

-- of any box
abbrev pub EachItsOwn : Type 0
EachItsOwn = (box : Tables → Element → Result) (t : Tables) (output_size : ℕ) (tanks : List Tank) (answers : List TankAnswer)
    → OfList box t output_size tanks answers
