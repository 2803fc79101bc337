-- What turns of the code leave and give, as turns of the definition: the records of a script, as many as fit.
use Rattle.std.specs.Prelude.{ℕ, suc, ◌-◌, ◌≤◌, ◌<◌, ◌≡◌, cond, List, [], ◌∷◌, ◌++◌, map, length, take, drop, ltb}
use Rattle.ideal.specs.declared.BoxRecord.{BoxRecord}
use Rattle.ideal.specs.declared.EscrowRow.{EscrowRow}
use Rattle.ideal.specs.declared.LogRow.{LogRow}
use Rattle.ideal.specs.declared.Profile.{Profile}
use Rattle.ideal.specs.Step.{Answer as StepAnswer}
use Rattle.ideal.specs.Tables.{Tables, flat}
use Rattle.ideal.specs.Box.{Element, given, Result, element_at, tables_from, answers_from}
use Rattle.ideal.specs.LevelOne.{box_of}
use Rattle.ideal.specs.Layouts.{Sound}
use Rattle.state.specs.declared.Answer.{Answer}
use Rattle.state.specs.declared.Edits.{Edits}
use Rattle.state.specs.Edits.{EditsBy, log_edited, escrow_edited}
use Rattle.sheet.specs.Records.{left_after, records_of}
use Rattle.sheet.specs.Sheet.{line, lines_of}
use Rattle.sheet.specs.Stored.{AtFront}

-- the answer whose shown bytes stand at the front of the output buffer
abbrev pub answer_in : Answer → (output : List ℕ) → StepAnswer
answer_in a output = record { code = a.code; number = a.number; used = a.used; shown = take a.shown output }

-- records from the front of a script on: the tables that they leave, their lines, and what is left of the script
pub record Turn : Type 0 where
  pub tables : Tables
  pub text : List ℕ
  pub left : List ℕ

-- any line fits in so many bytes: three numbers of 20 digits, 1,024 bytes in hexadecimal, and what parts and ends them
abbrev pub line_most : ℕ
line_most = 2113

-- how many of these answers have a line, where each is written only if there is room for any line
unfoldable pub fitting : (room : ℕ) → List StepAnswer → ℕ
fitting room [] = 0
fitting room (a ∷ later) = cond (ltb room line_most) 0 (suc (fitting (room - length (line a)) later))

module _ (box : Tables → Element → Result) where
  -- one record
  unfoldable pub turn : Tables → List ℕ → Turn
  turn t rest =
      let r = box t (given rest 1024) in
      record { tables = r.tables; text = line r.answer; left = left_after rest }

  -- the first of these calls, as many as fit
  unfoldable pub turns_over : (room : ℕ) → Tables → List Element → Turn
  turns_over room t es =
      let n = fitting room (answers_from box t es) in
      record {
        tables = tables_from box t (take n es);
        text = flat (map line (answers_from box t (take n es)));
        left = (element_at es n).bytes;
      }

  abbrev pub turns : (room : ℕ) → Tables → List ℕ → Turn
  turns room t rest = turns_over room t (records_of 1024 rest)

  -- turns write the first lines of what is left of a sheet, and leave the others to be written
  pub record Writes (made : Turn) (t : Tables) (rest : List ℕ) : Type 0 where
    pub lines : lines_of box t rest ≡ made.text ++ lines_of box made.tables made.left
    pub sound : Sound made.tables 1024
    pub within : length made.left ≤ length rest

abbrev pub TurnsWrite : Type 0
TurnsWrite = (p : Profile) (room : ℕ) (t : Tables) (rest : List ℕ) → Sound t 1024
    → Writes (box_of p) (turns (box_of p) room t rest) t rest

-- a line is written, and less is left
pub record GoesOn (made : Turn) (rest : List ℕ) : Type 0 where
  pub some : 0 < length made.text
  pub less : length made.left < length rest

-- where input is left and there is room for any line
abbrev pub TurnsGoOn : Type 0
TurnsGoOn = (p : Profile) (room : ℕ) (t : Tables) (rest : List ℕ) → Sound t 1024 → 0 < length rest → line_most ≤ room
    → GoesOn (turns (box_of p) room t rest) rest

-- ---- the code's

-- the rows are those before with one row put, by the counts, or by a release; or they are left
abbrev pub Puts : BoxRecord → List LogRow → List EscrowRow → BoxRecord → List LogRow → List EscrowRow → Type 0
Puts before log escrow after log_after escrow_after =
    (e : Edits) × EditsBy before escrow after e × (log_after ≡ log_edited e.log log) × (escrow_after ≡ escrow_edited e.escrow escrow)

-- The code leaves these tables, is done with so many bytes of the rest, and has written so many bytes at the front of a
-- buffer: it is this turn, and the bytes beyond its text are unaltered.
pub record TurnMade (defined : Turn) (made : Tables) (rest : List ℕ) (done : ℕ) (before after : List ℕ) (size : ℕ) : Type 0 where
  pub same : made ≡ defined.tables
  pub rest_left : drop done rest ≡ defined.left
  pub within : done ≤ length rest
  pub front : AtFront defined.text before after size
