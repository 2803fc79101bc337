-- The records of a script, by the reader alone. The proofs are in proofs/Scripts.antt.
use Rattle.std.specs.Prelude.{ℕ, zero, suc, ◌≤◌, ◌≡◌, Bool, cond, ◌||◌, List, [], ◌∷◌, length, drop, eqb}
use Rattle.record.specs.Read.{Reading, refused, whole, read}
use Rattle.ideal.specs.declared.Profile.{Profile}
use Rattle.ideal.specs.Step.{Answer}
use Rattle.ideal.specs.Tables.{Tables}
use Rattle.ideal.specs.Box.{Element, given}
use Rattle.ideal.specs.LevelOne.{box_of}
use Rattle.ideal.specs.Layouts.{Sound}

-- what is left behind the record at the front: nothing where the reader refuses it, with 1, 2 or 3
unfoldable pub behind : Reading → List ℕ → List ℕ
behind (refused code number) rest = []
behind (whole c used) rest = drop used rest

abbrev pub left_after : List ℕ → List ℕ
left_after rest = behind (read rest) rest

module _ (output_size : ℕ) where
  -- A call a record, until no input is left; at most n. Each is given all that is left of the script, as a host gives it.
  unfoldable pub records_from : ℕ → List ℕ → List Element
  records_from zero rest = []
  records_from (suc n) [] = []
  records_from (suc n) (b ∷ bs) = given (b ∷ bs) output_size ∷ records_from n (left_after (b ∷ bs))

  -- a record that is not the last uses a byte at least, so there are no more records than bytes
  abbrev pub records_of : List ℕ → List Element
  records_of script = records_from (length script) script

-- none is missing: the first, and those of what is left behind it
abbrev pub RecordByRecord : Type 0
RecordByRecord = (size b : ℕ) (bs : List ℕ)
    → records_of size (b ∷ bs) ≡ given (b ∷ bs) size ∷ records_of size (left_after (b ∷ bs))

-- ---- the same by the answers of either box

-- a line with 1, 2 or 3 is the last
unfoldable pub last_code : ℕ → Bool
last_code n = eqb n 1 || (eqb n 2 || eqb n 3)

unfoldable pub stops : Answer → Bool
stops a = last_code a.code

-- a script stops after an answer with 1, 2 or 3, and else goes on behind the bytes used
abbrev pub StopsAsAnswered : Type 0
StopsAsAnswered = (p : Profile) (t : Tables) (e : Element) → Sound t e.output_size
    → let a = (box_of p t e).answer in
    left_after e.bytes ≡ cond (stops a) [] (drop a.used e.bytes)

-- no record uses bytes that are not there
abbrev pub UsesWithin : Type 0
UsesWithin = (p : Profile) (t : Tables) (e : Element) → Sound t e.output_size → (box_of p t e).answer.used ≤ length e.bytes
