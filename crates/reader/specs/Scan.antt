-- What the reader's parts find, by positions in the record.
use Rattle.std.specs.Prelude.{ℕ, ◌+◌, ◌-◌, ◌≤◌, ◌<◌, ◌^◌, Bool, true, false, cond, Result, Ok, Err, List, length, take, drop, ltb}
use Rattle.std.proofs.Math.Option.{Option, none, some}
use Rattle.reader.specs.declared.Missing.{Missing}
use Rattle.record.specs.declared.Fields.{Fields}
use Rattle.record.specs.declared.Part.{Part}
use Rattle.record.specs.Call.{Call, report}
use Rattle.record.specs.Layout.{Kind, stands, kind_of}
use Rattle.record.specs.Read.{Reading, whole, from_little, contents, fields}

-- what a part of the reader finds: a value, or that so many bytes are missing
pub data OrCut (A : Type 0) : Type 0 where
  reads : A → OrCut A
  misses : ℕ → OrCut A

-- what each case of a field's answer stands for: its number and the position after it, or the bytes it misses
abbrev pub taken_in : Result (ℕ × ℕ) Missing → OrCut (ℕ × ℕ)
taken_in (Ok p) = reads p
taken_in (Err missing) = misses missing.0

-- a field of n bytes at a position: its number, 0 where its bit is down, and the position after it
unfoldable pub field_at : List ℕ → ℕ → Bool → ℕ → OrCut (ℕ × ℕ)
field_at bs at false n = reads (0, at)
field_at bs at true n =
    let there = length bs - at in
    cond (ltb there n) (misses (n - there)) (reads (from_little (take n (drop at bs)), at + n))

-- the number fits n bytes, and the position lies within the record
abbrev pub TakenWithin : List ℕ → ℕ → Result (ℕ × ℕ) Missing → Type 0
TakenWithin bs n (Ok p) = (p.0 < 256 ^ n) × (p.1 ≤ length bs)
TakenWithin bs n (Err missing) = Unit {0}

-- the same of three fields
abbrev pub three_in : Result (ℕ × ℕ × ℕ × ℕ) Missing → OrCut (ℕ × ℕ × ℕ × ℕ)
three_in (Ok p) = reads p
three_in (Err missing) = misses missing.0

-- what follows a value, unless it is cut
abbrev pub after : {A B : Type 0} → OrCut A → (A → OrCut B) → OrCut B
after (reads a) next = next a
after (misses n) next = misses n

-- three fields in a row, of n, 8 and 2 bytes, the first at the map's bit `bit`
unfoldable pub three_at : List ℕ → ℕ → ℕ → ℕ → ℕ → OrCut (ℕ × ℕ × ℕ × ℕ)
three_at bs at map bit n =
    after (field_at bs at (stands map bit) n) λ x.
    after (field_at bs x.1 (stands map (bit + 1)) 8) λ y.
    after (field_at bs y.1 (stands map (bit + 2)) 2) λ z. reads (x.0, y.0, z.0, z.1)

-- the first and the third number fit, and the position lies within the record
abbrev pub ThreeWithin : List ℕ → ℕ → Result (ℕ × ℕ × ℕ × ℕ) Missing → Type 0
ThreeWithin bs n (Ok p) = (p.0 < 256 ^ n) × (p.2 < 256 ^ 2) × (p.3 ≤ length bs)
ThreeWithin bs n (Err missing) = Unit {0}

-- a kind's call; a report where there is no such kind
unfoldable pub call_of : Option Kind → Fields → List ℕ → Call
call_of none f v = report
call_of (some k) f v = k.call f v

-- the reading of a record of `total` bytes and of this kind, once its fields are read
unfoldable pub ended : ℕ → Option Kind → Fields → List ℕ → List ℕ → Reading
ended total o f v rest = whole (call_of o f v) (total - length rest)

-- the reading, from the contents of its bytes field on, of a record of kind n
unfoldable pub contents_in : List ℕ → ℕ → Fields → Part → Reading
contents_in bs n f p = contents p.count (ended (length bs) (kind_of n) f) (drop p.start bs)

-- the reading, from the fields on, of a record of kind n whose map is the kind's
unfoldable pub fields_in : List ℕ → ℕ → ℕ → Reading
fields_in bs map n = fields map (ended (length bs) (kind_of n)) (drop 2 bs)
