-- The reader: the call in a record's bytes, or the refusal.
use Rattle.std.specs.Prelude.{ℕ, ◌+◌, ◌*◌, ◌-◌, Bool, true, false, cond, List, [], ◌∷◌, length, take, drop, eqb, ltb}
use Rattle.std.proofs.Math.Option.{Option, none, some}
use Rattle.record.specs.declared.Fields.{Fields}
use Rattle.record.specs.Call.{Call}
use Rattle.record.specs.Layout.{Kind, stands, kind_of}

-- what reading gives: a refusal's code and answer number, or a call and the record's length
pub data Reading : Type 0 where
  refused : (code number : ℕ) → Reading
  whole : Call → (used : ℕ) → Reading

-- the record ends before a field does, or is empty: so many more bytes finish that field
unfoldable pub cut : ℕ → Reading
cut missing = refused 1 missing

-- bit 0 is down, or there is no such kind
unfoldable pub unknown : Reading
unknown = refused 2 0

-- the map isn't the kind's
unfoldable pub wrong_map : Reading
wrong_map = refused 3 0

-- the number whose bytes these are, lowest first
unfoldable pub from_little : List ℕ → ℕ
from_little [] = 0
from_little (b ∷ bs) = b + 256 * from_little bs

-- n bytes, and what follows them; or how many of them are missing
unfoldable pub contents : ℕ → (List ℕ → List ℕ → Reading) → List ℕ → Reading
contents n next bs = cond (ltb (length bs) n) (cut (n - length bs)) (next (take n bs) (drop n bs))

-- a field of n bytes where its bit stands, and what follows it
unfoldable pub field : Bool → ℕ → (ℕ → List ℕ → Reading) → List ℕ → Reading
field false n next = next 0
field true n next = contents n (λ v. next (from_little v))

-- the bytes field is two fields: a count of 2 bytes, and then that many
unfoldable pub bytes_field : Bool → (List ℕ → List ℕ → Reading) → List ℕ → Reading
bytes_field here next = field here 2 (λ n. contents n next)

-- the fields after the kind, in rising bit order
unfoldable pub fields : ℕ → (Fields → List ℕ → List ℕ → Reading) → List ℕ → Reading
fields map next =
    field (stands map 1) 1 λ place.
    field (stands map 2) 8 λ identity.
    field (stands map 3) 2 λ offset.
    field (stands map 4) 2 λ size.
    field (stands map 5) 8 λ number.
    bytes_field (stands map 6)
    (next (record { place = place; identity = identity; offset = offset; length = size; number = number }))

-- a record of `total` bytes that is of this kind, from its fields on
unfoldable pub read_fields : ℕ → Kind → List ℕ → Reading
read_fields total k = fields k.map (λ f v rest. whole (k.call f v) (total - length rest))

unfoldable pub read_kind : ℕ → ℕ → Option Kind → List ℕ → Reading
read_kind total map none bs = unknown
read_kind total map (some k) bs = cond (eqb k.map map) (read_fields total k bs) wrong_map

unfoldable pub after_map : ℕ → ℕ → List ℕ → Reading
after_map total map [] = cut 1
after_map total map (n ∷ bs) = read_kind total map (kind_of n) bs

-- order: empty record 1, bit 0 down 2, no kind byte 1, kind 2, map 3, cut field 1
unfoldable pub read : List ℕ → Reading
read [] = cut 1
read (map ∷ bs) = cond (stands map 0) (after_map (1 + length bs) map bs) unknown
