-- The kinds with their maps, in one table, and the fields of a map (document 01, "Call records").
use Rattle.std.specs.Prelude.{ℕ, ◌/◌, ◌%◌, ◌^◌, Bool, cond, List, [], ◌∷◌, eqb}
use Rattle.std.proofs.Math.Option.{Option, none, some}
use Rattle.record.specs.declared.Fields.{Fields}
use Rattle.record.specs.Call.{link_by, Call, create, exit, heap_write, heap_read, shared_write, shared_read, attest, check, protect, retrieve, report, hand_over, chain, release}

-- a bit of the map stands
unfoldable pub stands : ℕ → ℕ → Bool
stands map bit = eqb (map / 2 ^ bit % 2) 1

-- a kind: its number, its one legal map, and its call, made of the fields and the bytes field
pub record Kind : Type 0 where
  pub number : ℕ
  pub map : ℕ
  pub call : Fields → List ℕ → Call

abbrev pub kind : ℕ → ℕ → (Fields → List ℕ → Call) → Kind
kind number map call = record { number = number; map = map; call = call }

-- The number in field 5 is a tag in a check, the draw in a protect, a handle in a retrieve and a release, and in a chain a
-- tag or a handle, as the first way says, which stands in the place field.
unfoldable pub kinds : List Kind
kinds =
    kind 1 0x07 (λ f v. create f.place f.identity)
    ∷ kind 4 0x01 (λ f v. exit)
    ∷ kind 5 0x4B (λ f v. heap_write f.place f.offset v)
    ∷ kind 6 0x1B (λ f v. heap_read f.place f.offset f.length)
    ∷ kind 7 0x49 (λ f v. shared_write f.offset v)
    ∷ kind 8 0x19 (λ f v. shared_read f.offset f.length)
    ∷ kind 9 0x19 (λ f v. attest f.offset f.length)
    ∷ kind 10 0x65 (λ f v. check f.identity (record { 0 = f.number }) v)
    ∷ kind 11 0x3D (λ f v. protect f.identity f.offset f.length (record { 0 = f.number }))
    ∷ kind 12 0x2D (λ f v. retrieve f.identity f.offset (record { 0 = f.number }))
    ∷ kind 13 0x01 (λ f v. report)
    ∷ kind 14 0x03 (λ f v. hand_over f.place)
    ∷ kind 15 0x67 (λ f v. chain (link_by f.place f.identity f.number) v)
    ∷ kind 16 0x25 (λ f v. release f.identity (record { 0 = f.number }))
    ∷ []

unfoldable pub among : List Kind → ℕ → Option Kind
among [] n = none
among (k ∷ ks) n = cond (eqb k.number n) (some k) (among ks n)

-- the kind of a number; none for 0, for 2 and 3, which are retired, and for 17 to 255
unfoldable pub kind_of : ℕ → Option Kind
kind_of n = among kinds n

-- what a part of the box answers: a value, or the number of a refusal
pub data OrRefusal (A : Type 0) : Type 0 where
  gives : A → OrRefusal A
  refuses : ℕ → OrRefusal A

unfoldable pub map_in : Option Kind → OrRefusal ℕ
map_in none = refuses 2
map_in (some k) = gives k.map

-- a kind's one legal map
unfoldable pub map_of : ℕ → OrRefusal ℕ
map_of n = map_in (kind_of n)
