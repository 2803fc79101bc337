-- The lengths of a record and of its fields. Assumes nothing.
use Prim.Native.Nat.{ℕ, ◌≤◌}
use mathlib.Core.Path.{◌≡◌, refl}
use mathlib.Core.Bool.{Bool, true, false, cond}
use mathlib.Core.List.{List}
use native.Mathlib.Omega.{arith}
use lib.ListN.{length, length-append}
use Rattle.record.specs.declared.Fields.{Fields}
use Rattle.record.specs.Layout.{Kind, stands}
use Rattle.record.specs.Write.{only, record_of}
use Rattle.record.specs.Size.{field_size, record_size}
use Rattle.record.proofs.LittleEndian.{length_little}

pub present : (map bit n : ℕ) → stands map bit ≡ true → field_size map bit n ≡ n
unfolding field_size
present map bit n e = rw e

pub absent : (map bit n : ℕ) → stands map bit ≡ false → field_size map bit n ≡ 0
unfolding field_size
absent map bit n e = rw e

cond_le : (b : Bool) (n : ℕ) → cond b n 0 ≤ n
cond_le true n = omega arith
cond_le false n = omega arith

size_le : (map bit n : ℕ) → field_size map bit n ≤ n
unfolding field_size
size_le map bit n = cond_le (stands map bit) n

-- the fields of fixed width
pub small : (map : ℕ)
    → (field_size map 1 1 ≤ 1) × (field_size map 2 8 ≤ 8) × (field_size map 3 2 ≤ 2) × (field_size map 4 2 ≤ 2) × (field_size map 5 8 ≤ 8)
small map = (size_le map 1 1, size_le map 2 8, size_le map 3 2, size_le map 4 2, size_le map 5 8)

length_cond : (b : Bool) (bs : List ℕ) → length (only b bs) ≡ cond b (length bs) 0
unfolding only
length_cond true bs = refl
length_cond false bs = refl

pub length_only : (map bit : ℕ) (bs : List ℕ) → length (only (stands map bit) bs) ≡ field_size map bit (length bs)
unfolding field_size
length_only map bit bs = length_cond (stands map bit) bs

pub length_record : (k : Kind) (f : Fields) (v : List ℕ) → length (record_of k f v) ≡ record_size k.map (length v)
unfolding record_of record_size
length_record k f v = simp (length-append, length_only, length_little) (omega arith)
