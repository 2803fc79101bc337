-- Lists stored element by element, `sets`, one after the other. Assumes nothing.
use Prim.Native.Nat.{ℕ, suc, ◌+◌, ◌≤◌}
use mathlib.Core.Path.{◌≡◌}
use mathlib.Core.List.{List, [], ◌∷◌, ◌++◌}
use native.Mathlib.Nat.{add-zero, add-suc, suc-add, zero-add}
use lib.ListN.{length, drop, set}
use lib.Seq.{sets, sets-eq}
use Rattle.fnv.specs.Fnv.{little}
use Rattle.record.specs.Layout.{stands}
use Rattle.record.specs.Write.{only}
use Rattle.record.specs.Size.{field_size}
use Rattle.record.proofs.LittleEndian.{length_little}
use Rattle.record.proofs.Sizes.{length_only}

-- a second list behind the first
pub sets_append : (a b d : List ℕ) (at : ℕ) → sets d at (a ++ b) ≡ sets (sets d at a) (at + length a) b
sets_append [] b d at = rw add-zero
sets_append (x ∷ a) b d at = rw (sets_append a b (set d at x) (suc at), add-suc, suc-add)

-- a field, and what stands behind it
pub put_next : (d : List ℕ) (at map bit n x : ℕ) (rest : List ℕ)
    → sets d at (only (stands map bit) (little n x) ++ rest)
    ≡ sets (sets d at (only (stands map bit) (little n x))) (at + field_size map bit n) rest
put_next d at map bit n x rest = rw (sets_append, length_only, length_little)

-- a list that fits, stored from the front
pub sets_front : (r d : List ℕ) → length r ≤ length d → sets d 0 r ≡ r ++ drop (length r) d
sets_front r d h = rw (sets-eq r d 0 (rw zero-add h), zero-add)
