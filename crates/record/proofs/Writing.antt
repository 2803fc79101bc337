-- What the writer's definition says of a kind, by the kind's map. Assumes nothing.
use Prim.Native.Nat.{ℕ}
use mathlib.Core.Path.{◌≡◌, refl}
use mathlib.Core.Bool.{cond, ◌||◌}
use mathlib.Core.List.{List}
use mathlib.Core.Option.{Option, none, some}
use native.Mathlib.Omega.{arith}
use lib.ListN.{length}
use lib.Dec.{ltb}
use Rattle.record.specs.declared.Fields.{Fields}
use Rattle.record.specs.Layout.{Kind, kind, kind_of, gives, refuses, map_in, map_of}
use Rattle.record.specs.Call.{report}
use Rattle.record.specs.Write.{record_of, record_in, refused_write, placed, write_kind, write_on, too_many}
use Rattle.record.specs.Size.{record_size}
use Rattle.record.proofs.KindRows.{row_of, written}
use Rattle.record.proofs.Sizes.{length_record}

pub write_unknown : (n : ℕ) (f : Fields) (v d : List ℕ) → map_of n ≡ refuses 2 → write_on n f v d ≡ refused_write 2 d
unfolding write_on write_kind map_of map_in
write_unknown n f v d = from (kind_of n)
  where
    from : (o : Option Kind) → map_in o ≡ refuses 2 → write_kind o f v d ≡ refused_write 2 d
    from none e = refl
    from (some k) e = cc

-- the kind of the number n, whose map is m
record Known (n m : ℕ) : Type 0 where
  kind : Kind
  is : kind_of n ≡ some kind
  map : kind.map ≡ m

known_kind : (n : ℕ) {m : ℕ} → map_of n ≡ gives m → Known n m
unfolding map_of map_in
known_kind n {m} = from (kind_of n) refl
  where
    from : (o : Option Kind) → kind_of n ≡ o → map_in o ≡ gives m → Known n m
    from none i e = let q : ◌≡◌ {A = ℕ} 0 1 = cc in absurd (omega (arith, q))
    from (some k) i e = record { kind = k; is = i; map = cc }

module _ (n : ℕ) {m : ℕ} (known : map_of n ≡ gives m) (f : Fields) (v : List ℕ) where
  -- the tests, and the record where they pass
  pub write_known : (d : List ℕ) → write_on n f v d
      ≡ cond (too_many m (length v) || ltb (length d) (record_size m (length v))) (refused_write 17 d) (placed (record_in (kind_of n) f v) d)
  unfolding write_on write_kind record_in
  write_known d = let r = known_kind n known in rw (r.is, written r.kind (row_of r.is).0 f v, length_record, r.map)

  -- a record depends on its kind's number and map alone
  pub record_laid : record_in (kind_of n) f v ≡ record_of (kind n m (λ f v. report)) f v
  unfolding record_in record_of
  record_laid = let r = known_kind n known in rw (r.is, (row_of r.is).1, r.map)

  pub length_laid : length (record_in (kind_of n) f v) ≡ record_size m (length v)
  length_laid = rw (record_laid, length_record)
