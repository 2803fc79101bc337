-- What reading comes to after each test of the record's first two bytes. Assumes nothing.
use Prim.Native.Nat.{ℕ, suc, ◌+◌, ◌<◌}
use mathlib.Core.Path.{◌≡◌, refl}
use mathlib.Core.Bool.{true, false}
use mathlib.Core.List.{List, [], ◌∷◌}
use mathlib.Core.Option.{Option, none, some}
use native.Mathlib.Omega.{arith}
use lib.ListN.{length, get_or, drop}
use borrow.Author.Tests.{eq-eqb, ne_eqb}
use Rattle.record.specs.Layout.{Kind, stands, kind_of, gives, refuses, map_in}
use Rattle.record.specs.Read.{read, after_map, read_kind, read_fields, fields, cut, unknown, wrong_map}
use Rattle.reader.specs.Scan.{call_of, ended}

pub empty : (bs : List ℕ) → length bs ≡ 0 → read bs ≡ cut 1
unfolding read
empty [] e = refl
empty (m ∷ bs) e = absurd (omega arith)

pub bit_down : (bs : List ℕ) → 0 < length bs → stands (get_or bs 0 0) 0 ≡ false → read bs ≡ unknown
unfolding read
bit_down [] l e = absurd (omega arith)
bit_down (m ∷ bs) l e = rw e

pub no_kind_byte : (bs : List ℕ) → length bs ≡ 1 → stands (get_or bs 0 0) 0 ≡ true → read bs ≡ cut 1
unfolding read after_map
no_kind_byte [] l e = absurd (omega arith)
no_kind_byte (m ∷ []) l e = rw e
no_kind_byte (m ∷ n ∷ bs) l e = absurd (omega arith)

pub opened : (bs : List ℕ) → 1 < length bs → stands (get_or bs 0 0) 0 ≡ true
    → read bs ≡ read_kind (length bs) (get_or bs 0 0) (kind_of (get_or bs 1 0)) (drop 2 bs)
unfolding read after_map
opened [] l e = absurd (omega arith)
opened (m ∷ []) l e = absurd (omega arith)
opened (m ∷ n ∷ bs) l e =
    let one : 1 + suc (length bs) ≡ suc (suc (length bs)) = omega arith in
    rw (e, one)

module _ (total m : ℕ) (bs : List ℕ) where
  pub unknown_kind : (o : Option Kind) → refuses 2 ≡ map_in o → read_kind total m o bs ≡ unknown
  unfolding map_in read_kind
  unknown_kind none e = refl
  unknown_kind (some k) e = cc

  pub other_map : (l : ℕ) (o : Option Kind) → gives l ≡ map_in o → (l ≡ m → ⊥) → read_kind total m o bs ≡ wrong_map
  unfolding map_in read_kind
  other_map l none e h = cc
  other_map l (some k) e h =
      let d : k.map ≡ l = cc in
      rw (d, ne_eqb l m h)

  pub same_map : (l : ℕ) (o : Option Kind) → gives l ≡ map_in o → l ≡ m → read_kind total m o bs ≡ fields m (ended total o) bs
  unfolding map_in read_kind read_fields ended call_of
  same_map l none e h = cc
  same_map l (some k) e h =
      let d : k.map ≡ m = cc in
      rw (d, eq-eqb m m refl)

pub ruleset first_bytes = (empty, bit_down, no_kind_byte, opened, unknown_kind, other_map, same_map)
