-- A declared type that is plain data, as the walks over rows ask it: what they prove holds of every such type.
--     R, by_val, ref     its row, its MIR type where it is held by value, and as a reference to it names it
--     val, vals        its machine value
--     offset_fits      the offset of element i of a slice that has room fits a usize
--     row_laws, copied    the laws of what a `&` to one holds, and of one that is Copy
--     bound, silent    a function that takes one by value binds and says nothing of it at its exit
-- Assumes nothing.
use mathlib.Core.Path.{◌≡◌, refl, sym, subst}
use Prim.Native.Nat.{ℕ, ◌<◌, ◌*◌, ◌^◌}
use native.Mathlib.Nat.{lt_trans, lt_of_le_of_lt, le_of_lt, mul-le-mul_right}
use mathlib.Core.List.{List}
use lib.Dec.{T, ltb, lit<}
use Rattle.lending.proofs.Walk.{Ura, Ty, Val, ftrue, size, RattleType, Is, Tells, Makes, Lawful, Copy, Exit, Last, left, yes, pointee, Room, Plains, Declared, fields}
use types.Logic.{Logic}
use denote.RattleType.{RowLaws}
use denote.Struct.Recorded.{Recorded-row_laws}
use denote.Struct.Struct.{layout, Struct, Struct-row_laws}
use denote.Struct.Declared.{shape, row}
use denote.Copied.{Copied}
use denote.Struct.Laws as LL

pub record Kind : Type 2 where
  pub type : Declared
  pub laws : LL.Laws type
  pub facts : Plains (fields type)
  pub copies : LL.Copyables type.parts
  pub small : T (ltb (size (layout (shape type))) (2 ^ 64))

module _ (k : Kind) where
  abbrev pub R : RattleType
  R = row k.type

  abbrev pub by_val : Ty
  by_val = layout (shape k.type)

  abbrev pub ref : Ty
  ref = pointee R.written

  abbrev pub val : k.type.D → Val
  val = LL.val k.type k.laws

  abbrev pub vals : k.type.D → List Val
  vals = LL.vals k.type k.laws

  pub tells : Tells R (Is R) vals
  tells = LL.tells k.type k.laws

  pub offset_fits : (i n : ℕ) → i < n → Room R n → i * size by_val < 2 ^ 64
  offset_fits i n less room = lt_trans (lt_of_le_of_lt (mul-le-mul_right (size by_val) (le_of_lt less)) room.1) (lit< tt)

  pub bound : (v : k.type.D) → Last (R.exit yes) v
  bound v = subst (λ (e : Exit k.type.D). Last e v) (sym (LL.still k.type k.copies yes)) tt

  pub silent : (v : k.type.D) (f : Last (R.exit yes) v) → left (R.exit yes) v f ≡ ftrue
  silent v = subst (λ (e : Exit k.type.D). (f : Last e v) → left e v f ≡ ftrue) (sym (LL.still k.type k.copies yes)) (λ f. refl)

  pub row_laws : RowLaws R
  row_laws = Recorded-row_laws (Struct (shape k.type)) k.type.D k.type.to k.type.to_one (Struct-row_laws (shape k.type) (LL.copy_row_laws k.type.parts k.copies))

  module _ {M : Type 1} {𝓤 : Ura M} (𝓛 : Logic 𝓤) where
    pub makes : Makes 𝓛 R (Is R)
    makes = LL.makes k.type k.facts 𝓛

    pub lawful : Lawful 𝓛 R
    lawful = LL.lawful k.type k.laws 𝓛

    pub copy : Copy 𝓛 R
    copy = LL.copy k.type k.copies 𝓛

    pub copied : Copied 𝓛 R
    copied = LL.copied k.type k.copies 𝓛
