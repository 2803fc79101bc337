-- What the reader gives: a refusal after which a sheet ends, or a record of 2 bytes at least and no more than there are.
-- Assumes nothing.
use Prim.Native.Nat.{ℕ, ◌+◌, ◌≤◌}
use mathlib.Core.Path.{◌≡◌, refl}
use mathlib.Core.Bool.{Bool, true, false, cond}
use mathlib.Core.List.{List, [], ◌∷◌}
use mathlib.Core.Option.{Option, none, some}
use native.Mathlib.Omega.{arith}
use lib.ListN.{length, take, drop, length-drop}
use lib.Dec.{eqb, ltb}
use Rattle.record.specs.Call.{Call}
use Rattle.record.specs.Layout.{Kind, stands, kind_of}
use Rattle.record.specs.Read.{Reading, refused, whole, cut, unknown, wrong_map, from_little, field, contents, bytes_field, fields, read_fields, read_kind, after_map, read}
use Rattle.lists.proofs.Bools.{by_cases}
use Rattle.sheet.specs.Records.{last_code}

-- of a record in at most so many bytes
pub data Ends (most : ℕ) : Reading → Type 0 where
  last : {code number : ℕ} → last_code code ≡ true → Ends most (refused code number)
  read_on : {c : Call} {used : ℕ} → 2 ≤ used → used ≤ most → Ends most (whole c used)

-- cut, or what follows
uncut : {most : ℕ} (b : Bool) (n : ℕ) (r : Reading) → Ends most r → Ends most (cond b (cut n) r)
unfolding cut last_code
uncut true n r h = last refl
uncut false n r h = h

-- what follows them is no longer than they and what follows them
contents_ends : {most : ℕ} (n : ℕ) (next : List ℕ → List ℕ → Reading) (bs : List ℕ)
    → ((v rest : List ℕ) → length rest ≤ length bs → Ends most (next v rest)) → Ends most (contents n next bs)
unfolding contents
contents_ends n next bs go = uncut (ltb (length bs) n) _ _ (go (take n bs) (drop n bs) (omega (arith, length-drop n bs)))

field_ends : {most : ℕ} (here : Bool) (n : ℕ) (next : ℕ → List ℕ → Reading) (bs : List ℕ)
    → ((x : ℕ) (rest : List ℕ) → length rest ≤ length bs → Ends most (next x rest)) → Ends most (field here n next bs)
unfolding field
field_ends false n next bs go = go 0 bs (omega arith)
field_ends true n next bs go = contents_ends n (λ v. next (from_little v)) bs (λ v rest l. go (from_little v) rest l)

fields_end : {most : ℕ} (total : ℕ) (k : Kind) (bs : List ℕ) → 2 + length bs ≤ total → total ≤ most → Ends most (read_fields total k bs)
unfolding read_fields fields bytes_field
fields_end total k bs h m =
    let map = k.map in
    field_ends (stands map 1) 1 _ bs λ place b1 l1.
    field_ends (stands map 2) 8 _ b1 λ identity b2 l2.
    field_ends (stands map 3) 2 _ b2 λ offset b3 l3.
    field_ends (stands map 4) 2 _ b3 λ size b4 l4.
    field_ends (stands map 5) 8 _ b4 λ number b5 l5.
    field_ends (stands map 6) 2 _ b5 λ count b6 l6.
    contents_ends count _ b6 λ v rest l7. read_on (omega arith) (omega arith)

kind_ends : {most : ℕ} (total map : ℕ) (o : Option Kind) (bs : List ℕ) → 2 + length bs ≤ total → total ≤ most → Ends most (read_kind total map o bs)
unfolding read_kind unknown wrong_map last_code
kind_ends total map none bs h m = last refl
kind_ends total map (some k) bs h m =
    by_cases (eqb k.map map) (λ e. rw e (fields_end total k bs h m)) (λ e. rw e (last refl))

pub read_ends : (bs : List ℕ) → Ends (length bs) (read bs)
unfolding read after_map cut unknown last_code
read_ends [] = last refl
read_ends (map ∷ []) = by_cases (stands map 0) (λ e. rw e (last refl)) (λ e. rw e (last refl))
read_ends (map ∷ n ∷ bs) =
    by_cases (stands map 0) (λ e. rw e (kind_ends _ map (kind_of n) bs (omega arith) (omega arith))) (λ e. rw e (last refl))
