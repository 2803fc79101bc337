-- The fields of a record, each way: a written field is read back, and a field that was read was so written. Assumes nothing.
use Prim.Native.Nat.{ℕ, ◌+◌, ◌-◌, ◌^◌, ◌≤◌, ◌<◌}
use mathlib.Core.Path.{◌≡◌, refl, sym, ◌∙◌}
use mathlib.Core.Bool.{Bool, true, false, cond}
use mathlib.Core.List.{List, [], ◌∷◌, ◌++◌, append_assoc}
use native.Mathlib.Nat.{one-le-pow}
use native.Mathlib.Omega.{arith}
use lib.Dec.{ltb}
use lib.ListN.{length, take, drop, length-append, length-take, length-drop, take-append-drop}
use lib.Seq.{take_at, drop_at, length-take-le, get_or-take, get_or-drop}
use borrow.Author.Tests.{le-ltb, ltb-false}
use Rattle.fnv.specs.Fnv.{little}
use Rattle.record.specs.declared.Fields.{Fields}
use Rattle.record.specs.Call.{Call}
use Rattle.record.specs.Layout.{Kind, stands}
use Rattle.record.specs.Read.{Reading, refused, whole, cut, from_little, field, contents, bytes_field, fields}
use Rattle.record.specs.Write.{only, record_of}
use Rattle.record.specs.Statements.{Fit, Bytes}
use Rattle.record.proofs.LittleEndian.{length_little, from_little_lem, little_from, from_below}

-- a record's bytes after its map and its kind
unfoldable pub field_bytes : Kind → Fields → List ℕ → List ℕ
field_bytes k f v = drop 2 (record_of k f v)

-- the fields of a map, with 0 in those that it lacks
unfoldable pub kept : ℕ → Fields → Fields
kept map f =
    record {
      place = cond (stands map 1) f.place 0;
      identity = cond (stands map 2) f.identity 0;
      offset = cond (stands map 3) f.offset 0;
      length = cond (stands map 4) f.length 0;
      number = cond (stands map 5) f.number 0;
    }

-- from what is written to what is read

field_back : (here : Bool) (n x : ℕ) (next : ℕ → List ℕ → Reading) (rest : List ℕ)
    → x < 256 ^ n
    → field here n next (only here (little n x) ++ rest) ≡ next (cond here x 0) rest
unfolding field contents only
field_back false n x next rest h = refl
field_back true n x next rest h =
    let l = length_little n x in
    let enough : n ≤ length (little n x ++ rest) = omega (arith, length-append (little n x) rest) in
    rw (le-ltb _ _ enough, take_at _ rest n l, drop_at _ rest n l, from_little_lem n x h)

contents_back : (v : List ℕ) (next : List ℕ → List ℕ → Reading) (rest : List ℕ)
    → contents (length v) next (v ++ rest) ≡ next v rest
unfolding contents
contents_back v next rest =
    let enough : length v ≤ length (v ++ rest) = omega (arith, length-append v rest) in
    rw (le-ltb _ _ enough, take_at v rest _ refl, drop_at v rest _ refl)

bytes_back : (here : Bool) (v : List ℕ) (next : List ℕ → List ℕ → Reading) (rest : List ℕ)
    → length v < 65536
    → bytes_field here next (only here (little 2 (length v) ++ v) ++ rest) ≡ next (only here v) rest
unfolding bytes_field field only
bytes_back false v next rest h = contents_back [] next rest
bytes_back true v next rest h =
    rw append_assoc (field_back true 2 (length v) (λ n. contents n next) (v ++ rest) h ∙ contents_back v next rest)

pub fields_back : (k : Kind) (f : Fields) (v : List ℕ) (next : Fields → List ℕ → List ℕ → Reading) (rest : List ℕ)
    → Fit f v
    → fields k.map next (field_bytes k f v ++ rest) ≡ next (kept k.map f) (only (stands k.map 6) v) rest
unfolding fields field_bytes record_of kept
fields_back k f v next rest fit =
    simp append_assoc
    (field_back _ 1 _ _ _ fit.place
    ∙ field_back _ 8 _ _ _ fit.identity
    ∙ field_back _ 2 _ _ _ fit.offset
    ∙ field_back _ 2 _ _ _ fit.size
    ∙ field_back _ 8 _ _ _ fit.number
    ∙ bytes_back _ v _ rest fit.count)

-- From what was read to what stood there. Each law hands what it finds to `go`, as the reader hands it to `next`.

pub by_cases : {P : Type 0} (b : Bool) → (b ≡ true → P) → (b ≡ false → P) → P
by_cases true t f = t refl
by_cases false t f = f refl

pub not_refused : {P : Type 0} {code number used : ℕ} {c : Call} → refused code number ≡ whole c used → P
not_refused e = let z : ◌≡◌ {A = ℕ} 0 1 = cc in absurd (omega arith)

uncut : (n : ℕ) (bs : List ℕ) (r : Reading) {c : Call} {used : ℕ}
    → cond (ltb (length bs) n) (cut (n - length bs)) r ≡ whole c used
    → (n ≤ length bs) × (r ≡ whole c used)
unfolding cut
uncut n bs r e =
    by_cases (ltb (length bs) n) (λ t. not_refused (rw t at e)) (λ t. (ltb-false _ _ t, rw t at e))

bytes_take : (n : ℕ) (bs : List ℕ) → Bytes bs → Bytes (take n bs)
bytes_take n bs h k l =
    let low : k < n = omega (arith, length-take n bs) in
    rw (get_or-take n bs k 0 low) (h k (omega (arith, length-take n bs)))

bytes_drop : (n : ℕ) (bs : List ℕ) → Bytes bs → Bytes (drop n bs)
bytes_drop n bs h k l = rw get_or-drop (h (n + k) (omega (arith, length-drop n bs)))

-- bs is a field of n bytes that holds x, where its bit stands, and then rest
record Begins (here : Bool) (n : ℕ) (bs : List ℕ) (x : ℕ) (rest : List ℕ) : Type 0 where
  split : bs ≡ only here (little n x) ++ rest
  below : x < 256 ^ n
  absent : cond here x 0 ≡ x
  bytes : Bytes rest

field_from : {P : Type 0} {here : Bool} {n : ℕ} {next : ℕ → List ℕ → Reading} {bs : List ℕ} {c : Call} {used : ℕ}
    → Bytes bs
    → field here n next bs ≡ whole c used
    → ((x : ℕ) (rest : List ℕ) → Begins here n bs x rest → next x rest ≡ whole c used → P)
    → P
unfolding field contents only
field_from {here = false} {n} {bs} h e go =
    go 0 bs (record { split = refl; below = one-le-pow n 256 (omega arith); absent = refl; bytes = h }) e
field_from {here = true} {n} {bs} h e go =
    let u = uncut n bs _ e in
    let l = length-take-le n bs u.0 in
    let b = bytes_take n bs h in
    go
    (from_little (take n bs))
    (drop n bs)
    (record {
      split = sym (rw (rw l at (little_from (take n bs) b)) (take-append-drop n bs));
      below = rw l at (from_below (take n bs) b);
      absent = refl;
      bytes = bytes_drop n bs h;
    })
    u.1

-- the same of the bytes field
record BeginsBytes (here : Bool) (bs v rest : List ℕ) : Type 0 where
  split : bs ≡ only here (little 2 (length v) ++ v) ++ rest
  below : length v < 65536
  absent : only here v ≡ v

no_bytes : (here : Bool) (v : List ℕ) → cond here (length v) 0 ≡ length v → only here v ≡ v
unfolding only
no_bytes true v e = refl
no_bytes false [] e = refl
no_bytes false (x ∷ v) e = absurd (omega arith)

only_append : (here : Bool) (a v : List ℕ) → only here v ≡ v → only here (a ++ v) ≡ only here a ++ v
unfolding only
only_append true a v e = refl
only_append false a v e = e

bytes_from : {P : Type 0} {here : Bool} {next : List ℕ → List ℕ → Reading} {bs : List ℕ} {c : Call} {used : ℕ}
    → Bytes bs
    → bytes_field here next bs ≡ whole c used
    → ((v rest : List ℕ) → BeginsBytes here bs v rest → next v rest ≡ whole c used → P)
    → P
unfolding bytes_field contents
bytes_from {here} h e go =
    field_from h e λ n bs' count e'.
    let u = uncut n bs' _ e' in
    let v = take n bs' in
    let l = length-take-le n bs' u.0 in
    let absent = no_bytes here v (rw l count.absent) in
    go
    v
    (drop n bs')
    (record {
      split = rw (only_append here _ v absent, append_assoc, l, take-append-drop) count.split;
      below = rw l count.below;
      absent = absent;
    })
    u.1

-- the same of all fields of a kind's map
pub record BeginsFields (k : Kind) (bs : List ℕ) (f : Fields) (v rest : List ℕ) : Type 0 where
  pub split : bs ≡ field_bytes k f v ++ rest
  pub fit : Fit f v
  pub absent : kept k.map f ≡ f
  pub absent_bytes : only (stands k.map 6) v ≡ v

pub fields_from : {P : Type 0} (k : Kind) {next : Fields → List ℕ → List ℕ → Reading} {bs : List ℕ} {c : Call} {used : ℕ}
    → Bytes bs
    → fields k.map next bs ≡ whole c used
    → ((f : Fields) (v rest : List ℕ) → BeginsFields k bs f v rest → next f v rest ≡ whole c used → P)
    → P
unfolding fields field_bytes record_of kept
fields_from k h e go =
    field_from h e λ place b1 p e1.
    field_from p.bytes e1 λ identity b2 i e2.
    field_from i.bytes e2 λ offset b3 o e3.
    field_from o.bytes e3 λ size b4 s e4.
    field_from s.bytes e4 λ number b5 n e5.
    bytes_from n.bytes e5 λ v rest b e6.
    go
    (record { place = place; identity = identity; offset = offset; length = size; number = number })
    v
    rest
    (record {
      split = rw (p.split, i.split, o.split, s.split, n.split, b.split) (simp append_assoc);
      fit =
          record {
            place = p.below;
            identity = i.below;
            offset = o.below;
            size = s.below;
            number = n.below;
            count = b.below;
          };
      absent = rw (p.absent, i.absent, o.absent, s.absent, n.absent);
      absent_bytes = b.absent;
    })
    e6
