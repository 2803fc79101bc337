-- The table of kinds and a call's fields are inverse to each other. Assumes nothing.
use Prim.Native.Nat.{ℕ}
use mathlib.Core.Path.{◌≡◌, refl, ap}
use mathlib.Core.Bool.{Bool, true, false, cond}
use mathlib.Core.List.{List, [], ◌∷◌, ◌++◌}
use mathlib.Core.Option.{some}
use native.Mathlib.Omega.{arith}
use lib.Dec.{eqb}
use lib.ListN.{length}
use borrow.Author.Tests.{eqb-true, eqb-false, ne_eqb}
use Rattle.fnv.specs.Fnv.{little}
use Rattle.record.specs.declared.Fields.{Fields}
use Rattle.record.specs.Call.{Link, logged_link, escrowed_link, stray_link, link_by, way_of, identity_of, number_of, Call, create, exit, heap_write, heap_read, shared_write, shared_read, attest, check, protect, retrieve, report, hand_over, chain, release, first_in}
use Rattle.record.specs.Layout.{Kind, stands, kinds, among, kind_of}
use Rattle.record.specs.Write.{only, record_of, fill, filled, record_in, write}
use Rattle.record.specs.Statements.{ByItsWay}
use Rattle.record.proofs.FieldLaws.{kept, by_cases}

-- a row is found by its number, bit 0 of its map stands, and its call has the fields of its map, all of them and no others
pub record Row (k : Kind) : Type 0 where
  pub found : kind_of k.number ≡ some k
  pub first : stands k.map 0 ≡ true
  pub fills : (f : Fields) (v : List ℕ)
      → filled (k.call f v) ≡ record { kind = k.number; fields = kept k.map f; bytes = only (stands k.map 6) v }
  pub way : (f : Fields) (v : List ℕ) → ByItsWay (first_in (k.call f v))

-- each of the list is a row
data Rows : List Kind → Type 0 where
  no_more : Rows []
  and : {k : Kind} {ks : List Kind} → Row k → Rows ks → Rows (k ∷ ks)

-- the link that numbers name has these numbers, and is by its way
pub record Named (w i x : ℕ) : Type 0 where
  pub way : way_of (link_by w i x) ≡ w
  pub identity : identity_of (link_by w i x) ≡ i
  pub number : number_of (link_by w i x) ≡ x
  pub right : ByItsWay (some (link_by w i x))

pub named : (w i x : ℕ) → Named w i x
unfolding link_by way_of identity_of number_of ByItsWay
named w i x =
    by_cases (eqb w 2)
    (λ e. let two = eqb-true w 2 e in rw two (record { way = refl; identity = refl; number = refl; right = tt }))
    (λ e.
    by_cases (eqb w 3)
    (λ f. let three = eqb-true w 3 f in rw three (record { way = refl; identity = refl; number = refl; right = tt }))
    (λ f. record { way = rw (e, f); identity = rw (e, f); number = rw (e, f); right = rw (e, f) (eqb-false w 2 e, eqb-false w 3 f) }))

-- a link that is by its way is the one that its numbers name
by_numbers : (k : Link) → ByItsWay (some k) → link_by (way_of k) (identity_of k) (number_of k) ≡ k
unfolding link_by way_of identity_of number_of ByItsWay
by_numbers (logged_link i g) h = refl
by_numbers (escrowed_link i g) h = refl
by_numbers (stray_link w i x) h = rw (ne_eqb w 2 h.0, ne_eqb w 3 h.1)

chain_fills : (w i x : ℕ) (v : List ℕ) → filled (chain (link_by w i x) v) ≡ fill 15 w i 0 0 x v
unfolding filled
chain_fills w i x v = let n = named w i x in rw (n.way, n.identity, n.number)

by_way : (w i x : ℕ) → ByItsWay (some (link_by w i x))
by_way w i x = (named w i x).right

rows : Rows kinds
unfolding kind_of among kinds stands filled kept only first_in ByItsWay
rows = search (and, no_more, chain_fills, by_way) depth 20

row_among : {ks : List Kind} (n : ℕ) {k : Kind} → Rows ks → among ks n ≡ some k → Row k × (k.number ≡ n)
unfolding among
row_among n no_more e = let z : ◌≡◌ {A = ℕ} 0 1 = cc in absurd (omega arith)
row_among n {k} (and {k = k'} row rows) e =
    by_cases (eqb k'.number n)
    (λ t. let e' = rw t at e in let same : k' ≡ k = cc in rw (← same) (row, eqb-true _ _ t))
    (λ t. row_among n rows (rw t at e))

pub row_of : {n : ℕ} {k : Kind} → kind_of n ≡ some k → Row k × (k.number ≡ n)
unfolding kind_of
row_of e = row_among _ rows e

-- a call is what its kind makes of its fields
pub made : (c : Call) → ByItsWay (first_in c)
    → (k : Kind) × (kind_of (filled c).kind ≡ some k) × (k.call (filled c).fields (filled c).bytes ≡ c)
unfolding kind_of among kinds filled first_in
made (create p i) h = (_, refl, refl)
made exit h = (_, refl, refl)
made (heap_write p o v) h = (_, refl, refl)
made (heap_read p o n) h = (_, refl, refl)
made (shared_write o v) h = (_, refl, refl)
made (shared_read o n) h = (_, refl, refl)
made (attest o n) h = (_, refl, refl)
made (check i g v) h = (_, refl, refl)
made (protect i o n d) h = (_, refl, refl)
made (retrieve i o a) h = (_, refl, refl)
made report h = (_, refl, refl)
made (hand_over p) h = (_, refl, refl)
made (chain k v) h = (_, refl, ap (λ l. chain l v) (by_numbers k h))
made (release i a) h = (_, refl, refl)

-- a field that its map lacks is not written, whatever stands in it
kept_number : (here : Bool) (n x : ℕ) → only here (little n (cond here x 0)) ≡ only here (little n x)
unfolding only
kept_number true n x = refl
kept_number false n x = refl

kept_bytes : (here : Bool) (v : List ℕ) → only here (little 2 (length (only here v)) ++ only here v) ≡ only here (little 2 (length v) ++ v)
unfolding only
kept_bytes true v = refl
kept_bytes false v = refl

-- what a call drops of the fields, its record lacks
pub written : (k : Kind) → Row k → (f : Fields) (v : List ℕ) → write (k.call f v) ≡ record_of k f v
unfolding write record_in record_of kept
written k row f v = rw (row.fills f v, row.found, kept_bytes) (simp kept_number)
