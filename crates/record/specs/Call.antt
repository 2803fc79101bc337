-- A call: a kind and the fields of its map, no others. A bytes field is a list.
use Rattle.std.specs.Prelude.{ℕ, cond, List, eqb}
use Rattle.std.proofs.Math.Option.{Option, none, some}
use Rattle.fnv.specs.declared.Tag.{Tag}
use Rattle.record.specs.declared.Handle.{Handle}
use Rattle.record.specs.declared.Draw.{Draw}

-- a link of a chain, as a record or a head names it: logged, with its tag (way 2), escrowed, with its handle (way 3), or of
-- another way, which no link has
pub data Link : Type 0 where
  logged_link : (identity : ℕ) (tag : Tag) → Link
  escrowed_link : (identity : ℕ) (handle : Handle) → Link
  stray_link : (way identity number : ℕ) → Link

-- the link that these numbers name
unfoldable pub link_by : (way identity number : ℕ) → Link
link_by way identity number =
    let logged = logged_link identity (record { 0 = number }) in
    let escrowed = escrowed_link identity (record { 0 = number }) in
    cond (eqb way 2) logged (cond (eqb way 3) escrowed (stray_link way identity number))

-- and the numbers of a link
unfoldable pub way_of : Link → ℕ
way_of (logged_link i g) = 2
way_of (escrowed_link i h) = 3
way_of (stray_link w i x) = w

unfoldable pub identity_of : Link → ℕ
identity_of (logged_link i g) = i
identity_of (escrowed_link i h) = i
identity_of (stray_link w i x) = i

unfoldable pub number_of : Link → ℕ
number_of (logged_link i g) = g.0
number_of (escrowed_link i h) = h.0
number_of (stray_link w i x) = x

pub data Call : Type 0 where
  create : (place identity : ℕ) → Call
  exit : Call
  heap_write : (place offset : ℕ) (bytes : List ℕ) → Call
  heap_read : (place offset size : ℕ) → Call
  shared_write : (offset : ℕ) (bytes : List ℕ) → Call
  shared_read : (offset size : ℕ) → Call
  attest : (offset size : ℕ) → Call
  check : (identity : ℕ) (tag : Tag) (bytes : List ℕ) → Call
  protect : (identity offset size : ℕ) (draw : Draw) → Call
  retrieve : (identity offset : ℕ) (handle : Handle) → Call
  report : Call
  -- place 16: none
  hand_over : (place : ℕ) → Call
  -- the bytes hold the logged values
  chain : (first : Link) (bytes : List ℕ) → Call
  release : (identity : ℕ) (handle : Handle) → Call

-- the first link of a chain
unfoldable pub first_in : Call → Option Link
first_in (create p i) = none
first_in exit = none
first_in (heap_write p o v) = none
first_in (heap_read p o n) = none
first_in (shared_write o v) = none
first_in (shared_read o n) = none
first_in (attest o n) = none
first_in (check i g v) = none
first_in (protect i o n d) = none
first_in (retrieve i o h) = none
first_in report = none
first_in (hand_over p) = none
first_in (chain k v) = some k
first_in (release i h) = none
