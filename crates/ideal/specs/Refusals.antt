-- Demand 1: which number is given when, said a second time, by number as document 01 lists them and on the host's
-- tables; what a refused call leaves; how many bytes a cut record misses (document 02, P2); a chain link by link (P3).
use Rattle.std.specs.Prelude.{ℕ, zero, suc, ◌+◌, ◌-◌, ◌<◌, ◌^◌, ◌≡◌, ◌↔◌, Bool, true, false, not, ◌&&◌, ◌||◌, cond, List, [], ◌∷◌, ◌++◌, length, get_or, drop, eqb, ltb, leb}
use Rattle.std.proofs.Math.Option.{Option, none, some}
use Rattle.fnv.specs.declared.Tag.{Tag}
use Rattle.record.specs.declared.Handle.{Handle}
use Rattle.record.specs.Call.{Link, logged_link, escrowed_link, stray_link, link_by, identity_of, Call, first_in}
use Rattle.record.specs.Layout.{stands, OrRefusal, gives, refuses, map_of}
use Rattle.record.specs.Read.{Reading, refused, whole, read, from_little}
use Rattle.record.specs.Write.{filled}
use Rattle.ideal.specs.declared.LogRow.{LogRow}
use Rattle.ideal.specs.declared.EscrowRow.{EscrowRow}
use Rattle.ideal.specs.State.{part, any, find, same_bytes}
use Rattle.ideal.specs.Tables.{Tables, heap_start, used_log, used_escrow}
use Rattle.ideal.specs.Soundness.{sizes_right, sound}
use Rattle.ideal.specs.Box.{Element, Result}

-- the identity of the running place; 0 when none runs
abbrev pub caller_in : Tables → ℕ
caller_in t = get_or t.box.identities t.box.running 0

-- a part of the running place's heap
abbrev pub own_bytes : Tables → ℕ → ℕ → List ℕ
own_bytes t offset size = part t.heaps (heap_start t.box.running + offset) size

unfoldable pub one_of : List ℕ → ℕ → Bool
one_of ns n = any (λ m. eqb m n) ns

-- ---- whoever writes the record

-- the bytes of a field; none where its bit is down
unfoldable pub width : Bool → ℕ → ℕ
width here n = cond here n 0

-- where each field of a record ends: map, kind, those of bits 1 to 5, the count and the contents of the bytes field. One
-- whose bit is down ends where the field before it does
unfoldable pub ends : List ℕ → List ℕ
ends bs =
    let map = get_or bs 0 0 in
    let place = 2 + width (stands map 1) 1 in
    let identity = place + width (stands map 2) 8 in
    let offset = identity + width (stands map 3) 2 in
    let size = offset + width (stands map 4) 2 in
    let number = size + width (stands map 5) 8 in
    let count = number + width (stands map 6) 2 in
    let contents = count + width (stands map 6) (from_little (part bs number 2)) in
    1 ∷ 2 ∷ place ∷ identity ∷ offset ∷ size ∷ number ∷ count ∷ contents ∷ []

-- the record ends before a field does
unfoldable pub cut_field : List ℕ → Bool
cut_field bs = any (λ end. ltb (length bs) end) (ends bs)

-- how many of the ends come before the first one beyond n
unfoldable pub passed : ℕ → List ℕ → ℕ
passed n [] = 0
passed n (end ∷ later) = cond (ltb n end) 0 (suc (passed n later))

-- how many fields, from the map on, are whole; one whose bit is down is whole with the field before it
unfoldable pub whole_fields : List ℕ → ℕ
whole_fields bs = passed (length bs) (ends bs)

-- how many more bytes finish the first field that is not whole; 0 where all are
unfoldable pub missing : List ℕ → ℕ
missing bs = get_or (ends bs) (whole_fields bs) 0 - length bs

unfoldable pub is_map : ℕ → OrRefusal ℕ → Bool
is_map map (gives m) = eqb m map
is_map map (refuses n) = false

unfoldable pub reader_conditions : List ℕ → List (ℕ × Bool)
reader_conditions bs =
    let map = get_or bs 0 0 in
    let kind = get_or bs 1 0 in
    (1, eqb (length bs) 0)
    ∷ (2, not (stands map 0))
    ∷ (1, eqb (length bs) 1)
    ∷ (2, ltb 16 kind || one_of (0 ∷ 2 ∷ 3 ∷ []) kind)
    ∷ (3, not (is_map map (map_of kind)))
    ∷ (1, cut_field bs)
    ∷ []

-- ---- the program that calls, the host, and all programs together

-- an unspent row with this handle, source and recipient
unfoldable pub is_row : Handle → ℕ → ℕ → EscrowRow → Bool
is_row h source recipient r =
    (eqb r.handle.0 h.0 && (eqb r.source source && eqb r.recipient recipient)) && eqb r.mark 0

unfoldable pub holds_pair : List ℕ → ℕ → List ℕ → LogRow → Bool
holds_pair values i v r = eqb r.identity i && same_bytes (part values r.first r.length) v

unfoldable pub is_absent : Option EscrowRow → Bool
is_absent none = true
is_absent (some r) = false

unfoldable pub length_in : Option EscrowRow → ℕ
length_in none = 0
length_in (some r) = r.length

-- the bytes of its value
unfoldable pub bytes_in : List ℕ → Option EscrowRow → List ℕ
bytes_in values none = []
bytes_in values (some r) = part values r.first r.length

-- the unspent escrow row with this handle and source, and the caller as recipient
unfoldable pub row_for : Tables → (source : ℕ) → Handle → Option EscrowRow
row_for t source h = find (is_row h source (caller_in t)) (used_escrow t)

-- (identity, tag, bytes) is this log row
unfoldable pub is_log_row : List ℕ → ℕ → Tag → List ℕ → LogRow → Bool
is_log_row values i g v r =
    eqb r.identity i && (eqb r.tag.0 g.0 && same_bytes (part values r.first r.length) v)

-- ---- a chain, link by link

-- the count before the next logged value in the chain bytes
abbrev pub count_at : List ℕ → ℕ
count_at bs = from_little (part bs 0 2)

-- a link's value: the next in the chain bytes where it is logged, that of the escrow row where it is escrowed
unfoldable pub value_at : Tables → Link → List ℕ → List ℕ
value_at t (logged_link i g) bs = part bs 2 (count_at bs)
value_at t (escrowed_link i h) bs = bytes_in t.escrow_values (row_for t i h)
value_at t (stray_link w i x) bs = []

-- the chain bytes behind it
unfoldable pub left_at : Link → List ℕ → List ℕ
left_at (logged_link i g) bs = drop (2 + count_at bs) bs
left_at (escrowed_link i h) bs = bs
left_at (stray_link w i x) bs = bs

-- its way isn't 2 or 3, or its logged value is cut
unfoldable pub unreadable_at : Link → List ℕ → Bool
unreadable_at (logged_link i g) bs = ltb (length bs) (2 + count_at bs)
unreadable_at (escrowed_link i h) bs = false
unreadable_at (stray_link w i x) bs = true

-- no log row has its identity, its tag and this value, or there is no escrow row
unfoldable pub unknown_at : Tables → Link → List ℕ → Bool
unknown_at t (logged_link i g) v = not (any (is_log_row t.log_values i g v) (used_log t))
unknown_at t (escrowed_link i h) v = is_absent (row_for t i h)
unknown_at t (stray_link w i x) v = true

-- a head with 2 or 3 has 16 bytes behind that: the next link's identity, and its tag or handle
unfoldable pub leads_on : List ℕ → Bool
leads_on v = (eqb (get_or v 0 0) 2 || eqb (get_or v 0 0) 3) && ltb 16 (length v)

abbrev pub named_in : List ℕ → Link
named_in v = link_by (get_or v 0 0) (from_little (part v 1 8)) (from_little (part v 9 8))

-- the conditions of a link that comes after n others
unfoldable pub link_conditions : Tables → (n : ℕ) → Link → List ℕ → List (ℕ × Bool)
link_conditions t n k bs =
    let v = value_at t k bs in
    let ends = eqb (get_or v 0 0) 1 in
    (20, eqb n 16)
    ∷ (19, unreadable_at k bs)
    ∷ (9, eqb (identity_of k) 0)
    ∷ (18, unknown_at t k v)
    ∷ (19, not (ends || leads_on v))
    ∷ (19, ends && not (eqb (length (left_at k bs)) 0))
    ∷ []

-- those of this link and of the links after it, of `most` in all
unfoldable pub chain_conditions : Tables → (most n : ℕ) → Link → List ℕ → List (ℕ × Bool)
chain_conditions t zero n k bs = []
chain_conditions t (suc most) n k bs =
    let v = value_at t k bs in
    let later = chain_conditions t most (suc n) (named_in v) (left_at k bs) in
    link_conditions t n k bs ++ cond (leads_on v) later []

-- those of a chain, from its first link on: a seventeenth link has its 20
unfoldable pub of_chain : Tables → Option Link → List ℕ → List (ℕ × Bool)
of_chain t none bs = []
of_chain t (some k) bs = chain_conditions t 17 0 k bs

-- ---- each call

unfoldable pub call_conditions : Tables → Call → List (ℕ × Bool)
call_conditions t c =
    let b = t.box in
    let kind = (filled c).kind in
    let f = (filled c).fields in
    let size = f.length + length (filled c).bytes in
    let taken = stands b.taken f.place in
    let row = row_for t f.identity (record { 0 = f.number }) in
    let pair = any (holds_pair t.log_values (caller_in t) (own_bytes t f.offset f.length)) (used_log t) in
    (4, one_of (4 ∷ 5 ∷ 6 ∷ 9 ∷ 11 ∷ 12 ∷ 15 ∷ 16 ∷ []) kind && eqb b.running 16)
    ∷ (6, (one_of (1 ∷ 5 ∷ 6 ∷ []) kind && ltb 15 f.place) || (eqb kind 14 && ltb 16 f.place))
    ∷ (7, (eqb kind 1 && taken) || (eqb kind 14 && (ltb f.place 16 && not taken)))
    ∷ (8, one_of (5 ∷ 6 ∷ []) kind && not (eqb f.place b.running))
    ∷ (9, one_of (1 ∷ 10 ∷ 11 ∷ 12 ∷ 16 ∷ []) kind && eqb f.identity 0)
    ∷ (10, one_of (12 ∷ 16 ∷ []) kind && is_absent row)
    ∷ (
      11,
      (one_of (5 ∷ 6 ∷ 9 ∷ 11 ∷ []) kind && ltb 256 (f.offset + size))
          || ((one_of (7 ∷ 8 ∷ []) kind && ltb 1024 (f.offset + size))
          || (eqb kind 12 && ltb 256 (f.offset + length_in row))),
    )
    ∷ (12, eqb kind 11 && leb (2 ^ 48) f.number)
    ∷ (
      13,
      eqb kind 9
          && (not pair && (eqb b.log.rows 64 || ltb 4096 (b.log.bytes + f.length))),
    )
    ∷ (14, eqb kind 11 && (eqb b.escrow.rows 64 || ltb 4096 (b.escrow.bytes + f.length)))
    ∷ of_chain t (first_in c) (filled c).bytes

-- order: 15; then the reader's; then those of the call that is read
module _ (rows : Tables → Call → List (ℕ × Bool)) where
  unfoldable pub on_call_by : Tables → Reading → List (ℕ × Bool)
  on_call_by t (refused code number) = []
  on_call_by t (whole c used) = rows t c

  unfoldable pub conditions_by : Tables → Element → List (ℕ × Bool)
  conditions_by t e =
      (15, not (sizes_right t e.output_size && sound t)) ∷ (reader_conditions e.bytes ++ on_call_by t (read e.bytes))

-- of the full box: rising numbers, a chain's link by link
abbrev pub on_call : Tables → Reading → List (ℕ × Bool)
on_call = on_call_by call_conditions

abbrev pub conditions : Tables → Element → List (ℕ × Bool)
conditions = conditions_by call_conditions

-- a condition with the number n holds and none before it does; 0 where none holds
pub data First (n : ℕ) : List (ℕ × Bool) → Type 0 where
  here : {b : Bool} {cs : List (ℕ × Bool)} → b ≡ true → First n ((n, b) ∷ cs)
  later : {m : ℕ} {b : Bool} {cs : List (ℕ × Bool)} → b ≡ false → First n cs → First n ((m, b) ∷ cs)
  none_holds : n ≡ 0 → First n []

-- the bytes used at a refusal: 0 for 1, 2, 3 and 15, else the record's length
pub data UsedAt (bs : List ℕ) (code used : ℕ) : Type 0 where
  unread : one_of (1 ∷ 2 ∷ 3 ∷ 15 ∷ []) code ≡ true → used ≡ 0 → UsedAt bs code used
  was_read : one_of (1 ∷ 2 ∷ 3 ∷ 15 ∷ []) code ≡ false → (c : Call) → read bs ≡ whole c used → UsedAt bs code used

-- the answer number at a refusal: with 1 the bytes that are missing, else 0
unfoldable pub number_at : List ℕ → ℕ → ℕ
number_at bs code = cond (eqb code 1) (missing bs) 0

pub record Refused (t : Tables) (e : Element) (r : Result) : Type 0 where
  pub tables : r.tables ≡ t
  pub number : r.answer.number ≡ number_at e.bytes r.answer.code
  pub shown : r.answer.shown ≡ []
  pub used : UsedAt e.bytes r.answer.code r.answer.used

-- the same call with more bytes behind its record
abbrev pub followed : Element → List ℕ → Element
followed e more = record { bytes = e.bytes ++ more; output_size = e.output_size; profile = e.profile }

module _ (box : Tables → Element → Result) where
  -- each number is given when its condition holds and no earlier one does, and at no other time
  abbrev pub EachNumberBy : (Tables → Element → List (ℕ × Bool)) → Type 0
  EachNumberBy table = (t : Tables) (e : Element) (n : ℕ) → ((box t e).answer.code ≡ n) ↔ First n (table t e)

  abbrev pub EachNumber : Type 0
  EachNumber = EachNumberBy conditions

  -- a refusal has the answer number of its code, shows nothing and alters nothing
  abbrev pub RefusalsAlterNothing : Type 0
  RefusalsAlterNothing = (t : Tables) (e : Element) → ((box t e).answer.code ≡ 0 → ⊥) → Refused t e (box t e)

  -- 5 is given no more, whatever the box record, the tables and the element
  abbrev pub NeverFive : Type 0
  NeverFive = (t : Tables) (e : Element) → (box t e).answer.code ≡ 5 → ⊥

  -- 1 is the only refusal with an answer number other than 0, and its own is never 0
  abbrev pub NumberOnlyWithOne : Type 0
  NumberOnlyWithOne = (t : Tables) (e : Element) → ((box t e).answer.code ≡ 0 → ⊥)
      → ((box t e).answer.code ≡ 1) ↔ ((box t e).answer.number ≡ 0 → ⊥)

  -- where a record gets 1 with n
  pub record Missing (t : Tables) (e : Element) (n : ℕ) : Type 0 where
    -- followed by fewer than n bytes it gets 1 with as many fewer, and it is the same field that is cut
    pub fewer : (more : List ℕ) → length more < n
        → let a = (box t (followed e more)).answer in
        (a.code ≡ 1) × (a.number + length more ≡ n) × (whole_fields (e.bytes ++ more) ≡ whole_fields e.bytes)
    -- followed by n bytes, whatever they are, that field is whole: if 1 is given now, it is for a later one
    pub enough : (more : List ℕ) → length more ≡ n → whole_fields e.bytes < whole_fields (e.bytes ++ more)

  abbrev pub MissingIsExact : Type 0
  MissingIsExact = (t : Tables) (e : Element) → (box t e).answer.code ≡ 1 → Missing t e (box t e).answer.number
