-- The writer: a call's record.
use Rattle.std.specs.Prelude.{ℕ, Bool, cond, ◌&&◌, ◌||◌, List, [], ◌∷◌, ◌++◌, length, drop, ltb}
use Rattle.std.proofs.Math.Option.{Option, none, some}
use Rattle.fnv.specs.Fnv.{little}
use Rattle.record.specs.declared.Fields.{Fields}
use Rattle.record.specs.Call.{way_of, identity_of, number_of, Call, create, exit, heap_write, heap_read, shared_write, shared_read, attest, check, protect, retrieve, report, hand_over, chain, release}
use Rattle.record.specs.Layout.{Kind, stands, kind_of}

-- a field where its bit stands
unfoldable pub only : Bool → List ℕ → List ℕ
only here bs = cond here bs []

-- map, kind, then only the fields whose bit stands, in rising bit order
unfoldable pub record_of : Kind → Fields → List ℕ → List ℕ
record_of k f v =
    k.map ∷ k.number
    ∷ (only (stands k.map 1) (little 1 f.place)
    ++ (only (stands k.map 2) (little 8 f.identity)
    ++ (only (stands k.map 3) (little 2 f.offset)
    ++ (only (stands k.map 4) (little 2 f.length)
    ++ (only (stands k.map 5) (little 8 f.number)
    ++ only (stands k.map 6) (little 2 (length v) ++ v))))))

-- a call's kind, the numbers in its fields (0 in a field that its map lacks) and its bytes
pub record Filled : Type 0 where
  pub kind : ℕ
  pub fields : Fields
  pub bytes : List ℕ

abbrev pub fill : ℕ → (place identity offset size number : ℕ) → List ℕ → Filled
fill k p i o n x v =
    record { kind = k; fields = record { place = p; identity = i; offset = o; length = n; number = x }; bytes = v }

unfoldable pub filled : Call → Filled
filled (create p i) = fill 1 p i 0 0 0 []
filled exit = fill 4 0 0 0 0 0 []
filled (heap_write p o v) = fill 5 p 0 o 0 0 v
filled (heap_read p o n) = fill 6 p 0 o n 0 []
filled (shared_write o v) = fill 7 0 0 o 0 0 v
filled (shared_read o n) = fill 8 0 0 o n 0 []
filled (attest o n) = fill 9 0 0 o n 0 []
filled (check i g v) = fill 10 0 i 0 0 g.0 v
filled (protect i o n d) = fill 11 0 i o n d.0 []
filled (retrieve i o h) = fill 12 0 i o 0 h.0 []
filled report = fill 13 0 0 0 0 0 []
filled (hand_over p) = fill 14 p 0 0 0 0 []
filled (chain k v) = fill 15 (way_of k) (identity_of k) 0 0 (number_of k) v
filled (release i h) = fill 16 0 i 0 0 h.0 []

unfoldable pub record_in : Option Kind → Fields → List ℕ → List ℕ
record_in none f v = []
record_in (some k) f v = record_of k f v

-- a call's record
unfoldable pub write : Call → List ℕ
write c = record_in (kind_of (filled c).kind) (filled c).fields (filled c).bytes

-- what the writer answers, and what its buffer then holds
pub record WriteResult : Type 0 where
  pub code : ℕ
  pub length : ℕ
  pub buffer : List ℕ

-- a refusal leaves the buffer unaltered
unfoldable pub refused_write : ℕ → List ℕ → WriteResult
refused_write code buffer = record { code = code; length = 0; buffer = buffer }

-- the record at the buffer's front, bytes beyond it unaltered
unfoldable pub placed : List ℕ → List ℕ → WriteResult
placed r buffer = record { code = 0; length = length r; buffer = r ++ drop (length r) buffer }

-- the bytes are more than a count of 2 bytes can say, in a record that has them
abbrev pub too_many : ℕ → ℕ → Bool
too_many map count = stands map 6 && ltb 65535 count

-- 17: a bytes field over 65,535, or the buffer is shorter than the record
unfoldable pub write_kind : Option Kind → Fields → List ℕ → List ℕ → WriteResult
write_kind none f v buffer = refused_write 2 buffer
write_kind (some k) f v buffer =
    cond (too_many k.map (length v) || ltb (length buffer) (length (write (k.call f v))))
    (refused_write 17 buffer)
    (placed (write (k.call f v)) buffer)

-- The writer: fields and bytes that the kind's map lacks are no part of the call, so they do not matter.
unfoldable pub write_on : ℕ → Fields → List ℕ → List ℕ → WriteResult
write_on n f v buffer = write_kind (kind_of n) f v buffer
