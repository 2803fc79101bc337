-- What is proved of the reader's and the writer's definitions. The proofs are in proofs/RoundTrip.antt.
use Rattle.std.specs.Prelude.{ℕ, ◌≤◌, ◌<◌, ◌^◌, ◌≡◌, List, [], ◌++◌, length, get_or, take}
use Rattle.std.proofs.Math.Option.{Option, none, some}
use Rattle.fnv.specs.declared.Tag.{Tag}
use Rattle.record.specs.declared.Handle.{Handle}
use Rattle.record.specs.declared.Fields.{Fields}
use Rattle.record.specs.Call.{Link, logged_link, escrowed_link, stray_link, link_by, identity_of, Call, chain, first_in}
use Rattle.record.specs.Layout.{Kind, kind_of}
use Rattle.record.specs.Read.{read, whole}
use Rattle.record.specs.Write.{filled, write, write_on}

-- the numbers fit their fields, and the count of bytes fits its own
pub record Fit (f : Fields) (v : List ℕ) : Type 0 where
  pub place : f.place < 256
  pub identity : f.identity < 2 ^ 64
  pub offset : f.offset < 65536
  pub size : f.length < 65536
  pub number : f.number < 2 ^ 64
  pub count : length v < 65536

-- a chain's first link is by its way: one of way 2 is logged, one of way 3 is escrowed
unfoldable pub ByItsWay : Option Link → Type 0
ByItsWay none = Unit {0}
ByItsWay (some (logged_link i g)) = Unit {0}
ByItsWay (some (escrowed_link i h)) = Unit {0}
ByItsWay (some (stray_link w i x)) = (w ≡ 2 → ⊥) × (w ≡ 3 → ⊥)

pub record Fits (c : Call) : Type 0 where
  pub fields : Fit (filled c).fields (filled c).bytes
  pub way : ByItsWay (first_in c)

-- every element is a byte
abbrev pub Bytes : List ℕ → Type 0
Bytes bs = (k : ℕ) → k < length bs → get_or bs k 0 < 256

-- reading a written record, whatever follows it, returns the call and the record's length
unfoldable pub ReadsBack : Type 0
ReadsBack = (c : Call) → Fits c → (rest : List ℕ) → read (write c ++ rest) ≡ whole c (length (write c))

-- the numbers fit their fields
abbrev pub NumbersFit : Fields → Type 0
NumbersFit f = Fit f []

-- what the writer accepts stands at the buffer's front, and reading the buffer returns the call and the record's length
unfoldable pub WriterReadsBack : Type 0
WriterReadsBack = (n : ℕ) (k : Kind) (f : Fields) (v buffer : List ℕ) → kind_of n ≡ some k → NumbersFit f
    → let w = write_on n f v buffer in
    w.code ≡ 0 → read w.buffer ≡ whole (k.call f v) w.length

-- a record that reads to a call is, in the bytes used, what the writer writes for that call
pub record OneRecordOf (bs : List ℕ) (c : Call) (used : ℕ) : Type 0 where
  pub within : used ≤ length bs
  pub fits : Fits c
  pub same : take used bs ≡ write c

-- each call has one record
unfoldable pub OneRecord : Type 0
OneRecord = (bs : List ℕ) (c : Call) (used : ℕ) → Bytes bs → read bs ≡ whole c used → OneRecordOf bs c used

-- the numbers in a chain's record: the first link's way, its identity, and its tag or handle
pub record NumbersOf (k : Link) (way identity number : ℕ) : Type 0 where
  pub place : (v : List ℕ) → (filled (chain k v)).fields.place ≡ way
  pub name : (v : List ℕ) → (filled (chain k v)).fields.identity ≡ identity
  pub tag_or_handle : (v : List ℕ) → (filled (chain k v)).fields.number ≡ number
  -- the link of these numbers is that link, and has that identity
  pub named : link_by way identity number ≡ k
  pub owner : identity_of k ≡ identity

-- way 2 goes with a tag, way 3 with a handle
pub record LinksByNumbers : Type 0 where
  pub logged : (identity : ℕ) (tag : Tag) → NumbersOf (logged_link identity tag) 2 identity tag.0
  pub escrowed : (identity : ℕ) (handle : Handle) → NumbersOf (escrowed_link identity handle) 3 identity handle.0
