-- The state of the box, in the terms of the CAIF paper's ideal functionality (its section 3).
use Rattle.std.specs.Prelude.{ℕ, ◌+◌, List, [], ◌∷◌, length, get_or, take, drop, replicate}
use Rattle.fnv.specs.declared.Tag.{Tag}
unfoldable pub use Rattle.lists.specs.Lists.{any, every, find, position, same_bytes}
use Rattle.record.specs.declared.Handle.{Handle}

-- a value of 0 to 256 bytes, with what it is found by
pub record Entry (Key : Type 0) : Type 0 where
  pub key : Key
  pub value : List ℕ

pub record LogKey : Type 0 where
  pub identity : ℕ
  pub tag : Tag

pub record EscrowKey : Type 0 where
  pub source : ℕ
  pub recipient : ℕ
  pub handle : Handle
  -- 0, and 1 once the value is released: the entry is then spent, and of no bytes (document 02, P8)
  pub mark : ℕ

abbrev pub Logged : Type 0
Logged = Entry LogKey

abbrev pub Escrowed : Type 0
Escrowed = Entry EscrowKey

-- 16 places: an identity each, 0 for an empty place; the running place, or 16; a heap of 256 bytes each; shared
-- memory of 1,024 bytes; the log and the escrow, oldest entry first
pub record State : Type 0 where
  pub identities : List ℕ
  pub running : ℕ
  pub heaps : List (List ℕ)
  pub shared : List ℕ
  pub log : List Logged
  pub escrow : List Escrowed

-- what an accepted call does to the state
pub data Move : Type 0 where
  nothing : Move
  -- a place gets an identity
  takes : (place identity : ℕ) → Move
  -- a place runs, or none where it is 16
  activates : (place : ℕ) → Move
  -- a place is emptied, its heap zeroed, and none runs
  empties : (place : ℕ) → Move
  -- bytes into a place's heap
  writes : (place offset : ℕ) (bytes : List ℕ) → Move
  -- bytes into shared memory
  shares : (offset : ℕ) (bytes : List ℕ) → Move
  -- an entry to the log, unless its pair is there
  logs : (entry : Logged) → Move
  -- an entry to the escrow
  escrows : (entry : Escrowed) → Move
  -- what a source escrowed for a recipient under a handle is given up
  releases : (source recipient : ℕ) (handle : Handle) → Move

-- an empty place's heap
unfoldable pub cleared : List ℕ
cleared = replicate 256 0

unfoldable pub fresh : State
fresh =
    record {
      identities = replicate 16 0;
      running = 16;
      heaps = replicate 16 cleared;
      shared = replicate 1024 0;
      log = [];
      escrow = [];
    }

abbrev pub identity_at : State → ℕ → ℕ
identity_at s p = get_or s.identities p 0

abbrev pub heap_at : State → ℕ → List ℕ
heap_at s p = get_or s.heaps p []

-- the identity of the program that runs; 0 when none does
abbrev pub caller : State → ℕ
caller s = identity_at s s.running

-- size bytes of a memory, from an offset on
abbrev pub part : List ℕ → ℕ → ℕ → List ℕ
part memory offset size = take size (drop offset memory)

-- that part of the running heap
unfoldable pub own_part : State → ℕ → ℕ → List ℕ
own_part s offset size = part (heap_at s s.running) offset size

-- the bytes of a list of values
unfoldable pub bytes_used : {Key : Type 0} → List (Entry Key) → ℕ
bytes_used [] = 0
bytes_used (r ∷ rs) = length r.value + bytes_used rs
