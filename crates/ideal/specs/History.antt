-- What the box holds, said from its history alone: the accepted calls since a fresh box.
use Rattle.std.specs.Prelude.{ℕ, zero, suc, ◌+◌, ◌*◌, ◌-◌, ◌<◌, ◌/◌, ◌%◌, ◌≡◌, Bool, false, ◌&&◌, ◌||◌, cond, not, List, [], ◌∷◌, ◌++◌, length, get_or, take, eqb, ltb, leb}
use Rattle.record.specs.Layout.{stands}
use Rattle.record.specs.Call.{Call, create, exit, heap_write, heap_read, shared_write, shared_read, attest, check, protect, retrieve, report, hand_over, chain, release}
use Rattle.record.specs.Read.{Reading, refused, whole, read}
use Rattle.ideal.specs.declared.LogRow.{LogRow}
use Rattle.ideal.specs.declared.EscrowRow.{EscrowRow}
use Rattle.ideal.specs.State.{Logged, Escrowed, Move, nothing, takes, activates, empties, writes, shares, logs, escrows, releases, part, any, same_bytes, bytes_used}
use Rattle.ideal.specs.Step.{Answer}
use Rattle.ideal.specs.Tables.{Tables, heap_start, log_table, escrow_table, fresh_tables}
use Rattle.ideal.specs.Layouts.{Sound}
use Rattle.ideal.specs.Box.{Element, Result, tables_after, element_at, tables_before, answer_at}
use Rattle.ideal.specs.Refusals.{caller_in, own_bytes}

-- the move of an accepted call, from the tables before and after it and its number; a retrieve writes what then stands in
-- the heap
unfoldable pub move_seen : Tables → Tables → ℕ → Call → Move
move_seen t u n (create p i) = takes p i
move_seen t u n exit = empties t.box.running
move_seen t u n (heap_write p o v) = writes p o v
move_seen t u n (heap_read p o m) = nothing
move_seen t u n (shared_write o v) = shares o v
move_seen t u n (shared_read o m) = nothing
move_seen t u n (attest o m) =
    logs (record { key = record { identity = caller_in t; tag = record { 0 = n } }; value = own_bytes t o m })
move_seen t u n (check i g v) = nothing
move_seen t u n (protect i o m d) =
    escrows
    (record {
      key = record { source = caller_in t; recipient = i; handle = record { 0 = n }; mark = 0 };
      value = own_bytes t o m;
    })
move_seen t u n (retrieve i o h) = writes t.box.running o (own_bytes u o n)
move_seen t u n report = nothing
move_seen t u n (hand_over p) = activates p
move_seen t u n (chain first v) = nothing
move_seen t u n (release i h) = releases i (caller_in t) h

unfoldable pub added : Tables → Result → Reading → List Move → List Move
added t r (refused code number) past = past
added t r (whole c used) past =
    cond (eqb r.answer.code 0) (move_seen t r.tables r.answer.number c ∷ past) past

module _ (box : Tables → Element → Result) where
  unfoldable pub past_from : Tables → List Move → List Element → List Move
  past_from t past [] = past
  past_from t past (e ∷ es) = past_from (box t e).tables (added t (box t e) (read e.bytes) past) es

  -- the accepted calls of a list on a fresh box, newest first
  unfoldable pub past_of : List Element → List Move
  past_of es = past_from fresh_tables [] es

-- ---- what the past says

-- a place runs from an accepted hand over to it until the next accepted hand over or exit
unfoldable pub runs : List Move → ℕ
runs [] = 16
runs (nothing ∷ past) = runs past
runs (takes p i ∷ past) = runs past
runs (activates p ∷ past) = p
runs (empties p ∷ past) = 16
runs (writes p o v ∷ past) = runs past
runs (shares o v ∷ past) = runs past
runs (logs e ∷ past) = runs past
runs (escrows e ∷ past) = runs past
runs (releases i r h ∷ past) = runs past

-- place p has the identity of its last accepted create until its accepted exit
unfoldable pub holder : List Move → ℕ → ℕ
holder [] p = 0
holder (nothing ∷ past) p = holder past p
holder (takes q i ∷ past) p = cond (eqb p q) i (holder past p)
holder (activates q ∷ past) p = holder past p
holder (empties q ∷ past) p = cond (eqb p q) 0 (holder past p)
holder (writes q o v ∷ past) p = holder past p
holder (shares o v ∷ past) p = holder past p
holder (logs e ∷ past) p = holder past p
holder (escrows e ∷ past) p = holder past p
holder (releases i r h ∷ past) p = holder past p

unfoldable pub within : ℕ → List ℕ → ℕ → Bool
within offset bytes x = leb offset x && ltb x (offset + length bytes)

-- a byte of a memory, a place's heap or shared memory (16): that of the last accepted write there since the fresh box, the
-- create or the exit, else 0
unfoldable pub byte_at : List Move → ℕ → ℕ → ℕ
byte_at [] m x = 0
byte_at (nothing ∷ past) m x = byte_at past m x
byte_at (takes p i ∷ past) m x = cond (eqb m p) 0 (byte_at past m x)
byte_at (activates p ∷ past) m x = byte_at past m x
byte_at (empties p ∷ past) m x = cond (eqb m p) 0 (byte_at past m x)
byte_at (writes p o v ∷ past) m x = cond (eqb m p && within o v x) (get_or v (x - o) 0) (byte_at past m x)
byte_at (shares o v ∷ past) m x = cond (eqb m 16 && within o v x) (get_or v (x - o) 0) (byte_at past m x)
byte_at (logs e ∷ past) m x = byte_at past m x
byte_at (escrows e ∷ past) m x = byte_at past m x
byte_at (releases i r h ∷ past) m x = byte_at past m x

unfoldable pub is_attested : ℕ → List ℕ → Logged → Bool
is_attested i v e = eqb e.key.identity i && same_bytes e.value v

-- the distinct pairs that were attested, oldest first
unfoldable pub pairs : List Move → List Logged
pairs [] = []
pairs (nothing ∷ past) = pairs past
pairs (takes p i ∷ past) = pairs past
pairs (activates p ∷ past) = pairs past
pairs (empties p ∷ past) = pairs past
pairs (writes p o v ∷ past) = pairs past
pairs (shares o v ∷ past) = pairs past
pairs (logs e ∷ past) =
    cond (any (is_attested e.key.identity e.value) (pairs past)) (pairs past) (pairs past ++ (e ∷ []))
pairs (escrows e ∷ past) = pairs past
pairs (releases i r h ∷ past) = pairs past

-- the values that were protected, oldest first, whether or not they were released since
unfoldable pub protects : List Move → List Escrowed
protects [] = []
protects (nothing ∷ past) = protects past
protects (takes p i ∷ past) = protects past
protects (activates p ∷ past) = protects past
protects (empties p ∷ past) = protects past
protects (writes p o v ∷ past) = protects past
protects (shares o v ∷ past) = protects past
protects (logs e ∷ past) = protects past
protects (escrows e ∷ past) = protects past ++ (e ∷ [])
protects (releases i r h ∷ past) = protects past

-- whether such a value was released: by its recipient, who names its source and handle. A handle is given once, so that none
-- was released before it was protected.
unfoldable pub is_released : List Move → Escrowed → Bool
is_released [] e = false
is_released (nothing ∷ past) e = is_released past e
is_released (takes p i ∷ past) e = is_released past e
is_released (activates p ∷ past) e = is_released past e
is_released (empties p ∷ past) e = is_released past e
is_released (writes p o v ∷ past) e = is_released past e
is_released (shares o v ∷ past) e = is_released past e
is_released (logs x ∷ past) e = is_released past e
is_released (escrows x ∷ past) e = is_released past e
is_released (releases i r h ∷ past) e =
    eqb e.key.handle.0 h.0 && (eqb e.key.source i && eqb e.key.recipient r) || is_released past e

-- the bytes of those that were not
unfoldable pub bytes_held : List Move → List Escrowed → ℕ
bytes_held past [] = 0
bytes_held past (e ∷ es) = cond (is_released past e) 0 (length e.value) + bytes_held past es

-- how many of a map's lowest bits stand
unfoldable pub ones : ℕ → ℕ → ℕ
ones zero map = 0
ones (suc n) map = map % 2 + ones n (map / 2)

-- how many of the first n places have an identity
unfoldable pub occupied : (ℕ → ℕ) → ℕ → ℕ
occupied identity zero = 0
occupied identity (suc n) = cond (eqb (identity n) 0) 0 1 + occupied identity n

-- ---- the box record, the memories and the tables are those that the past says

-- a row with its value bytes is this entry
pub record LogHolds (values : List ℕ) (row : LogRow) (e : Logged) : Type 0 where
  pub identity : row.identity ≡ e.key.identity
  pub tag : row.tag ≡ e.key.tag
  pub value : part values row.first row.length ≡ e.value

-- a row with its value bytes is what was protected so, spent and of no bytes where it was released
pub record EscrowHolds (values : List ℕ) (row : EscrowRow) (e : Escrowed) (released : Bool) : Type 0 where
  pub source : row.source ≡ e.key.source
  pub recipient : row.recipient ≡ e.key.recipient
  pub handle : row.handle ≡ e.key.handle
  pub mark : row.mark ≡ cond released 1 0
  pub value : part values row.first row.length ≡ cond released [] e.value

pub record AsThePast (t : Tables) (past : List Move) : Type 0 where
  pub running : t.box.running ≡ runs past
  pub identity : (p : ℕ) → p < 16 → get_or t.box.identities p 0 ≡ holder past p
  pub taken : (p : ℕ) → p < 16 → stands t.box.taken p ≡ not (eqb (holder past p) 0)
  pub services : ones 16 t.box.taken ≡ occupied (holder past) 16
  pub heap : (p x : ℕ) → p < 16 → x < 256 → get_or t.heaps (heap_start p + x) 0 ≡ byte_at past p x
  pub shared : (x : ℕ) → x < 1024 → get_or t.shared x 0 ≡ byte_at past 16 x
  pub log_rows : t.box.log.rows ≡ length (pairs past)
  pub log_bytes : t.box.log.bytes ≡ bytes_used (pairs past)
  pub escrow_rows : t.box.escrow.rows ≡ length (protects past)
  pub escrow_bytes : t.box.escrow.bytes ≡ bytes_held past (protects past)
  -- the rows in order, entry by entry (d stands for none)
  pub log : (k : ℕ) (d : Logged) → k < length (pairs past)
      → LogHolds t.log_values (get_or t.log_rows k log_table.blank) (get_or (pairs past) k d)
  pub escrow : (k : ℕ) (d : Escrowed) → k < length (protects past)
      → EscrowHolds t.escrow_values (get_or t.escrow_rows k escrow_table.blank) (get_or (protects past) k d)
      (is_released past (get_or (protects past) k d))
  -- every buffer is of its size, and the box is sound
  pub sound : Sound t 1024

-- what an accepted read shows of a memory
pub record Shows (past : List Move) (memory offset size : ℕ) (a : Answer) : Type 0 where
  pub number : a.number ≡ size
  pub count : length a.shown ≡ size
  pub byte : (x : ℕ) → x < size → get_or a.shown x 0 ≡ byte_at past memory (offset + x)

module _ (box : Tables → Element → Result) where
  abbrev pub HistoryHolds : Type 0
  HistoryHolds = (es : List Element) → AsThePast (tables_after box es) (past_of box es)

  -- the record at an index reads to this call, and is accepted
  abbrev pub Accepts : List Element → ℕ → Call → ℕ → Type 0
  Accepts es k c used = (read (element_at es k).bytes ≡ whole c used) × ((answer_at box es k).code ≡ 0)

  -- what the reads and the report answer
  pub record Reports : Type 0 where
    pub heap_reads : (es : List Element) (k p o n used : ℕ) → k < length es → Accepts es k (heap_read p o n) used
        → Shows (past_of box (take k es)) p o n (answer_at box es k)
    pub shared_reads : (es : List Element) (k o n used : ℕ) → k < length es → Accepts es k (shared_read o n) used
        → Shows (past_of box (take k es)) 16 o n (answer_at box es k)
    pub report : (es : List Element) (k used : ℕ) → k < length es → Accepts es k report used
        → (answer_at box es k).number
        ≡ ones 16 (tables_before box es k).box.taken + 256 * length (pairs (past_of box (take k es)))
        + 65536 * length (protects (past_of box (take k es)))
