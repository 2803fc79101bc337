-- What an accepted call leaves and answers on any sound box, hand-made ones included, said from the host's tables before it.
use Rattle.std.specs.Prelude.{ℕ, zero, suc, ◌+◌, ◌*◌, ◌-◌, ◌^◌, ◌≡◌, cond, List, [], ◌∷◌, ◌++◌, map, length, get_or, take, drop, set, replicate}
use Rattle.std.proofs.Math.Option.{Option, none, some}
use Rattle.std.proofs.lemmas.List.Edits.{sets}
use Rattle.record.specs.Call.{Link, Call, create, exit, heap_write, heap_read, shared_write, shared_read, attest, check, protect, retrieve, report, hand_over, chain, release}
use Rattle.record.specs.Read.{whole, read}
use Rattle.ideal.specs.declared.Used.{Used}
use Rattle.ideal.specs.declared.LogRow.{LogRow}
use Rattle.ideal.specs.declared.EscrowRow.{EscrowRow}
use Rattle.ideal.specs.State.{cleared, part, any, position}
use Rattle.ideal.specs.Tables.{Tables, heap_start, escrow_table, used_log, used_escrow}
use Rattle.ideal.specs.Box.{Element, Result}
use Rattle.ideal.specs.Refusals.{caller_in, own_bytes, is_row, holds_pair, length_in, bytes_in, row_for, is_log_row, value_at, left_at, leads_on, named_in}
use Rattle.ideal.specs.History.{ones}
use Rattle.ideal.specs.Accuracy.{with_own_bytes}

-- ---- tables of which a part is another

-- the map, the running place, the identities and the heaps
unfoldable pub with_places_in : Tables → (taken running : ℕ) → (identities heaps : List ℕ) → Tables
with_places_in t taken running identities heaps =
    let b = t.box in
    record {
      box = record { taken = taken; running = running; identities = identities; log = b.log; escrow = b.escrow };
      heaps = heaps;
      shared = t.shared;
      log_rows = t.log_rows;
      log_values = t.log_values;
      escrow_rows = t.escrow_rows;
      escrow_values = t.escrow_values;
    }

unfoldable pub with_shared : Tables → List ℕ → Tables
with_shared t shared =
    record {
      box = t.box;
      heaps = t.heaps;
      shared = shared;
      log_rows = t.log_rows;
      log_values = t.log_values;
      escrow_rows = t.escrow_rows;
      escrow_values = t.escrow_values;
    }

-- a used-count with a row of this many bytes more
abbrev pub one_more : Used → ℕ → Used
one_more u size = record { rows = u.rows + 1; bytes = u.bytes + size }

-- the next log row, behind the bytes used
unfoldable pub with_log_row : Tables → (tag : ℕ) → (value : List ℕ) → Tables
with_log_row t tag v =
    let b = t.box in
    let u = b.log in
    let row : LogRow = record { identity = caller_in t; tag = record { 0 = tag }; first = u.bytes; length = length v } in
    record {
      box =
          record {
            taken = b.taken;
            running = b.running;
            identities = b.identities;
            log = one_more u (length v);
            escrow = b.escrow;
          };
      heaps = t.heaps;
      shared = t.shared;
      log_rows = set t.log_rows u.rows row;
      log_values = sets t.log_values u.bytes v;
      escrow_rows = t.escrow_rows;
      escrow_values = t.escrow_values;
    }

-- the next escrow row, behind the bytes used
unfoldable pub with_escrow_row : Tables → (recipient handle : ℕ) → (value : List ℕ) → Tables
with_escrow_row t recipient handle v =
    let b = t.box in
    let u = b.escrow in
    let row : EscrowRow =
    record {
      source = caller_in t;
      recipient = recipient;
      handle = record { 0 = handle };
      first = u.bytes;
      length = length v;
      mark = 0;
    } in
    record {
      box =
          record {
            taken = b.taken;
            running = b.running;
            identities = b.identities;
            log = b.log;
            escrow = one_more u (length v);
          };
      heaps = t.heaps;
      shared = t.shared;
      log_rows = t.log_rows;
      log_values = t.log_values;
      escrow_rows = set t.escrow_rows u.rows row;
      escrow_values = sets t.escrow_values u.bytes v;
    }

-- an escrow row that is released: marked spent, of no bytes
unfoldable pub spent_row : EscrowRow → EscrowRow
spent_row r =
    record { source = r.source; recipient = r.recipient; handle = r.handle; first = r.first; length = 0; mark = 1 }

-- a row whose value moves down by n bytes; the first byte of an unused row, which is 0, stays
unfoldable pub moved_down : ℕ → EscrowRow → EscrowRow
moved_down n r =
    record {
      source = r.source;
      recipient = r.recipient;
      handle = r.handle;
      first = r.first - n;
      length = r.length;
      mark = r.mark;
    }

-- the escrow row at an index released: the values behind its own close up, with zeros behind them, so the first bytes of the
-- rows after it and the bytes used fall by its length
unfoldable pub with_released : Tables → ℕ → Tables
with_released t k =
    let b = t.box in
    let u = b.escrow in
    let r = get_or t.escrow_rows k escrow_table.blank in
    let n = r.length in
    record {
      box =
          record {
            taken = b.taken;
            running = b.running;
            identities = b.identities;
            log = b.log;
            escrow = record { rows = u.rows; bytes = u.bytes - n };
          };
      heaps = t.heaps;
      shared = t.shared;
      log_rows = t.log_rows;
      log_values = t.log_values;
      escrow_rows = take k t.escrow_rows ++ (spent_row r ∷ map (moved_down n) (drop (suc k) t.escrow_rows));
      escrow_values = take r.first t.escrow_values ++ (drop (r.first + n) t.escrow_values ++ replicate n 0);
    }

-- ---- a chain

-- how many links it has from this one on, at most `most`
unfoldable pub link_count : Tables → (most : ℕ) → Link → List ℕ → ℕ
link_count t zero k bs = 0
link_count t (suc most) k bs =
    let v = value_at t k bs in
    let later = link_count t most (named_in v) (left_at k bs) in
    1 + cond (leads_on v) later 0

-- ---- an accepted call

-- what it leaves, of the tables before it and its number
unfoldable pub leaves : Tables → ℕ → Call → Tables
leaves t n (create p i) =
    with_places_in t (t.box.taken + 2 ^ p) t.box.running (set t.box.identities p i) t.heaps
leaves t n exit =
    let p = t.box.running in
    with_places_in t (t.box.taken - 2 ^ p) 16 (set t.box.identities p 0) (sets t.heaps (heap_start p) cleared)
leaves t n (heap_write p o v) = with_own_bytes t o v
leaves t n (heap_read p o m) = t
leaves t n (shared_write o v) = with_shared t (sets t.shared o v)
leaves t n (shared_read o m) = t
leaves t n (attest o m) =
    let v = own_bytes t o m in
    cond (any (holds_pair t.log_values (caller_in t) v) (used_log t)) t (with_log_row t n v)
leaves t n (check i g v) = t
leaves t n (protect i o m d) = with_escrow_row t i n (own_bytes t o m)
leaves t n (retrieve i o h) = with_own_bytes t o (bytes_in t.escrow_values (row_for t i h))
leaves t n report = t
leaves t n (hand_over p) = with_places_in t t.box.taken p t.box.identities t.heaps
leaves t n (chain first v) = t
leaves t n (release i h) = with_released t (position (is_row h i (caller_in t)) (used_escrow t))

-- the numbers that the rows and the counts say; the others are in specs/Answers.antt, and a protect's is the first free handle
unfoldable pub counted_number : Tables → Call → Option ℕ
counted_number t (create p i) = none
counted_number t exit = none
counted_number t (heap_write p o v) = none
counted_number t (heap_read p o m) = none
counted_number t (shared_write o v) = none
counted_number t (shared_read o m) = none
counted_number t (attest o m) = none
counted_number t (check i g v) = some (cond (any (is_log_row t.log_values i g v) (used_log t)) 1 0)
counted_number t (protect i o m d) = none
counted_number t (retrieve i o h) = some (length_in (row_for t i h))
counted_number t report = some (ones 16 t.box.taken + 256 * t.box.log.rows + 65536 * t.box.escrow.rows)
counted_number t (hand_over p) = none
counted_number t (chain first v) = some (link_count t 16 first v)
counted_number t (release i h) = none

unfoldable pub shows : Tables → Call → List ℕ
shows t (create p i) = []
shows t exit = []
shows t (heap_write p o v) = []
shows t (heap_read p o m) = own_bytes t o m
shows t (shared_write o v) = []
shows t (shared_read o m) = part t.shared o m
shows t (attest o m) = []
shows t (check i g v) = []
shows t (protect i o m d) = []
shows t (retrieve i o h) = []
shows t report = []
shows t (hand_over p) = []
shows t (chain first v) = []
shows t (release i h) = []

pub record Done (t : Tables) (c : Call) (r : Result) : Type 0 where
  pub leaves : r.tables ≡ leaves t r.answer.number c
  pub counted : (n : ℕ) → counted_number t c ≡ some n → r.answer.number ≡ n
  pub shows : r.answer.shown ≡ shows t c

-- what an accepted call leaves, answers and shows, on any tables
abbrev pub AcceptedCalls : (Tables → Element → Result) → Type 0
AcceptedCalls box = (t : Tables) (e : Element) (c : Call) (used : ℕ) → read e.bytes ≡ whole c used
    → (box t e).answer.code ≡ 0 → Done t c (box t e)
