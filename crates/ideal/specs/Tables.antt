-- The state laid out in the host's tables, and back.
use Rattle.std.specs.Prelude.{ℕ, zero, suc, ◌+◌, ◌*◌, ◌-◌, Bool, cond, ◌&&◌, List, [], ◌∷◌, ◌++◌, length, take, drop, replicate, eqb}
use Rattle.ideal.specs.declared.BoxRecord.{BoxRecord}
use Rattle.ideal.specs.declared.Used.{Used}
use Rattle.ideal.specs.declared.LogRow.{LogRow}
use Rattle.ideal.specs.declared.EscrowRow.{EscrowRow}
use Rattle.ideal.specs.State.{Entry, LogKey, EscrowKey, State, part, bytes_used}

-- what a host hands from call to call
pub record Tables : Type 0 where
  pub box : BoxRecord
  pub heaps : List ℕ
  pub shared : List ℕ
  pub log_rows : List LogRow
  pub log_values : List ℕ
  pub escrow_rows : List EscrowRow
  pub escrow_values : List ℕ

-- these: the box record, and what the host lends, in the order of an entry's parameters
abbrev pub lent_tables : BoxRecord → List LogRow → List EscrowRow → (heaps shared log_values escrow_values : List ℕ) → Tables
lent_tables b log escrow heaps shared log_values escrow_values =
    record {
      box = b;
      heaps = heaps;
      shared = shared;
      log_rows = log;
      log_values = log_values;
      escrow_rows = escrow;
      escrow_values = escrow_values;
    }

-- where the 256 bytes of place p's heap start
abbrev pub heap_start : ℕ → ℕ
heap_start p = 256 * p

-- ---- a table: rows with a key, a first byte and a length over value bytes

pub record RowsOf (Row Key : Type 0) : Type 0 where
  pub row : Key → (first size : ℕ) → Row
  pub key : Row → Key
  pub first : Row → ℕ
  pub size : Row → ℕ
  pub blank : Row
  pub is_blank : Row → Bool

abbrev pub log_table : RowsOf LogRow LogKey
log_table =
    record {
      row = λ k at n. record { identity = k.identity; tag = k.tag; first = at; length = n };
      key = λ r. record { identity = r.identity; tag = r.tag };
      first = λ r. r.first;
      size = λ r. r.length;
      blank = record { identity = 0; tag = record { 0 = 0 }; first = 0; length = 0 };
      is_blank = λ r. eqb r.identity 0 && (eqb r.tag.0 0 && (eqb r.first 0 && eqb r.length 0));
    }

abbrev pub escrow_table : RowsOf EscrowRow EscrowKey
escrow_table =
    record {
      row = λ k at n. record { source = k.source; recipient = k.recipient; handle = k.handle; first = at; length = n; mark = k.mark };
      key = λ r. record { source = r.source; recipient = r.recipient; handle = r.handle; mark = r.mark };
      first = λ r. r.first;
      size = λ r. r.length;
      blank = record { source = 0; recipient = 0; handle = record { 0 = 0 }; first = 0; length = 0; mark = 0 };
      is_blank = λ r.
          eqb r.source 0
          && (eqb r.recipient 0 && (eqb r.handle.0 0 && (eqb r.first 0 && (eqb r.length 0 && eqb r.mark 0))));
    }

-- unused rows and value bytes are zero
unfoldable pub padded : {A : Type 0} → ℕ → A → List A → List A
padded n z l = l ++ replicate (n - length l) z

unfoldable pub values_of : {Key : Type 0} → List (Entry Key) → List ℕ
values_of [] = []
values_of (e ∷ es) = e.value ++ values_of es

abbrev pub used_by : {Key : Type 0} → List (Entry Key) → Used
used_by l = record { rows = length l; bytes = bytes_used l }

module _ {Row Key : Type 0} (t : RowsOf Row Key) where
  -- each row begins where the one before ended
  unfoldable pub rows_from : ℕ → List (Entry Key) → List Row
  rows_from at [] = []
  rows_from at (e ∷ es) = t.row e.key at (length e.value) ∷ rows_from (at + length e.value) es

  unfoldable pub rows_of : List (Entry Key) → List Row
  rows_of l = padded 64 t.blank (rows_from 0 l)

  abbrev pub entry_of : List ℕ → Row → Entry Key
  entry_of values r = record { key = t.key r; value = part values (t.first r) (t.size r) }

  unfoldable pub entries_of : List ℕ → List Row → List (Entry Key)
  entries_of values [] = []
  entries_of values (r ∷ rs) = entry_of values r ∷ entries_of values rs

-- ---- places

-- bit p stands where place p is taken
unfoldable pub taken_map : List ℕ → ℕ
taken_map [] = 0
taken_map (i ∷ is) = cond (eqb i 0) 0 1 + 2 * taken_map is

-- place p has the 256 bytes from 256 times p
unfoldable pub flat : List (List ℕ) → List ℕ
flat [] = []
flat (h ∷ hs) = h ++ flat hs

unfoldable pub chunks : ℕ → List ℕ → List (List ℕ)
chunks zero l = []
chunks (suc n) l = take 256 l ∷ chunks n (drop 256 l)

-- ---- a state in tables, and the state that tables stand for

unfoldable pub box_record : State → BoxRecord
box_record s =
    record {
      taken = taken_map s.identities;
      running = s.running;
      identities = s.identities;
      log = used_by s.log;
      escrow = used_by s.escrow;
    }

unfoldable pub tables : State → Tables
tables s =
    record {
      box = box_record s;
      heaps = flat s.heaps;
      shared = s.shared;
      log_rows = rows_of log_table s.log;
      log_values = padded 4096 0 (values_of s.log);
      escrow_rows = rows_of escrow_table s.escrow;
      escrow_values = padded 4096 0 (values_of s.escrow);
    }

abbrev pub used_log : Tables → List LogRow
used_log t = take t.box.log.rows t.log_rows

abbrev pub used_escrow : Tables → List EscrowRow
used_escrow t = take t.box.escrow.rows t.escrow_rows

unfoldable pub state_of : Tables → State
state_of t =
    record {
      identities = t.box.identities;
      running = t.box.running;
      heaps = chunks 16 t.heaps;
      shared = t.shared;
      log = entries_of log_table t.log_values (used_log t);
      escrow = entries_of escrow_table t.escrow_values (used_escrow t);
    }

-- a fresh box is all zeros with running place 16
unfoldable pub fresh_tables : Tables
fresh_tables =
    record {
      box =
          record {
            taken = 0;
            running = 16;
            identities = replicate 16 0;
            log = record { rows = 0; bytes = 0 };
            escrow = record { rows = 0; bytes = 0 };
          };
      heaps = replicate 4096 0;
      shared = replicate 1024 0;
      log_rows = replicate 64 log_table.blank;
      log_values = replicate 4096 0;
      escrow_rows = replicate 64 escrow_table.blank;
      escrow_values = replicate 4096 0;
    }
