-- What a call makes of the tables: a row put into one of them at an index, in the escrow with the first bytes of the rows after it lowered, or nothing.
use Rattle.std.specs.Prelude.{ℕ, ◌+◌, ◌-◌, ◌<◌, ◌≡◌, List, ◌++◌, map, length, get_or, set, take, drop, ltb, Option, Some, None, IfSome, is_some, option_map}
use Rattle.std.proofs.lemmas.List.Edits.{sets}
use Rattle.ideal.specs.declared.BoxRecord.{BoxRecord}
use Rattle.ideal.specs.declared.Used.{Used}
use Rattle.ideal.specs.declared.LogRow.{LogRow}
use Rattle.ideal.specs.declared.EscrowRow.{EscrowRow}
use Rattle.ideal.specs.State.{LogKey, EscrowKey}
use Rattle.ideal.specs.Tables.{RowsOf, Tables, log_table, escrow_table, lent_tables}
use Rattle.ideal.specs.OneCall.{spent_row}
use Rattle.state.specs.declared.Answer.{Answer}
use Rattle.state.specs.declared.LogEdit.{LogEdit}
use Rattle.state.specs.declared.EscrowEdit.{EscrowEdit}
use Rattle.state.specs.declared.Edits.{Edits}
use Rattle.state.specs.declared.Change.{Change}
use Rattle.state.specs.Answers.{refused_with, accepted_with, settled}

-- ---- the rows after an edit

module _ {Row Key : Type 0} (t : RowsOf Row Key) where
  -- the first byte falls by n, to 0 at most: a blank row stays blank
  abbrev pub lowered : (n : ℕ) → Row → Row
  lowered n r = t.row (t.key r) (t.first r - n) (t.size r)

  -- the rows from an index on
  unfoldable pub lowered_from : (at n : ℕ) → List Row → List Row
  lowered_from at n rows = take at rows ++ map (lowered n) (drop at rows)

-- a row put, or none
abbrev pub log_edited : Option LogEdit → List LogRow → List LogRow
log_edited None rows = rows
log_edited (Some e) rows = set rows e.at e.row

-- a row put, and those after it lowered; or none
abbrev pub escrow_edited : Option EscrowEdit → List EscrowRow → List EscrowRow
escrow_edited None rows = rows
escrow_edited (Some e) rows = lowered_from escrow_table (e.at + 1) e.fall (set rows e.at e.row)

-- where a row is put
abbrev pub log_place : Option LogEdit → Option ℕ
log_place e = option_map (λ x. x.at) e

abbrev pub escrow_place : Option EscrowEdit → Option ℕ
escrow_place e = option_map (λ x. x.at) e

-- it is put at one of n rows
abbrev pub Fits : (at : Option ℕ) → (n : ℕ) → Type 0
Fits at n = IfSome at (λ i. i < n)

abbrev pub no_edits : Edits
no_edits = record { log = None; escrow = None }

-- the tables are left; the box record is this
abbrev pub unchanged : BoxRecord → Answer → Change
unchanged b a = record { held = b; edits = no_edits; answer = a }

-- ---- the edits of a call, by the box records before and after it, and the escrow's rows before it

-- a row is put exactly where the used rows are one more, at the first that was not used
pub record EditBy (before after : Used) (at : Option ℕ) : Type 0 where
  pub rises : is_some at ≡ ltb before.rows after.rows
  pub place : IfSome at (λ i. i ≡ before.rows)
  pub fits : Fits at 64

-- an edit that puts back the row r, released: first bytes fall by its length
abbrev pub spending : (at : ℕ) → EscrowRow → EscrowEdit
spending at r = record { at = at; row = spent_row r; fall = r.length }

-- the counts with so many bytes less
abbrev pub lessened : Used → (n : ℕ) → Used
lessened used n = record { rows = used.rows; bytes = used.bytes - n }

-- a used row that was not spent is put back, released, and the used bytes fall by its length
pub record Spends (rows : List EscrowRow) (before after : Used) (e : Option EscrowEdit) : Type 0 where
  pub at : ℕ
  pub used : at < before.rows
  pub fits : at < 64
  pub unspent : (get_or rows at escrow_table.blank).mark ≡ 0
  pub edit : e ≡ Some (spending at (get_or rows at escrow_table.blank))
  pub counts : after ≡ lessened before (get_or rows at escrow_table.blank).length

-- by the counts, and no first byte falls, or by a release, of the escrow's rows before it
pub data EscrowEditBy (rows : List EscrowRow) (before after : Used) (e : Option EscrowEdit) : Type 0 where
  counted : EditBy before after (escrow_place e) → IfSome e (λ x. x.fall ≡ 0) → EscrowEditBy rows before after e
  spends : Spends rows before after e → EscrowEditBy rows before after e

pub record EditsBy (before : BoxRecord) (rows : List EscrowRow) (after : BoxRecord) (e : Edits) : Type 0 where
  pub log : EditBy before.log after.log (log_place e.log)
  pub escrow : EscrowEditBy rows before.escrow after.escrow e.escrow

-- ---- a call on one table

-- what it changes, and the table's value bytes at exit
pub record Stored : Type 0 where
  pub change : Change
  pub values : List ℕ

abbrev pub stored : Change → List ℕ → Stored
stored c values = record { change = c; values = values }

-- the table is left
abbrev pub kept : BoxRecord → List ℕ → Answer → Stored
kept b values a = stored (unchanged b a) values

-- what a call leaves, unless it is refused
unfoldable pub unless : (refusal : ℕ) → BoxRecord → (values : List ℕ) → Stored → Stored
unless refusal b values x = settled refusal (kept b values (refused_with refusal)) x

-- ---- an entry more, in the log or the escrow

-- what differs between the two
pub record Store (Row Key : Type 0) : Type 0 where
  pub table : RowsOf Row Key
  -- its counts in the box record, and the box record with others
  pub used : BoxRecord → Used
  pub held : BoxRecord → Used → BoxRecord
  -- a row put at an index
  pub put : (at : ℕ) → Row → Edits
  -- what the call answers
  pub number : Key → ℕ

abbrev pub log_store : Store LogRow LogKey
log_store =
    record {
      table = log_table;
      used = λ b. b.log;
      held = λ b u. record { taken = b.taken; running = b.running; identities = b.identities; log = u; escrow = b.escrow };
      put = λ at row. record { log = Some (record { at = at; row = row }); escrow = None };
      number = λ k. k.tag.0;
    }

abbrev pub escrow_store : Store EscrowRow EscrowKey
escrow_store =
    record {
      table = escrow_table;
      used = λ b. b.escrow;
      held = λ b u. record { taken = b.taken; running = b.running; identities = b.identities; log = b.log; escrow = u };
      put = λ at row. record { log = None; escrow = Some (record { at = at; row = row; fall = 0 }) };
      number = λ k. k.handle.0;
    }

-- the counts with one row of n bytes more
abbrev pub raised : Used → (n : ℕ) → Used
raised used n = record { rows = used.rows + 1; bytes = used.bytes + n }

-- one row and its value more
unfoldable pub more : {Row Key : Type 0} → Store Row Key → BoxRecord → (values : List ℕ) → Key → (value : List ℕ) → Stored
more s b values k v =
    let used = s.used b in
    stored
    (record {
      held = s.held b (raised used (length v));
      edits = s.put used.rows (s.table.row k used.bytes (length v));
      answer = accepted_with (s.number k);
    })
    (sets values used.bytes v)

-- ---- the host's tables after a call, with the rows before it and the bytes that it leaves

abbrev pub changed : Change → List LogRow → List EscrowRow → (heaps shared log_values escrow_values : List ℕ) → Tables
changed c log escrow = lent_tables c.held (log_edited c.edits.log log) (escrow_edited c.edits.escrow escrow)
