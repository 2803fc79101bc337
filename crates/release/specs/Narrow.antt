-- What release leaves and answers, on the parts of the box that it is given.
use Rattle.std.specs.Prelude.{ℕ, ◌-◌, ◌≤◌, List, ◌++◌, get_or, take, drop, replicate, eqb, Some, None}
use Rattle.std.proofs.lemmas.List.Edits.{sets}
use Rattle.record.specs.declared.Handle.{Handle}
use Rattle.ideal.specs.declared.BoxRecord.{BoxRecord}
use Rattle.ideal.specs.declared.EscrowRow.{EscrowRow}
use Rattle.ideal.specs.declared.Used.{Used}
use Rattle.ideal.specs.State.{part, position}
use Rattle.ideal.specs.Step.{absent, accept, ◌then◌, first_holding}
use Rattle.ideal.specs.Tables.{escrow_table}
use Rattle.ideal.specs.Refusals.{is_row}
use Rattle.ideal.specs.Fit.{RowsFit}
use Rattle.state.specs.declared.Change.{Change}
use Rattle.state.specs.Answers.{accepted_with}
use Rattle.state.specs.Edits.{spending, lessened, Stored, stored, unless, escrow_store}
use Rattle.state.specs.Parts.{caller_of}
use Rattle.retrieval.specs.Narrow.{found_on}

-- the used rows lie within the used bytes, and these within the table
pub record UsedFits (used : Used) (rows : List EscrowRow) : Type 0 where
  pub bytes : used.bytes ≤ 4096
  pub fit : RowsFit escrow_table rows used.rows used.bytes

-- the row r at an index spent
abbrev pub spent_at : BoxRecord → (at : ℕ) → EscrowRow → Change
spent_at b at r =
    record {
      held = escrow_store.held b (lessened b.escrow r.length);
      edits = record { log = None; escrow = Some (spending at r) };
      answer = accepted_with 0;
    }

-- the value bytes without those of the row r: the used bytes behind them close up, with zeros behind
abbrev pub taken_out : (end : ℕ) → EscrowRow → List ℕ → List ℕ
taken_out end r values =
    sets values r.first (drop r.length (part values r.first (end - r.first)) ++ replicate r.length 0)

-- the index of the row that the running program names
unfoldable pub given_at : BoxRecord → List EscrowRow → (source : ℕ) → Handle → ℕ
given_at b rows i h = position (is_row h i (caller_of b)) (take b.escrow.rows rows)

-- it is given up
unfoldable pub released_on : BoxRecord → List EscrowRow → (values : List ℕ) → (at : ℕ) → Stored
released_on b rows values at =
    let r = get_or rows at escrow_table.blank in
    stored (spent_at b at r) (taken_out b.escrow.bytes r values)

unfoldable pub release_refusal : BoxRecord → List EscrowRow → (values : List ℕ) → (source : ℕ) → Handle → ℕ
release_refusal b rows values i h =
    first_holding
    ((4, eqb b.running 16) then (9, eqb i 0) then (10, absent (found_on b rows values i h)) then accept)

unfoldable pub release_on : BoxRecord → List EscrowRow → (values : List ℕ) → (source : ℕ) → Handle → Stored
release_on b rows values i h =
    unless (release_refusal b rows values i h) b values (released_on b rows values (given_at b rows i h))
