-- What release does to the tables of a valid state is the step of that state, laid out. Assumes nothing.
use Prim.Native.Nat.{ℕ, ◌≤◌, ◌<◌}
use mathlib.Core.Path.{◌≡◌, refl, sym, ap, ◌∙◌}
use mathlib.Core.Bool.{true, ◌&&◌}
use mathlib.Core.List.{List, []}
use native.Mathlib.Omega.{arith}
use lib.ListN.{length, get_or, take, length-take}
use lib.Seq.{get_or-take}
use lib.Dec.{eqb}
use borrow.Author.Tests.{eqb-true}
use Rattle.record.specs.declared.Handle.{Handle}
use Rattle.record.specs.Call.{release}
use Rattle.ideal.specs.declared.BoxRecord.{BoxRecord}
use Rattle.ideal.specs.declared.EscrowRow.{EscrowRow}
use Rattle.ideal.specs.declared.Used.{Used}
use Rattle.ideal.specs.State.{any, position}
use Rattle.ideal.specs.Step.{is_named, is_escrowed, absent, found, idle, tests, refusal, number, shown, step}
use Rattle.ideal.specs.Tables.{Tables, escrow_table, entries_of, tables, used_escrow, state_of}
use Rattle.ideal.specs.Box.{laid}
use Rattle.ideal.specs.Valid.{Valid}
use Rattle.ideal.specs.Refusals.{caller_in, is_row}
use Rattle.ideal.specs.OneCall.{spent_row, with_released}
use Rattle.ideal.specs.Fit.{RowsFit}
use Rattle.ideal.proofs.Passing.{failed, passed}
use Rattle.ideal.proofs.Table.{Stands}
use Rattle.ideal.proofs.Fit.{chain_fits}
use Rattle.ideal.proofs.Facts.{facts}
use Rattle.ideal.proofs.Laid.{sound_tables}
use Rattle.ideal.proofs.Unique.{present}
use Rattle.ideal.proofs.FoundRows.{any_entries}
use Rattle.ideal.proofs.Does.{release_passed}
use Rattle.ideal.proofs.OneCalls.{release_leaves}
use Rattle.lists.proofs.Bools.{and_right}
use Rattle.lists.proofs.Lists.{position_within, position_passes}
use Rattle.state.specs.Edits.{spends, EditsBy, Stored}
use Rattle.state.specs.Parts.{caller_of, escrow_of}
use Rattle.state.proofs.Edited.{none_put}
use Rattle.state.proofs.Settled.{ShowsNone, Moves}
use Rattle.state.proofs.Stores.{on_tables, on_escrow, unless_edits, unless_alone, unless_step}
use Rattle.retrieval.specs.Narrow.{found_on}
use Rattle.release.specs.Narrow.{UsedFits, given_at, released_on, release_refusal, release_on}
use Rattle.release.proofs.Closed.{closed_up, edited_rows}

-- a sound table is as release requires
pub used_fits : {rows : List EscrowRow} {values : List ℕ} {used : Used} → Stands escrow_table rows values used → UsedFits used rows
used_fits {rows} {values} {used} s =
    record { bytes = s.fits; fit = chain_fits escrow_table rows used.rows used.bytes 0 (omega (arith, s.few, s.row_count)) s.chain }

-- ---- the row that an accepted release names

-- what is told of the entries is told of the rows
rows_told : (h : Handle) (i r : ℕ) (values : List ℕ) (rows : List EscrowRow)
    → any (is_escrowed h i r) (entries_of escrow_table values rows) ≡ any (is_row h i r) rows
unfolding is_row is_named is_escrowed
rows_told h i r values rows = any_entries escrow_table (is_escrowed h i r) values rows

unspent_row : (h : Handle) (i r : ℕ) (row : EscrowRow) → is_row h i r row ≡ true → row.mark ≡ 0
unfolding is_row
unspent_row h i r row e =
    eqb-true row.mark 0
    (and_right (eqb row.handle.0 h.0 && (eqb row.source i && eqb row.recipient r)) _ e)

record Named (b : BoxRecord) (rows : List EscrowRow) (k : ℕ) : Type 0 where
  used : k < b.escrow.rows
  unspent : (get_or rows k escrow_table.blank).mark ≡ 0

module _ (b : BoxRecord) (rows : List EscrowRow) (values : List ℕ) (i : ℕ) (h : Handle) (few : b.escrow.rows ≤ 64)
    (count : length rows ≡ 64) where
  named : release_refusal b rows values i h ≡ 0 → Named b rows (given_at b rows i h)
  unfolding release_refusal given_at
  named e =
      let q = is_row h i (caller_of b) in
      let n = b.escrow.rows in
      let used = take n rows in
      let e₂ = passed 8 (eqb i 0) _ (passed 3 (eqb b.running 16) _ e) in
      let there = present (is_escrowed h i (caller_of b)) (escrow_of b rows values) (failed 9 (absent (found_on b rows values i h)) _ e₂) in
      let some : any q used ≡ true = sym (rows_told h i (caller_of b) values used) ∙ there in
      let m : length used ≡ n = simp length-take (omega arith) in
      let within = position_within q used some in
      let passes : q (get_or used (position q used) escrow_table.blank) ≡ true = position_passes q used escrow_table.blank some in
      let low : position q used < n = omega arith in
      record {
        used = low;
        unspent =
            unspent_row h i (caller_of b) _ (rw (get_or-take n rows (position q used) escrow_table.blank low) at passes);
      }

  -- a row is put within the table, and only one that was not spent
  pub release_edits : let c = (release_on b rows values i h).change in EditsBy b rows c.held c.edits
  unfolding release_on released_on
  release_edits =
      unless_edits b values _ rows _
      (λ e.
      let n = named e in
      record {
        log = none_put _ _ refl;
        escrow = spends (record { at = given_at b rows i h; used = n.used; fits = omega (arith, n.used); unspent = n.unspent; edit = refl; counts = refl });
      })

-- it uses no byte of a record, and shows none
pub release_alone : (b : BoxRecord) (rows : List EscrowRow) (values : List ℕ) (i : ℕ) (h : Handle)
    → ShowsNone (release_on b rows values i h).change.answer
unfolding release_on released_on
release_alone b rows values i h = unless_alone b values _ _ refl

-- ---- the step

module _ (t : Tables) (k : Valid (state_of t)) (e : tables (state_of t) ≡ t) (i : ℕ) (h : Handle) where
  abbrev at : ℕ
  at = given_at t.box t.escrow_rows i h

  abbrev x : Stored
  x = released_on t.box t.escrow_rows t.escrow_values at

  stands : Stands escrow_table t.escrow_rows t.escrow_values t.box.escrow
  stands = rw e at (facts (tables (state_of t)) 1024 (sound_tables (state_of t) k)).escrow

  release_refusal_lem : refusal (state_of t) (release i h) ≡ release_refusal t.box t.escrow_rows t.escrow_values i h
  unfolding refusal tests release_refusal idle found state_of
  release_refusal_lem = refl

  released_is : at < t.box.escrow.rows → with_released t at ≡ on_escrow t x
  unfolding with_released released_on RowsFit
  released_is low =
      let s = stands in
      let r = get_or t.escrow_rows at escrow_table.blank in
      let n = s.row_count in
      let m = s.value_count in
      let few = s.few in
      let end = s.fits in
      let fit = (used_fits s).fit at low in
      let rows = edited_rows t.escrow_rows at r.length (spent_row r) (omega arith) in
      let values = closed_up t.escrow_values r.first r.length t.box.escrow.bytes fit (omega arith) s.zero in
      rw (rows, values)

  -- the definition's tables are the host's
  named_there : let s = tables (state_of t) in with_released s (position (is_row h i (caller_in s)) (used_escrow s)) ≡ with_released t at
  unfolding given_at
  named_there = ap (λ s. with_released s (position (is_row h i (caller_in s)) (used_escrow s))) e

  release_moves : Moves t (on_escrow t x) (release i h) 0 []
  unfolding number shown
  release_moves =
      record {
        leaves = λ r.
            let s = stands in
            let a = release_passed (state_of t) i h k r in
            let n = named t.box t.escrow_rows t.escrow_values i h s.few s.row_count (sym release_refusal_lem ∙ r) in
            release_leaves (state_of t) k i h a ∙ named_there ∙ released_is n.used;
        answers = λ r. refl;
        shows = λ r. refl;
      }

  pub release_step : (used : ℕ) → laid (step (state_of t) (release i h) used)
      ≡ on_tables (on_escrow t) (release_on t.box t.escrow_rows t.escrow_values i h) used
  unfolding release_on released_on
  release_step used = unless_step (on_escrow t) (λ a. refl) x used e release_refusal_lem refl release_moves
