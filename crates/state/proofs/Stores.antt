-- Calls that add an entry to the log or the escrow. Assumes nothing.
use Prim.Native.Nat.{ℕ, zero, suc, ◌<◌}
use mathlib.Core.Path.{◌≡◌, refl, ◌∙◌}
use mathlib.Core.List.{List, [], ◌∷◌, ◌++◌}
use lib.ListN.{length}
use Rattle.record.specs.Call.{Call}
use Rattle.ideal.specs.declared.BoxRecord.{BoxRecord}
use Rattle.ideal.specs.declared.EscrowRow.{EscrowRow}
use Rattle.ideal.specs.State.{LogKey, EscrowKey, Logged, Escrowed, State}
use Rattle.ideal.specs.Step.{with_common, refusal, step}
use Rattle.ideal.specs.Tables.{Tables, box_record, tables, state_of}
use Rattle.ideal.specs.Box.{Result, laid}
use Rattle.ideal.proofs.Table.{log_lawful, escrow_lawful}
use Rattle.ideal.proofs.More.{row_added, value_added, counts_raised}
use Rattle.state.specs.declared.Answer.{Answer}
use Rattle.state.specs.Answers.{refused_with, accepted_with, settled}
use Rattle.state.specs.Counts.{Room}
use Rattle.state.specs.Edits.{counted, EditsBy, Stored, kept, changed, unless, log_store, escrow_store, more}
use Rattle.state.proofs.Edited.{no_edits_lem, none_put, one_put}
use Rattle.state.proofs.Lowered.{no_fall}
use Rattle.state.proofs.Settled.{answer_of, ShowsNone, settled_result, Moves, laid_step}

-- ---- a call that leaves x, unless it is refused

module _ (b : BoxRecord) (values : List ℕ) (x : Stored) where
  pub unless_edits : (escrow : List EscrowRow) (r : ℕ) → (r ≡ 0 → EditsBy b escrow x.change.held x.change.edits)
      → let c = (unless r b values x).change in EditsBy b escrow c.held c.edits
  unfolding unless settled
  unless_edits escrow zero h = h refl
  unless_edits escrow (suc r) h = no_edits_lem b escrow b refl refl

  -- it uses no byte of a record, and shows none
  pub unless_alone : {n : ℕ} (r : ℕ) → x.change.answer ≡ accepted_with n → ShowsNone (unless r b values x).change.answer
  unfolding unless settled
  unless_alone zero a = rw a (refl, refl)
  unless_alone (suc r) a = (refl, refl)

-- the tables that a call leaves, and the whole answer
abbrev pub on_tables : (Stored → Tables) → Stored → (used : ℕ) → Result
on_tables left x used = record { tables = left x; answer = answer_of x.change.answer used [] }

module _ {t : Tables} {values : List ℕ} (left : Stored → Tables) (same : (a : Answer) → left (kept t.box values a) ≡ t) (x : Stored) where
  unless_settled : (r n used : ℕ) → x.change.answer ≡ accepted_with n
      → settled_result r t (left x) n [] used ≡ on_tables left (unless r t.box values x) used
  unfolding unless settled
  unless_settled zero n used a = rw a
  unless_settled (suc r) n used a = rw (same (refused_with (suc r)))

  pub unless_step : {c : Call} {r n : ℕ} (used : ℕ) → tables (state_of t) ≡ t → refusal (state_of t) c ≡ r
      → x.change.answer ≡ accepted_with n → Moves t (left x) c n []
      → laid (step (state_of t) c used) ≡ on_tables left (unless r t.box values x) used
  unless_step {c} {r} {n} used e h a m = rw h at (laid_step used e m) ∙ unless_settled r n used a

-- ---- one row and its value more

abbrev pub on_log : Tables → Stored → Tables
on_log t x = changed x.change t.log_rows t.escrow_rows t.heaps t.shared x.values t.escrow_values

abbrev pub on_escrow : Tables → Stored → Tables
on_escrow t x = changed x.change t.log_rows t.escrow_rows t.heaps t.shared t.log_values x.values

-- a row is put only where one is not used
module _ (b : BoxRecord) (escrow : List EscrowRow) (values v : List ℕ) where
  pub log_edits : (k : LogKey) → b.log.rows < 64 → let c = (more log_store b values k v).change in EditsBy b escrow c.held c.edits
  unfolding more
  log_edits k h = record { log = one_put _ _ (length v) refl h; escrow = counted (none_put _ _ refl) tt }

  pub escrow_edits : (k : EscrowKey) → b.escrow.rows < 64
      → let c = (more escrow_store b values k v).change in EditsBy b escrow c.held c.edits
  unfolding more
  escrow_edits k h = record { log = none_put _ _ refl; escrow = counted (one_put _ _ (length v) refl h) refl }

module _ (s : State) where
  pub log_added : (e : Logged) → Room (tables s).box.log (length e.value)
      → tables (with_common s s.shared (s.log ++ (e ∷ [])) s.escrow)
      ≡ on_log (tables s) (more log_store (tables s).box (tables s).log_values e.key e.value)
  unfolding tables box_record more
  log_added e room =
      rw (counts_raised s.log e, row_added log_lawful s.log e room.row, value_added s.log e room.bytes)

  pub escrow_added : (e : Escrowed) → Room (tables s).box.escrow (length e.value)
      → tables (with_common s s.shared s.log (s.escrow ++ (e ∷ [])))
      ≡ on_escrow (tables s) (more escrow_store (tables s).box (tables s).escrow_values e.key e.value)
  unfolding tables box_record more
  escrow_added e room =
      rw (counts_raised s.escrow e, row_added escrow_lawful s.escrow e room.row, no_fall escrow_lawful, value_added s.escrow e room.bytes)
