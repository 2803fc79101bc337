-- What protect does to the tables of a valid state is the step of that state, laid out. Assumes nothing.
use Prim.Native.Nat.{ℕ, ◌^◌, ◌≤◌}
use mathlib.Core.Path.{◌≡◌, refl, sym, ap, ◌∙◌}
use mathlib.Core.List.{List, []}
use native.Mathlib.Omega.{arith}
use lib.ListN.{length}
use lib.Dec.{eqb, leb}
use Rattle.record.specs.declared.Draw.{Draw}
use Rattle.record.specs.Call.{protect}
use Rattle.ideal.specs.declared.BoxRecord.{BoxRecord}
use Rattle.ideal.specs.declared.EscrowRow.{EscrowRow}
use Rattle.ideal.specs.State.{EscrowKey, part}
use Rattle.ideal.specs.Step.{free_handle, ◌then◌, accept, first_holding, full, idle, beyond, tests, refusal, protected, move, apply, effect, number, shown, step}
use Rattle.ideal.specs.Tables.{Tables, box_record, tables, state_of}
use Rattle.ideal.specs.Box.{laid}
use Rattle.ideal.specs.Valid.{Valid}
use Rattle.ideal.proofs.Passing.{failed, passed}
use Rattle.state.specs.Counts.{full_by, Room}
use Rattle.state.specs.Edits.{EditsBy, Stored, escrow_store, more}
use Rattle.state.specs.Parts.{caller_of, heap_byte, escrow_of}
use Rattle.state.proofs.Parts.{HeapFits, heap_fits, own_value, own_count}
use Rattle.state.proofs.Rooms.{has_room}
use Rattle.state.proofs.Settled.{ShowsNone, Moves}
use Rattle.state.proofs.Stores.{on_tables, on_escrow, escrow_edits, escrow_added, unless_edits, unless_alone, unless_step}
use Rattle.escrow.specs.Narrow.{protected_on, protect_refusal, protect_on}

-- what an accepted call passed
record Protects (b : BoxRecord) (offset size : ℕ) : Type 0 where
  heap : HeapFits b.running offset size
  room : Room b.escrow size

protects : (b : BoxRecord) (i o n : ℕ) (d : Draw) → b.running ≤ 16 → b.escrow.rows ≤ 64 → protect_refusal b i o n d ≡ 0
    → Protects b o n
unfolding protect_refusal
protects b i o n d runs few e =
    let e₁ = passed 3 (eqb b.running 16) _ e in
    let e₂ = passed 8 (eqb i 0) _ e₁ in
    let e₃ = passed 10 (beyond 256 o n) _ e₂ in
    let e₄ = passed 11 (leb (2 ^ 48) d.0) _ e₃ in
    record {
      heap = heap_fits b.running o n runs (failed 3 (eqb b.running 16) _ e) (failed 10 (beyond 256 o n) _ e₂);
      room = has_room b.escrow n few (failed 13 (full_by b.escrow n) _ e₄);
    }

-- a row is put only where one is not used
pub protect_edits : (b : BoxRecord) (rows : List EscrowRow) (heaps values : List ℕ) (i o n : ℕ) (d : Draw) → b.running ≤ 16
    → b.escrow.rows ≤ 64 → let c = (protect_on b rows heaps values i o n d).change in EditsBy b rows c.held c.edits
unfolding protect_on protected_on
protect_edits b rows heaps values i o n d runs few =
    unless_edits b values _ rows _ (λ e. escrow_edits b rows values _ _ (protects b i o n d runs few e).room.row)

-- it uses no byte of a record, and shows none
pub protect_alone : (b : BoxRecord) (rows : List EscrowRow) (heaps values : List ℕ) (i o n : ℕ) (d : Draw)
    → ShowsNone (protect_on b rows heaps values i o n d).change.answer
unfolding protect_on protected_on more
protect_alone b rows heaps values i o n d = unless_alone b values _ _ refl

module _ (t : Tables) (k : Valid (state_of t)) (e : tables (state_of t) ≡ t) (i o n : ℕ) (d : Draw) where
  abbrev value : List ℕ
  value = part t.heaps (heap_byte t.box o) n

  abbrev key : EscrowKey
  key =
      record {
        source = caller_of t.box;
        recipient = i;
        handle = free_handle (length value) d (escrow_of t.box t.escrow_rows t.escrow_values);
        mark = 0;
      }

  abbrev x : Stored
  x = protected_on t.box t.escrow_rows t.escrow_values (caller_of t.box) i d value

  protect_refusal_lem : refusal (state_of t) (protect i o n d) ≡ protect_refusal t.box i o n d
  unfolding refusal tests protect_refusal idle full full_by tables box_record state_of
  protect_refusal_lem =
      ap (λ y.
      first_holding
      ((4, eqb t.box.running 16) then (9, eqb i 0) then (11, beyond 256 o n) then (12, leb (2 ^ 48) d.0)
      then (14, full_by y.box.escrow n) then accept)) e

  passes : refusal (state_of t) (protect i o n d) ≡ 0 → Protects t.box o n
  unfolding tables box_record state_of
  passes r =
      let m = ap (λ y. y.box.escrow.rows) e in
      protects t.box i o n d k.runs (omega (arith, k.escrow.few)) (sym protect_refusal_lem ∙ r)

  protect_moves : Moves t (on_escrow t x) (protect i o n d) key.handle.0 []
  unfolding effect move apply number shown protected protected_on state_of
  protect_moves =
      record {
        leaves = λ r.
            let p = passes r in
            let size = own_count t k e o n p.heap in
            rw (own_value t k e o n p.heap, size)
            (rw size at
            (escrow_added (state_of t) (record { key = key; value = value }) (rw (e, size) p.room)
            ∙ ap (λ y. on_escrow y (more escrow_store y.box y.escrow_values key value)) e));
        answers = λ r. rw (own_count t k e o n (passes r).heap);
        shows = λ r. refl;
      }

  pub protect_step : (used : ℕ) → laid (step (state_of t) (protect i o n d) used)
      ≡ on_tables (on_escrow t) (protect_on t.box t.escrow_rows t.heaps t.escrow_values i o n d) used
  unfolding protect_on protected_on more
  protect_step used = unless_step (on_escrow t) (λ a. refl) x used e protect_refusal_lem refl protect_moves
