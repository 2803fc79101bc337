-- What attest and check do to the tables of a valid state is the laid-out step of that state. Assumes nothing.
use Prim.Native.Nat.{ℕ, ◌≤◌}
use mathlib.Core.Path.{◌≡◌, refl, sym, ap, ◌∙◌}
use mathlib.Core.Bool.{false}
use mathlib.Core.List.{List, []}
use native.Mathlib.Omega.{arith}
use lib.Dec.{eqb}
use Rattle.fnv.specs.declared.Tag.{Tag}
use Rattle.fnv.specs.Fnv.{tag_of}
use Rattle.record.specs.Call.{attest, check}
use Rattle.ideal.specs.declared.BoxRecord.{BoxRecord}
use Rattle.ideal.specs.declared.LogRow.{LogRow}
use Rattle.ideal.specs.declared.EscrowRow.{EscrowRow}
use Rattle.ideal.specs.State.{LogKey, part}
use Rattle.ideal.specs.Step.{paired, logged, full, with_pair, first_holding, idle, beyond, tests, refusal, move, apply, effect, number, shown, step}
use Rattle.ideal.specs.Tables.{Tables, box_record, tables, state_of}
use Rattle.ideal.specs.Box.{laid}
use Rattle.ideal.specs.Valid.{Valid}
use Rattle.lists.proofs.Bools.{by_cases, and_other, not_is}
use Rattle.ideal.proofs.Passing.{failed, passed}
use Rattle.ideal.proofs.Entries.{right_tags}
use Rattle.state.specs.Answers.{accepted_with}
use Rattle.state.specs.Counts.{full_by, Room}
use Rattle.state.specs.Edits.{EditsBy, Stored, log_store, more}
use Rattle.state.specs.Parts.{caller_of, heap_byte, log_of}
use Rattle.state.proofs.Edited.{no_edits_lem}
use Rattle.state.proofs.Parts.{HeapFits, heap_fits, own_value, own_count}
use Rattle.state.proofs.Rooms.{has_room}
use Rattle.state.proofs.Settled.{answer_of, ShowsNone, part_settled, Moves, laid_step}
use Rattle.state.proofs.Stores.{on_tables, on_log, log_edits, log_added, unless_edits, unless_alone, unless_step}
use Rattle.attesting.specs.Narrow.{attested, attest_refusal, attest_on, check_on}
use Rattle.pairs.proofs.Pairs.{paired_logged}

-- ---- attest, of any parts

module _ (b : BoxRecord) (rows : List LogRow) (values : List ℕ) (i : ℕ) (g : Tag) (v : List ℕ) where
  -- what an accepted call passed
  record Attests (offset size : ℕ) : Type 0 where
    heap : HeapFits b.running offset size
    room : logged i g v (log_of b rows values) ≡ false → Room b.log size

  attests : (o n : ℕ) → b.running ≤ 16 → b.log.rows ≤ 64 → attest_refusal b rows values o n i g v ≡ 0 → Attests o n
  unfolding attest_refusal
  attests o n runs few e =
      let e₁ = passed 3 (eqb b.running 16) _ e in
      let e₂ = passed 10 (beyond 256 o n) _ e₁ in
      record {
        heap = heap_fits b.running o n runs (failed 3 (eqb b.running 16) _ e) (failed 10 (beyond 256 o n) _ e₁);
        room = λ h. has_room b.log n few (and_other _ (full_by b.log n) (not_is _ h) (failed 12 _ _ e₂));
      }

  attested_edits : (escrow : List EscrowRow) {o n : ℕ} → Attests o n
      → let c = (attested b rows values i g v).change in EditsBy b escrow c.held c.edits
  unfolding attested
  attested_edits escrow p =
      by_cases (logged i g v (log_of b rows values)) (λ h. rw h (no_edits_lem b escrow b refl refl))
      (λ h. rw h (log_edits b escrow values v _ (p.room h).row))

  attested_answer : (attested b rows values i g v).change.answer ≡ accepted_with g.0
  unfolding attested more
  attested_answer = by_cases (logged i g v (log_of b rows values)) (λ h. rw h) (λ h. rw h)

-- a row is put only where one is not used
pub attest_edits : (b : BoxRecord) (rows : List LogRow) (escrow : List EscrowRow) (heaps values : List ℕ) (o n : ℕ)
    → b.running ≤ 16 → b.log.rows ≤ 64
    → let c = (attest_on b rows heaps values o n).change in EditsBy b escrow c.held c.edits
unfolding attest_on
attest_edits b rows escrow heaps values o n runs few =
    unless_edits b values _ escrow _ (λ e. attested_edits b rows values _ _ _ escrow (attests b rows values _ _ _ o n runs few e))

-- it uses no byte of a record, and shows none
pub attest_alone : (b : BoxRecord) (rows : List LogRow) (heaps values : List ℕ) (o n : ℕ)
    → ShowsNone (attest_on b rows heaps values o n).change.answer
unfolding attest_on
attest_alone b rows heaps values o n = unless_alone b values _ _ (attested_answer b rows values _ _ _)

module _ (t : Tables) (k : Valid (state_of t)) (e : tables (state_of t) ≡ t) where
  -- ---- attest, as the step

  module _ (o n : ℕ) where
    abbrev i : ℕ
    i = caller_of t.box

    abbrev v : List ℕ
    v = part t.heaps (heap_byte t.box o) n

    abbrev key : LogKey
    key = record { identity = i; tag = tag_of i v }

    abbrev x : Stored
    x = attested t.box t.log_rows t.log_values i (tag_of i v) v

    fullness : full (state_of t).log n ≡ full_by t.box.log n
    unfolding full full_by tables box_record
    fullness = ap (λ y. full_by y.box.log n) e

    -- tags are right, so that the code may look for them first
    pairs : paired i v (state_of t).log ≡ logged i (tag_of i v) v (state_of t).log
    pairs = paired_logged i v (state_of t).log (right_tags k)

    -- the last test agrees where the first two have passed
    attest_refusal_lem : refusal (state_of t) (attest o n) ≡ attest_refusal t.box t.log_rows t.log_values o n i (tag_of i v) v
    unfolding refusal tests first_holding attest_refusal idle state_of
    attest_refusal_lem =
        by_cases (idle (state_of t)) (λ h. rw h)
        (λ runs.
        by_cases (beyond 256 o n) (λ h. rw (runs, h))
        (λ within.
        let own = own_value t k e o n (heap_fits t.box.running o n k.runs runs within) in
        rw (runs, within, own, pairs, fullness)))

    passes : refusal (state_of t) (attest o n) ≡ 0 → Attests t.box t.log_rows t.log_values i (tag_of i v) v o n
    unfolding tables box_record state_of
    passes r =
        let m = ap (λ y. y.box.log.rows) e in
        attests t.box _ _ _ _ _ o n k.runs (omega (arith, k.log.few)) (sym attest_refusal_lem ∙ r)

    attest_moves : Moves t (on_log t x) (attest o n) (tag_of i v).0 []
    unfolding effect move apply number shown with_pair attested state_of
    attest_moves =
        record {
          leaves = λ r.
              let p = passes r in
              rw (own_value t k e o n p.heap, pairs)
              (by_cases (logged i (tag_of i v) v (state_of t).log) (λ h. rw h e)
              (λ h.
              rw h
              (log_added (state_of t) (record { key = key; value = v }) (rw (e, own_count t k e o n p.heap) (p.room h))
              ∙ ap (λ y. on_log y (more log_store y.box y.log_values key v)) e)));
          answers = λ r. ap (λ y. (tag_of i y).0) (own_value t k e o n (passes r).heap);
          shows = λ r. refl;
        }

    pub attest_step : (used : ℕ) → laid (step (state_of t) (attest o n) used)
        ≡ on_tables (on_log t) (attest_on t.box t.log_rows t.heaps t.log_values o n) used
    unfolding attest_on
    attest_step used =
        unless_step (on_log t) (λ a. refl) x used e attest_refusal_lem (attested_answer t.box _ _ _ _ _) attest_moves

  -- ---- check alters nothing

  pub check_step : (i : ℕ) (g : Tag) (v : List ℕ) (used : ℕ) → laid (step (state_of t) (check i g v) used)
      ≡ record { tables = t; answer = answer_of (check_on t.box t.log_rows t.log_values i g v) used [] }
  unfolding check_on refusal tests effect move apply number shown state_of
  check_step i g v used =
      laid_step used e (record { leaves = λ r. e; answers = λ r. refl; shows = λ r. refl })
      ∙ part_settled (λ (y : Tables). t) t t _ _ used refl
