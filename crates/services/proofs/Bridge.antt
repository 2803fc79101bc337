-- What the calls on services leave and answer on a sound box is the step of the state that it stands for, laid out; and
-- what create and exit ask of their callers holds there. Assumes nothing.
use Prim.Native.Nat.{ℕ, zero, suc, ◌*◌}
use mathlib.Core.Path.{◌≡◌, refl, sym, ap, ◌∙◌}
use mathlib.Core.List.{List, []}
use native.Mathlib.Omega.{arith}
use lib.ListN.{length, set}
use lib.Seq.{sets}
use Rattle.record.specs.Call.{Call, create, exit, report, hand_over}
use Rattle.ideal.specs.declared.BoxRecord.{BoxRecord}
use Rattle.ideal.specs.State.{activates, cleared}
use Rattle.ideal.specs.Step.{accept, first_holding, idle, vacant, tests, refusal, move, apply, effect, number, shown, services, step}
use Rattle.ideal.specs.Tables.{Tables, taken_map, flat, box_record, tables, state_of}
use Rattle.ideal.specs.Box.{laid}
use Rattle.ideal.specs.History.{ones}
use Rattle.ideal.specs.Valid.{Valid}
use Rattle.ideal.proofs.Passing.{failed}
use Rattle.ideal.proofs.Kept.{cleared_length, busy}
use Rattle.ideal.proofs.Heaps.{flat_length}
use Rattle.ideal.proofs.HeapBytes.{replaced_bytes}
use Rattle.ideal.proofs.Memory.{ones_taken}
use Rattle.state.specs.Answers.{settled, answered}
use Rattle.state.proofs.Settled.{answer_of, settled_result, part_settled, Moves, laid_step}
use Rattle.services.specs.Narrow.{Leaving, box_with_identity, box_with_running, box_after_exit, create_on, exit_on, exit_heaps, counts, report_on, hand_over_on}

-- the tables with another box record and other heaps
abbrev pub replace_places : Tables → BoxRecord → List ℕ → Tables
replace_places t b heaps =
    record {
      box = b;
      heaps = heaps;
      shared = t.shared;
      log_rows = t.log_rows;
      log_values = t.log_values;
      escrow_rows = t.escrow_rows;
      escrow_values = t.escrow_values;
    }

module _ (t : Tables) (k : Valid (state_of t)) (e : tables (state_of t) ≡ t) where
  -- ---- a call that alters the box record alone

  pub box_step : {c : Call} {n : ℕ} (after : BoxRecord) (used : ℕ) → Moves t (replace_places t after t.heaps) c n []
      → let r = refusal (state_of t) c in
      laid (step (state_of t) c used)
      ≡ record { tables = replace_places t (settled r t.box after) t.heaps; answer = answer_of (answered r n) used [] }
  box_step {c} {n} after used m =
      laid_step used e m
      ∙ part_settled (λ x. replace_places t x t.heaps) t.box after (refusal (state_of t) c) n used refl

  pub create_ready : t.box.taken ≡ taken_map t.box.identities
  unfolding tables box_record state_of
  create_ready = sym (ap (λ x. x.box.taken) e)

  pub create_step : (p i used : ℕ) → laid (step (state_of t) (create p i) used)
      ≡ record {
        tables = replace_places t (create_on t.box p i).held t.heaps;
        answer = answer_of (create_on t.box p i).answer used [];
      }
  unfolding create_on refusal tests vacant effect move apply number shown tables box_record state_of
  create_step p i used =
      box_step (box_with_identity t.box p i) used
      (record {
        leaves = λ r. ap (λ x. replace_places x (box_with_identity x.box p i) x.heaps) e;
        answers = λ r. refl;
        shows = λ r. refl;
      })

  running_moves : (p : ℕ) → tables (apply (state_of t) (activates p)) ≡ replace_places t (box_with_running t.box p) t.heaps
  unfolding apply tables box_record
  running_moves p = ap (λ x. replace_places x (box_with_running x.box p) x.heaps) e

  pub hand_over_step : (p used : ℕ) → laid (step (state_of t) (hand_over p) used)
      ≡ record {
        tables = replace_places t (hand_over_on t.box p).held t.heaps;
        answer = answer_of (hand_over_on t.box p).answer used [];
      }
  unfolding hand_over_on refusal tests vacant effect move apply number shown state_of
  hand_over_step p used =
      box_step (box_with_running t.box p) used (record { leaves = λ r. running_moves p; answers = λ r. refl; shows = λ r. refl })

  -- ---- exit alters the heaps too

  both_settled : (r n used : ℕ) (after : BoxRecord) (heaps : List ℕ) → settled_result r t (replace_places t after heaps) n [] used
      ≡ record {
        tables = replace_places t (settled r t.box after) (settled r t.heaps heaps);
        answer = answer_of (answered r n) used [];
      }
  unfolding settled answered
  both_settled zero n used after heaps = refl
  both_settled (suc r) n used after heaps = refl

  pub exit_ready : Leaving t.box t.heaps
  unfolding tables state_of
  exit_ready =
      record {
        map = create_ready;
        runs = k.runs;
        live = k.live;
        size =
            sym (ap (λ x. length x.heaps) e)
            ∙ flat_length (state_of t).heaps (λ p h. k.sizes p (omega (arith, k.heaps)))
            ∙ rw k.heaps;
      }

  exit_moves : Moves t (replace_places t (box_after_exit t.box) (sets t.heaps (256 * t.box.running) cleared)) exit 0 []
  unfolding refusal tests idle effect move apply number shown tables box_record state_of
  exit_moves =
      record {
        leaves = λ r.
            let run = busy (state_of t) k (failed 3 (idle (state_of t)) accept r) in
            ap (λ x. replace_places x (box_after_exit x.box) (flat (set (state_of t).heaps t.box.running cleared))) e
            ∙ ap (replace_places t (box_after_exit t.box)) (replaced_bytes t k e cleared run cleared_length);
        answers = λ r. refl;
        shows = λ r. refl;
      }

  pub exit_step : (used : ℕ) → laid (step (state_of t) exit used)
      ≡ record {
        tables = replace_places t (exit_on t.box).held (exit_heaps t.box t.heaps);
        answer = answer_of (exit_on t.box).answer used [];
      }
  unfolding exit_on exit_heaps refusal tests idle state_of
  exit_step used = laid_step used e exit_moves ∙ both_settled (refusal (state_of t) exit) 0 used (box_after_exit t.box) _

  -- ---- report alters nothing

  services_counted : services t.box.identities ≡ ones 16 (taken_map t.box.identities)
  unfolding state_of
  services_counted = sym (ones_taken t.box.identities) ∙ ap (λ n. ones n (taken_map t.box.identities)) k.places

  pub report_step : (used : ℕ) → laid (step (state_of t) report used)
      ≡ record { tables = t; answer = answer_of (report_on t.box) used [] }
  unfolding report_on refusal tests first_holding settled answered effect move apply number shown tables box_record state_of
  report_step used =
      laid_step {n = counts t.box} used e
      (record {
        leaves = λ r. e;
        answers = λ r. rw services_counted (ap (λ x. counts x.box) e);
        shows = λ r. refl;
      })
