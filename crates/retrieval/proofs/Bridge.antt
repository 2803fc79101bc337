-- What retrieve does to the tables of a valid state is the step of that state, laid out. Assumes nothing.
use Prim.Native.Nat.{ℕ}
use mathlib.Core.Path.{◌≡◌, refl, ◌∙◌}
use mathlib.Core.List.{List, []}
use lib.ListN.{length}
use lib.Seq.{sets}
use lib.Dec.{eqb}
use Rattle.record.specs.declared.Handle.{Handle}
use Rattle.record.specs.Call.{retrieve}
use Rattle.ideal.specs.Step.{found, absent, value_in, idle, beyond, tests, refusal, move, apply, effect, number, shown, step}
use Rattle.ideal.specs.Tables.{Tables, tables, state_of}
use Rattle.ideal.specs.Box.{laid}
use Rattle.ideal.proofs.Passing.{failed, passed}
use Rattle.ideal.specs.Valid.{Valid}
use Rattle.ideal.proofs.HeapBytes.{replace_heaps, written_bytes}
use Rattle.state.specs.Parts.{heap_byte}
use Rattle.state.proofs.Parts.{HeapFits, heap_fits}
use Rattle.state.proofs.Settled.{answer_of, part_settled, Moves, laid_step}
use Rattle.retrieval.specs.Narrow.{found_on, retrieve_refusal, retrieve_answer, retrieve_heaps}

module _ (t : Tables) (k : Valid (state_of t)) (e : tables (state_of t) ≡ t) where
  module _ (i o : ℕ) (h : Handle) where
    abbrev refused : ℕ
    refused = retrieve_refusal t.box t.escrow_rows t.escrow_values i o h

    abbrev handed : List ℕ
    handed = value_in (found_on t.box t.escrow_rows t.escrow_values i h)

    retrieves : refused ≡ 0 → HeapFits t.box.running o (length handed)
    unfolding retrieve_refusal state_of
    retrieves r =
        let p = t.box.running in
        let r₁ = passed 3 (eqb p 16) _ r in
        let r₂ = passed 8 (eqb i 0) _ r₁ in
        let r₃ = passed 9 (absent (found_on t.box t.escrow_rows t.escrow_values i h)) _ r₂ in
        heap_fits p o (length handed) k.runs (failed 3 (eqb p 16) _ r) (failed 10 (beyond 256 o (length handed)) _ r₃)

    retrieve_moves : Moves t (replace_heaps t (sets t.heaps (heap_byte t.box o) handed)) (retrieve i o h) (length handed) []
    unfolding effect move apply number shown refusal tests found retrieve_refusal idle state_of
    retrieve_moves =
        record {
          leaves = λ r. let p = retrieves r in written_bytes t k e o handed p.runs p.within;
          answers = λ r. refl;
          shows = λ r. refl;
        }

    pub retrieve_step : (used : ℕ) → laid (step (state_of t) (retrieve i o h) used)
        ≡ record {
          tables = replace_heaps t (retrieve_heaps t.box t.escrow_rows t.heaps t.escrow_values i o h);
          answer = answer_of (retrieve_answer t.box t.escrow_rows t.escrow_values i o h) used [];
        }
    unfolding retrieve_heaps retrieve_answer refusal tests found retrieve_refusal idle state_of
    retrieve_step used =
        laid_step used e retrieve_moves ∙ part_settled (replace_heaps t) t.heaps _ refused (length handed) used refl
