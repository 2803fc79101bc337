-- What the calls on heaps do to the tables of a valid state is the step of that state, laid out. Assumes nothing.
use Prim.Native.Nat.{ℕ}
use mathlib.Core.Path.{◌≡◌, refl, ◌∙◌}
use mathlib.Core.List.{List, []}
use lib.ListN.{length}
use lib.Seq.{sets}
use Rattle.record.specs.Call.{heap_write, heap_read}
use Rattle.ideal.specs.State.{part}
use Rattle.ideal.specs.Step.{idle, tests, refusal, move, apply, effect, number, shown, step}
use Rattle.ideal.specs.Tables.{Tables, tables, state_of}
use Rattle.ideal.specs.Box.{laid}
use Rattle.ideal.specs.Valid.{Valid}
use Rattle.ideal.proofs.HeapBytes.{replace_heaps, written_bytes}
use Rattle.state.specs.Parts.{heap_byte}
use Rattle.state.proofs.Parts.{own_value, own_count}
use Rattle.state.proofs.Settled.{answer_of, part_settled, Moves, laid_step}
use Rattle.state.proofs.Showing.{Shows, shows}
use Rattle.heap.specs.Narrow.{heap_refusal, heap_write_answer, heap_write_heaps, heap_read_answer, heap_read_output}
use Rattle.heap.proofs.Ranges.{heap_fits}

module _ (t : Tables) (k : Valid (state_of t)) (e : tables (state_of t) ≡ t) where
  heap_write_moves : (p o : ℕ) (v : List ℕ)
      → Moves t (replace_heaps t (sets t.heaps (heap_byte t.box o) v)) (heap_write p o v) (length v) []
  unfolding effect move apply number shown refusal tests heap_refusal idle state_of
  heap_write_moves p o v =
      record {
        leaves = λ r. let f = heap_fits t.box.running p o (length v) r in written_bytes t k e o v f.runs f.within;
        answers = λ r. refl;
        shows = λ r. refl;
      }

  pub heap_write_step : (p o : ℕ) (v : List ℕ) (used : ℕ) → laid (step (state_of t) (heap_write p o v) used)
      ≡ record {
        tables = replace_heaps t (heap_write_heaps t.box t.heaps p o v);
        answer = answer_of (heap_write_answer t.box p o v) used [];
      }
  unfolding heap_write_heaps heap_write_answer refusal tests heap_refusal idle state_of
  heap_write_step p o v used =
      laid_step used e (heap_write_moves p o v)
      ∙ part_settled (replace_heaps t) t.heaps _ (heap_refusal t.box.running p o (length v)) (length v) used refl

  pub heap_read_step : (p o n : ℕ) (output : List ℕ) (used : ℕ)
      → Shows t (heap_read p o n) used (heap_read_answer t.box p o n) output (heap_read_output t.box t.heaps output p o n)
  unfolding heap_read_answer heap_read_output effect move apply number shown refusal tests heap_refusal idle state_of
  heap_read_step p o n output used =
      shows t used n (part t.heaps (heap_byte t.box o) n) output (heap_read p o n) e
      (record { leaves = λ r. e; answers = λ r. refl; shows = λ r. own_value t k e o n (heap_fits t.box.running p o n r) })
      (λ r. own_count t k e o n (heap_fits t.box.running p o n r))
