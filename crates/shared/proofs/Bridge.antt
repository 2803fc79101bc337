-- What the calls on shared memory do to the tables of a valid state is the step of that state, laid out. Assumes nothing.
use Prim.Native.Nat.{ℕ, ◌+◌, ◌≤◌}
use mathlib.Core.Path.{◌≡◌, refl, ◌∙◌}
use mathlib.Core.List.{List, []}
use native.Mathlib.Omega.{arith}
use lib.ListN.{length}
use lib.Seq.{sets}
use borrow.Author.Tests.{ltb-false}
use Rattle.record.specs.Call.{shared_write, shared_read}
use Rattle.ideal.specs.State.{part}
use Rattle.ideal.specs.Step.{beyond, tests, refusal, move, apply, effect, number, shown, step}
use Rattle.ideal.specs.Tables.{Tables, tables, state_of}
use Rattle.ideal.specs.Box.{laid}
use Rattle.ideal.specs.Valid.{Valid}
use Rattle.ideal.proofs.Passing.{failed}
use Rattle.ideal.proofs.HeapBytes.{replace_shared, shared_bytes}
use Rattle.ideal.proofs.Table.{part_length}
use Rattle.state.proofs.Settled.{answer_of, part_settled, Moves, laid_step}
use Rattle.state.proofs.Showing.{Shows, shows}
use Rattle.shared.specs.Narrow.{shared_refusal, shared_write_answer, shared_write_shared, shared_read_answer, shared_read_output}

-- what a read that is not refused shows lies in shared memory
range_fits : (o n : ℕ) → shared_refusal o n ≡ 0 → o + n ≤ 1024
unfolding shared_refusal beyond
range_fits o n e = ltb-false 1024 (o + n) (failed 10 (beyond 1024 o n) _ e)

module _ (t : Tables) (k : Valid (state_of t)) (e : tables (state_of t) ≡ t) where
  shared_write_moves : (o : ℕ) (v : List ℕ) → Moves t (replace_shared t (sets t.shared o v)) (shared_write o v) (length v) []
  unfolding effect move apply number shown state_of
  shared_write_moves o v =
      record { leaves = λ r. shared_bytes t k e o v; answers = λ r. refl; shows = λ r. refl }

  pub shared_write_step : (o : ℕ) (v : List ℕ) (used : ℕ) → laid (step (state_of t) (shared_write o v) used)
      ≡ record {
        tables = replace_shared t (shared_write_shared t.shared o v);
        answer = answer_of (shared_write_answer o v) used [];
      }
  unfolding shared_write_shared shared_write_answer refusal tests shared_refusal
  shared_write_step o v used =
      laid_step used e (shared_write_moves o v)
      ∙ part_settled (replace_shared t) t.shared _ (shared_refusal o (length v)) (length v) used refl

  pub shared_read_step : (o n : ℕ) (output : List ℕ) (used : ℕ)
      → Shows t (shared_read o n) used (shared_read_answer o n) output (shared_read_output t.shared output o n)
  unfolding shared_read_answer shared_read_output effect move apply number shown refusal tests shared_refusal state_of
  shared_read_step o n output used =
      shows t used n (part t.shared o n) output (shared_read o n) e
      (record { leaves = λ r. e; answers = λ r. refl; shows = λ r. refl })
      (λ r. part_length t.shared o n (omega (arith, k.shared, range_fits o n r)))
