-- What following a chain answers on the tables of a valid state is the step of that state. Assumes nothing.
use Prim.Native.Nat.{ℕ}
use mathlib.Core.Path.{◌≡◌, refl, ◌∙◌}
use mathlib.Core.List.{List, []}
use Rattle.record.specs.Call.{Link, chain}
use Rattle.ideal.specs.Step.{found, idle, tests, refusal, move, apply, effect, number, shown, step}
use Rattle.ideal.specs.Tables.{Tables, tables, state_of}
use Rattle.ideal.specs.Box.{laid}
use Rattle.state.proofs.Settled.{answer_of, part_settled, laid_step}
use Rattle.chain.specs.Narrow.{chain_refusal, chain_answer}

pub chain_step : (t : Tables) → tables (state_of t) ≡ t → (k : Link) (v : List ℕ) (used : ℕ)
    → laid (step (state_of t) (chain k v) used)
    ≡ record {
      tables = t;
      answer = answer_of (chain_answer t.box t.log_rows t.escrow_rows t.log_values t.escrow_values k v) used [];
    }
unfolding chain_answer chain_refusal refusal tests idle found effect move apply number shown state_of
chain_step t e k v used =
    laid_step used e (record { leaves = λ r. e; answers = λ r. refl; shows = λ r. refl })
    ∙ part_settled (λ (y : Tables). t) t t _ _ used refl
