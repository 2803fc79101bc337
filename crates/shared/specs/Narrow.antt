-- What shared write and shared read answer and leave, on the parts of the box that they are given.
use Rattle.std.specs.Prelude.{ℕ, List, ◌++◌, length, drop}
use Rattle.std.proofs.lemmas.List.Edits.{sets}
use Rattle.ideal.specs.State.{part}
use Rattle.ideal.specs.Step.{accept, ◌then◌, first_holding, beyond}
use Rattle.state.specs.declared.Answer.{Answer}
use Rattle.state.specs.Answers.{settled, answered, showed}

unfoldable pub shared_refusal : (offset size : ℕ) → ℕ
shared_refusal o n = first_holding ((11, beyond 1024 o n) then accept)

unfoldable pub shared_write_answer : (offset : ℕ) → List ℕ → Answer
shared_write_answer o v = answered (shared_refusal o (length v)) (length v)

unfoldable pub shared_write_shared : (shared : List ℕ) → (offset : ℕ) → List ℕ → List ℕ
shared_write_shared shared o v = settled (shared_refusal o (length v)) shared (sets shared o v)

unfoldable pub shared_read_answer : (offset size : ℕ) → Answer
shared_read_answer o n = showed (shared_refusal o n) n

unfoldable pub shared_read_output : (shared output : List ℕ) → (offset size : ℕ) → List ℕ
shared_read_output shared output o n = settled (shared_refusal o n) output (part shared o n ++ drop n output)
