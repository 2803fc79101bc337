-- What retrieve leaves and answers, on the parts of the box that it is given.
use Rattle.std.specs.Prelude.{ℕ, List, length, eqb}
use Rattle.std.proofs.Math.Option.{Option}
use Rattle.std.proofs.lemmas.List.Edits.{sets}
use Rattle.record.specs.declared.Handle.{Handle}
use Rattle.ideal.specs.declared.BoxRecord.{BoxRecord}
use Rattle.ideal.specs.declared.EscrowRow.{EscrowRow}
use Rattle.ideal.specs.State.{Escrowed, find}
use Rattle.ideal.specs.Step.{is_escrowed, absent, value_in, accept, ◌then◌, first_holding, beyond}
use Rattle.state.specs.declared.Answer.{Answer}
use Rattle.state.specs.Answers.{settled, answered}
use Rattle.state.specs.Parts.{caller_of, heap_byte, escrow_of}

-- what the source escrowed for the running program under the handle
abbrev pub found_on : BoxRecord → List EscrowRow → List ℕ → (source : ℕ) → Handle → Option Escrowed
found_on b rows values source h = find (is_escrowed h source (caller_of b)) (escrow_of b rows values)

unfoldable pub retrieve_refusal : BoxRecord → List EscrowRow → List ℕ → (source offset : ℕ) → Handle → ℕ
retrieve_refusal b rows values i o h =
    let entry = found_on b rows values i h in
    first_holding
    ((4, eqb b.running 16) then (9, eqb i 0) then (10, absent entry)
    then (11, beyond 256 o (length (value_in entry))) then accept)

unfoldable pub retrieve_answer : BoxRecord → List EscrowRow → List ℕ → (source offset : ℕ) → Handle → Answer
retrieve_answer b rows values i o h =
    answered (retrieve_refusal b rows values i o h) (length (value_in (found_on b rows values i h)))

unfoldable pub retrieve_heaps : BoxRecord → List EscrowRow → (heaps values : List ℕ) → (source offset : ℕ) → Handle → List ℕ
retrieve_heaps b rows heaps values i o h =
    settled (retrieve_refusal b rows values i o h) heaps (sets heaps (heap_byte b o) (value_in (found_on b rows values i h)))
