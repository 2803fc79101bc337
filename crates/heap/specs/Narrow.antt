-- What heap write and heap read answer and leave, on the parts of the box that they are given.
use Rattle.std.specs.Prelude.{ℕ, not, List, ◌++◌, length, drop, eqb, ltb}
use Rattle.std.proofs.lemmas.List.Edits.{sets}
use Rattle.ideal.specs.declared.BoxRecord.{BoxRecord}
use Rattle.ideal.specs.State.{part}
use Rattle.ideal.specs.Step.{accept, ◌then◌, first_holding, beyond}
use Rattle.state.specs.declared.Answer.{Answer}
use Rattle.state.specs.Answers.{settled, answered, showed}
use Rattle.state.specs.Parts.{heap_byte}

-- the tests of the box, on numbers
unfoldable pub heap_refusal : (running place offset size : ℕ) → ℕ
heap_refusal r p o n =
    first_holding ((4, eqb r 16) then (6, ltb 15 p) then (8, not (eqb p r)) then (11, beyond 256 o n) then accept)

unfoldable pub heap_write_answer : BoxRecord → (place offset : ℕ) → List ℕ → Answer
heap_write_answer b p o v = answered (heap_refusal b.running p o (length v)) (length v)

unfoldable pub heap_write_heaps : BoxRecord → (heaps : List ℕ) → (place offset : ℕ) → List ℕ → List ℕ
heap_write_heaps b heaps p o v = settled (heap_refusal b.running p o (length v)) heaps (sets heaps (heap_byte b o) v)

unfoldable pub heap_read_answer : BoxRecord → (place offset size : ℕ) → Answer
heap_read_answer b p o n = showed (heap_refusal b.running p o n) n

unfoldable pub heap_read_output : BoxRecord → (heaps output : List ℕ) → (place offset size : ℕ) → List ℕ
heap_read_output b heaps output p o n =
    settled (heap_refusal b.running p o n) output (part heaps (heap_byte b o) n ++ drop n output)
