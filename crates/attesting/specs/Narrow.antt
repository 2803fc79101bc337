-- What attest and check leave and answer, on the parts of the box that they are given.
use Rattle.std.specs.Prelude.{ℕ, not, ◌&&◌, cond, List, length, eqb}
use Rattle.fnv.specs.declared.Tag.{Tag}
use Rattle.fnv.specs.Fnv.{tag_of}
use Rattle.ideal.specs.declared.BoxRecord.{BoxRecord}
use Rattle.ideal.specs.declared.LogRow.{LogRow}
use Rattle.ideal.specs.State.{part}
use Rattle.ideal.specs.Step.{logged, accept, ◌then◌, first_holding, beyond}
use Rattle.state.specs.declared.Answer.{Answer}
use Rattle.state.specs.Counts.{full_by}
use Rattle.state.specs.Parts.{caller_of, heap_byte, log_of}
use Rattle.state.specs.Answers.{accepted_with, answered}
use Rattle.state.specs.Edits.{Stored, kept, unless, log_store, more}

-- ---- attest

-- a value with its tag: a row more where there is none yet
unfoldable pub attested : BoxRecord → List LogRow → List ℕ → ℕ → Tag → List ℕ → Stored
attested b rows values i g v =
    cond (logged i g v (log_of b rows values)) (kept b values (accepted_with g.0))
    (more log_store b values (record { identity = i; tag = g }) v)

-- the last of attest's tests alone
unfoldable pub attest_value : BoxRecord → List LogRow → List ℕ → ℕ → Tag → List ℕ → Stored
attest_value b rows values i g v =
    unless (first_holding ((13, not (logged i g v (log_of b rows values)) && full_by b.log (length v)) then accept))
    b values (attested b rows values i g v)

unfoldable pub attest_refusal : BoxRecord → List LogRow → (values : List ℕ) → (offset size : ℕ) → ℕ → Tag → List ℕ → ℕ
attest_refusal b rows values o n i g v =
    first_holding
    ((4, eqb b.running 16) then (11, beyond 256 o n)
    then (13, not (logged i g v (log_of b rows values)) && full_by b.log n) then accept)

unfoldable pub attest_on : BoxRecord → (rows : List LogRow) → (heaps values : List ℕ) → (offset size : ℕ) → Stored
attest_on b rows heaps values o n =
    let i = caller_of b in
    let v = part heaps (heap_byte b o) n in
    let g = tag_of i v in
    unless (attest_refusal b rows values o n i g v) b values (attested b rows values i g v)

-- ---- check

unfoldable pub check_on : BoxRecord → List LogRow → List ℕ → ℕ → Tag → List ℕ → Answer
check_on b rows values i g v =
    answered (first_holding ((9, eqb i 0) then accept)) (cond (logged i g v (log_of b rows values)) 1 0)
