-- What protect leaves and answers, on the parts of the box that it is given.
use Rattle.std.specs.Prelude.{ℕ, ◌^◌, List, length, eqb, leb}
use Rattle.record.specs.declared.Draw.{Draw}
use Rattle.ideal.specs.declared.BoxRecord.{BoxRecord}
use Rattle.ideal.specs.declared.EscrowRow.{EscrowRow}
use Rattle.ideal.specs.State.{part}
use Rattle.ideal.specs.Step.{free_handle, accept, ◌then◌, first_holding, beyond}
use Rattle.state.specs.Counts.{full_by}
use Rattle.state.specs.Parts.{caller_of, heap_byte, escrow_of}
use Rattle.state.specs.Edits.{Stored, unless, escrow_store, more}

-- a value stored by a source for a recipient under the first free handle
unfoldable pub protected_on : BoxRecord → List EscrowRow → (values : List ℕ) → (source recipient : ℕ) → Draw → (value : List ℕ)
    → Stored
protected_on b rows values source recipient d v =
    let handle = free_handle (length v) d (escrow_of b rows values) in
    more escrow_store b values (record { source = source; recipient = recipient; handle = handle; mark = 0 }) v

-- the last two of protect's tests alone
unfoldable pub protect_value : BoxRecord → List EscrowRow → (values : List ℕ) → (source recipient : ℕ) → Draw
    → (value : List ℕ) → Stored
protect_value b rows values source recipient d v =
    unless (first_holding ((12, leb (2 ^ 48) d.0) then (14, full_by b.escrow (length v)) then accept))
    b values (protected_on b rows values source recipient d v)

unfoldable pub protect_refusal : BoxRecord → (recipient offset size : ℕ) → Draw → ℕ
protect_refusal b i o n d =
    first_holding
    ((4, eqb b.running 16) then (9, eqb i 0) then (11, beyond 256 o n) then (12, leb (2 ^ 48) d.0)
    then (14, full_by b.escrow n) then accept)

unfoldable pub protect_on : BoxRecord → List EscrowRow → (heaps values : List ℕ) → (recipient offset size : ℕ) → Draw
    → Stored
protect_on b rows heaps values i o n d =
    unless (protect_refusal b i o n d) b values (protected_on b rows values (caller_of b) i d (part heaps (heap_byte b o) n))
