-- Each kind of call, from what its function leaves and answers: the laid-out step of the box's state. Assumes nothing.
use Prim.Native.Nat.{ℕ}
use mathlib.Core.Path.{◌≡◌}
use mathlib.Core.List.{List}
use Rattle.fnv.specs.declared.Tag.{Tag}
use Rattle.record.specs.declared.Draw.{Draw}
use Rattle.record.specs.declared.Handle.{Handle}
use Rattle.record.specs.declared.Part.{Part}
use Rattle.record.specs.declared.First.{First}
use Rattle.record.specs.declared.Call as code
use Rattle.record.specs.declared.Call.TheVariants.{Create, Exit, HeapWrite, HeapRead, SharedWrite, SharedRead, Attest, Check, Protect, Retrieve, Report, HandOver, Chain, Release}
use Rattle.record.specs.Meaning.{bytes_in, link_in, call_in}
use Rattle.ideal.specs.declared.BoxRecord.{BoxRecord}
use Rattle.ideal.specs.Layouts.{Sound}
use Rattle.ideal.specs.Tables.{lent_tables}
use Rattle.ideal.specs.declared.LogRow.{LogRow}
use Rattle.ideal.specs.declared.EscrowRow.{EscrowRow}
use Rattle.state.specs.declared.Answer.{Answer}
use Rattle.state.specs.declared.Change.{Change}
use Rattle.state.specs.Edits.{unchanged, stored}
use Rattle.services.specs.Narrow.{create_on, exit_on, exit_heaps, report_on, hand_over_on}
use Rattle.shared.specs.Narrow.{shared_write_answer, shared_write_shared, shared_read_answer, shared_read_output}
use Rattle.heap.specs.Narrow.{heap_write_answer, heap_write_heaps, heap_read_answer, heap_read_output}
use Rattle.attesting.specs.Narrow.{attest_on, check_on}
use Rattle.escrow.specs.Narrow.{protect_on}
use Rattle.retrieval.specs.Narrow.{retrieve_answer, retrieve_heaps}
use Rattle.chain.specs.Narrow.{chain_answer}
use Rattle.release.specs.Narrow.{release_on}
use Rattle.calls.specs.Entry.{result_of, carried_on}
use Rattle.calls.proofs.ByKind.{by_kind, by_kind_lem}

module _
    {b : BoxRecord}
    {log : List LogRow}
    {escrow : List EscrowRow}
    {heaps shared lv ev : List ℕ}
    {n : ℕ}
    (s : Sound (lent_tables b log escrow heaps shared lv ev) n)
    (output bytes : List ℕ)
    (called : code.Call)
  where
    -- ---- kinds that alter neither table

    module _ {a : Answer} where
      pub heap_written : {p o : ℕ} {part : Part} {v left : List ℕ} → called ≡ HeapWrite p o part → v ≡ bytes_in bytes part
          → a ≡ heap_write_answer b p o v → left ≡ heap_write_heaps b heaps p o v
          → result_of log escrow (unchanged b a) left shared lv ev output
          ≡ carried_on (lent_tables b log escrow heaps shared lv ev) (call_in bytes called) output
      unfolding by_kind
      heap_written e f g h = by_kind_lem s output bytes called (rw (e, g, h, f))

      pub heap_shown : {p o k : ℕ} {left : List ℕ} → called ≡ HeapRead p o k → a ≡ heap_read_answer b p o k
          → left ≡ heap_read_output b heaps output p o k
          → result_of log escrow (unchanged b a) heaps shared lv ev left
          ≡ carried_on (lent_tables b log escrow heaps shared lv ev) (call_in bytes called) output
      unfolding by_kind
      heap_shown e g h = by_kind_lem s output bytes called (rw (e, g, h))

      pub shared_written : {o : ℕ} {part : Part} {v left : List ℕ} → called ≡ SharedWrite o part → v ≡ bytes_in bytes part
          → a ≡ shared_write_answer o v → left ≡ shared_write_shared shared o v
          → result_of log escrow (unchanged b a) heaps left lv ev output
          ≡ carried_on (lent_tables b log escrow heaps shared lv ev) (call_in bytes called) output
      unfolding by_kind
      shared_written e f g h = by_kind_lem s output bytes called (rw (e, g, h, f))

      pub shared_shown : {o k : ℕ} {left : List ℕ} → called ≡ SharedRead o k → a ≡ shared_read_answer o k
          → left ≡ shared_read_output shared output o k
          → result_of log escrow (unchanged b a) heaps shared lv ev left
          ≡ carried_on (lent_tables b log escrow heaps shared lv ev) (call_in bytes called) output
      unfolding by_kind
      shared_shown e g h = by_kind_lem s output bytes called (rw (e, g, h))

      pub checked : {i : ℕ} {g : Tag} {part : Part} {v : List ℕ} → called ≡ Check i g part → v ≡ bytes_in bytes part
          → a ≡ check_on b log lv i g v
          → result_of log escrow (unchanged b a) heaps shared lv ev output
          ≡ carried_on (lent_tables b log escrow heaps shared lv ev) (call_in bytes called) output
      unfolding by_kind
      checked e f g = by_kind_lem s output bytes called (rw (e, g, f))

      pub retrieved : {i o : ℕ} {h : Handle} {left : List ℕ} → called ≡ Retrieve i o h
          → a ≡ retrieve_answer b escrow ev i o h → left ≡ retrieve_heaps b escrow heaps ev i o h
          → result_of log escrow (unchanged b a) left shared lv ev output
          ≡ carried_on (lent_tables b log escrow heaps shared lv ev) (call_in bytes called) output
      unfolding by_kind
      retrieved e g h = by_kind_lem s output bytes called (rw (e, g, h))

      pub followed : {i : ℕ} {first : First} {part : Part} {v : List ℕ} → called ≡ Chain i first part → v ≡ bytes_in bytes part
          → a ≡ chain_answer b log escrow lv ev (link_in i first) v
          → result_of log escrow (unchanged b a) heaps shared lv ev output
          ≡ carried_on (lent_tables b log escrow heaps shared lv ev) (call_in bytes called) output
      unfolding by_kind
      followed e f g = by_kind_lem s output bytes called (rw (e, g, f))

      pub reported : called ≡ Report → a ≡ report_on b
          → result_of log escrow (unchanged b a) heaps shared lv ev output
          ≡ carried_on (lent_tables b log escrow heaps shared lv ev) (call_in bytes called) output
      unfolding by_kind
      reported e g = by_kind_lem s output bytes called (rw (e, g))

    -- ---- kinds that alter the box record or a table

    -- with the buffers left, the laid-out step
    abbrev Carries : Change → (heaps shared log_values escrow_values output : List ℕ) → Type 0
    Carries r heaps' shared' lv' ev' output' =
        result_of log escrow r heaps' shared' lv' ev' output'
        ≡ carried_on (lent_tables b log escrow heaps shared lv ev) (call_in bytes called) output

    module _ {r : Change} where
      pub created : {p i : ℕ} → called ≡ Create p i → r ≡ create_on b p i → Carries r heaps shared lv ev output
      unfolding by_kind create_on
      created e g = by_kind_lem s output bytes called (rw (e, g))

      pub handed_over : {p : ℕ} → called ≡ HandOver p → r ≡ hand_over_on b p → Carries r heaps shared lv ev output
      unfolding by_kind hand_over_on
      handed_over e g = by_kind_lem s output bytes called (rw (e, g))

      pub exited : {left : List ℕ} → called ≡ Exit → r ≡ exit_on b → left ≡ exit_heaps b heaps → Carries r left shared lv ev output
      unfolding by_kind exit_on
      exited e g h = by_kind_lem s output bytes called (rw (e, g, h))

      pub attested : {o k : ℕ} {left : List ℕ} → called ≡ Attest o k → stored r left ≡ attest_on b log heaps lv o k
          → Carries r heaps shared left ev output
      unfolding by_kind
      attested e g = by_kind_lem s output bytes called (rw (e, ← g))

      pub protected : {i o k : ℕ} {d : Draw} {left : List ℕ} → called ≡ Protect i o k d
          → stored r left ≡ protect_on b escrow heaps ev i o k d → Carries r heaps shared lv left output
      unfolding by_kind
      protected e g = by_kind_lem s output bytes called (rw (e, ← g))

      pub released : {i : ℕ} {h : Handle} {left : List ℕ} → called ≡ Release i h → stored r left ≡ release_on b escrow ev i h
          → Carries r heaps shared lv left output
      unfolding by_kind
      released e g = by_kind_lem s output bytes called (rw (e, ← g))
