use Rattle.calls.proofs.Carried.{heap_written, heap_shown, shared_written, shared_shown, checked, retrieved, followed, reported}
use Rattle.calls.proofs.Ready.{ready}
use Rattle.calls.proofs.Rest.{rest_report}
use Rattle.record.specs.Meaning.{CallWithin}
use mathlib.Core.Path.{◌∙◌}
use Rattle.calls.proofs.dispatch.answer_alone.Goals as goal

pub bytes_of-value-requires : goal.bytes_of-value-requires
unfolding CallWithin
bytes_of-value-requires c = rw c.in-HeapWrite.is at c.requires.call_within

pub heap_write-requires : goal.heap_write-requires
heap_write-requires c = (ready c.requires.sound).heaps

pub heap_read-requires : goal.heap_read-requires
heap_read-requires c = let s = ready c.requires.sound in (s.heaps, s.output)

pub bytes_of-requires : goal.bytes_of-requires
unfolding CallWithin
bytes_of-requires c = rw c.in-SharedWrite.is at c.requires.call_within

pub shared_write-requires : goal.shared_write-requires
shared_write-requires c = (ready c.requires.sound).shared

pub shared_read-requires : goal.shared_read-requires
shared_read-requires c = let s = ready c.requires.sound in (s.shared, s.output)

pub bytes_of-value-requires-in-Check : goal.bytes_of-value-requires-in-Check
unfolding CallWithin
bytes_of-value-requires-in-Check c = rw c.in-Check.is at c.requires.call_within

pub check_pair-requires : goal.check_pair-requires
check_pair-requires c = let s = ready c.requires.sound in (s.log_count, s.log)

pub retrieve-requires : goal.retrieve-requires
retrieve-requires c = let s = ready c.requires.sound in (s.runs, s.escrow_count, s.heaps, s.escrow)

pub bytes_of-requires-in-Chain : goal.bytes_of-requires-in-Chain
unfolding CallWithin
bytes_of-requires-in-Chain c = (rw c.in-Chain.is at c.requires.call_within)

pub follow_chain-requires : goal.follow_chain-requires
follow_chain-requires c =
    let s = ready c.requires.sound in (s.runs, s.log_count, s.escrow_count, s.log, s.escrow)

pub returns-in-HeapWrite-clause-output_after : goal.returns-in-HeapWrite-clause-output_after
returns-in-HeapWrite-clause-output_after c = heap_written c.requires.sound _ _ _ c.in-HeapWrite.is c.bytes_of-value.ensures (c.answer_of.ensures ∙ c.heap_write.ensures.value) c.heap_write.ensures.heaps_after

pub returns-in-HeapRead-clause-output_after : goal.returns-in-HeapRead-clause-output_after
returns-in-HeapRead-clause-output_after c = heap_shown c.requires.sound _ _ _ c.in-HeapRead.is (c.shown_of.ensures ∙ c.heap_read.ensures.value) c.heap_read.ensures.output_after

pub returns-in-SharedWrite-clause-output_after : goal.returns-in-SharedWrite-clause-output_after
returns-in-SharedWrite-clause-output_after c = shared_written c.requires.sound _ _ _ c.in-SharedWrite.is c.bytes_of.ensures (c.answer_of-in-SharedWrite.ensures ∙ c.shared_write.ensures.value) c.shared_write.ensures.shared_after

pub returns-in-SharedRead-clause-output_after : goal.returns-in-SharedRead-clause-output_after
returns-in-SharedRead-clause-output_after c = shared_shown c.requires.sound _ _ _ c.in-SharedRead.is (c.shown_of-in-SharedRead.ensures ∙ c.shared_read.ensures.value) c.shared_read.ensures.output_after

pub returns-in-Check-clause-output_after : goal.returns-in-Check-clause-output_after
returns-in-Check-clause-output_after c = checked c.requires.sound _ _ _ c.in-Check.is c.bytes_of-value-in-Check.ensures (c.answer_of-in-Check.ensures ∙ c.check_pair.ensures)

pub returns-in-Retrieve-clause-output_after : goal.returns-in-Retrieve-clause-output_after
returns-in-Retrieve-clause-output_after c = retrieved c.requires.sound _ _ _ c.in-Retrieve.is (c.answer_of-in-Retrieve.ensures ∙ c.retrieve.ensures.value) c.retrieve.ensures.heaps_after

pub returns-in-Chain-clause-output_after : goal.returns-in-Chain-clause-output_after
returns-in-Chain-clause-output_after c = followed c.requires.sound _ _ _ c.in-Chain.is c.bytes_of-in-Chain.ensures (c.answer_of-in-Chain.ensures ∙ c.follow_chain.ensures)

pub returns-in_default-clause-output_after : goal.returns-in_default-clause-output_after
returns-in_default-clause-output_after c = reported c.requires.sound _ _ _ (rest_report _ c.in_default.not-HeapWrite c.in_default.not-HeapRead c.in_default.not-SharedWrite c.in_default.not-SharedRead c.in_default.not-Check c.in_default.not-Retrieve c.in_default.not-Chain c.requires.alone) c.report.ensures
