use Rattle.record.specs.Meaning.{bytes_in, PartWithin}
use native.Mathlib.Nat.{add-sub_cancel_left}
use native.Mathlib.Omega.{arith}
use Rattle.calls.proofs.dispatch.bytes_of.Goals as goal

pub overflow_add-end : goal.overflow_add-end
unfolding PartWithin
overflow_add-end c = omega arith

pub slice_bounds-result-end : goal.slice_bounds-result-end
unfolding PartWithin
slice_bounds-result-end c = omega arith

pub returns : goal.returns
unfolding bytes_in
returns c =
    rw (add-sub_cancel_left c.args.part.start c.args.part.count)
