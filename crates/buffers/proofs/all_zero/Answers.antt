use Rattle.std.proofs.Common.{sym, ◌∙◌}
use Rattle.buffers.proofs.Loops.{zero_split}
use Rattle.buffers.proofs.all_zero.Goals as goal

pub returns-then-not-part_zero : goal.returns-then-not-part_zero
returns-then-not-part_zero c =
    let i = c.in-Some.ensures.cases in
    rw (zero_split 256 c.loop-part.rest.now, ← i.1, sym c.part_zero.ensures ∙ c.if-not-part_zero.true) at c.loop-part.invariant

pub loop-part-preserved : goal.loop-part-preserved
loop-part-preserved c =
    let i = c.in-Some.ensures.cases in
    rw (zero_split 256 c.loop-part.rest.now, ← i.1, ← i.2, sym c.part_zero.ensures ∙ c.if-not-part_zero.false) at c.loop-part.invariant
