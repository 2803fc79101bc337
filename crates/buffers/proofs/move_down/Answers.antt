use Rattle.std.proofs.Common.{ℕ, ◌+◌, ◌<◌, ◌++◌, List, length, take, drop, slice_set, slice_index_or, ap, ◌∙◌, arith}
use lib.ListN.{length-drop}
use Rattle.buffers.proofs.Loops.{copy_more, read_ahead}
use Rattle.buffers.proofs.move_down.Goals as goal

pub loop-i-preserved : goal.loop-i-preserved
loop-i-preserved c =
    let i = c.loop-i.i in
    let n = c.args.n in
    let d = c.args.dst.now in
    let more : i + n < length d = omega arith in
    ap (λ (s : List ℕ). slice_set s i (slice_index_or s (i + n) 0)) c.loop-i.invariant
    ∙ ap (slice_set (take i (drop n d) ++ drop i d) i) (read_ahead d n i more)
    ∙ copy_more (drop n d) d i (simp length-drop (omega arith)) (omega arith)
