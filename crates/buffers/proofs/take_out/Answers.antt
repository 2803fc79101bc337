use Rattle.buffers.proofs.Loops.{tail_cleared}
use Rattle.buffers.proofs.take_out.Goals as goal

pub returns : goal.returns
returns c =
    tail_cleared c.args.dst.now _ _ c.args.n c.requires
    c.move_down.ensures c.clear.ensures
