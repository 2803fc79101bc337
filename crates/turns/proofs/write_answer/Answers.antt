use mathlib.Core.Path.{sym}
use lib.Seq.{length-take-le}
use Rattle.turns.proofs.write_answer.Goals as goal

pub slice_bounds-write_line-end : goal.slice_bounds-write_line-end
slice_bounds-write_line-end c =
    sym (length-take-le c.args.answer.shown c.args.output.now c.requires.0)

pub write_line-requires : goal.write_line-requires
write_line-requires c =
    rw (length-take-le c.args.answer.shown c.args.output.now c.requires.0) c.requires.1
