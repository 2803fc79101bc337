use Rattle.std.proofs.Common.{arith}
use Rattle.fnv.proofs.Append.{fnv_step}
use Rattle.fnv.proofs.fold_two.Goals as goal

pub loop-i-preserved : goal.loop-i-preserved
loop-i-preserved c =
    let l = c.loop-i in
    let a = c.args in (
      fnv_step l.w a.a.now l.i (omega arith) c.mix-w.ensures l.invariant.0,
      fnv_step l.x a.b.now l.i (omega arith) c.mix-x.ensures l.invariant.1,
    )
