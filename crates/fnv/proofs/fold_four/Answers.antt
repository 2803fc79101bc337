use Rattle.std.proofs.Common.{◌≡◌, arith}
use Rattle.std.proofs.lemmas.List.{take_rest}
use Rattle.fnv.proofs.Append.{fnv_step}
use Rattle.fnv.proofs.fold_four.Goals as goal

pub loop-i-preserved : goal.loop-i-preserved
loop-i-preserved c =
    let l = c.loop-i in
    let a = c.args in (
      fnv_step l.w a.a.now l.i (omega arith) c.mix-w.ensures l.invariant.0,
      fnv_step l.x a.b.now l.i (omega arith) c.mix-x.ensures l.invariant.1,
      fnv_step l.y a.c.now l.i (omega arith) c.mix-y.ensures l.invariant.2,
      fnv_step l.z a.d.now l.i (omega arith) c.mix-z.ensures l.invariant.3,
    )

pub returns : goal.returns
returns c =
    let inv = c.loop-i.invariant in
    let e : c.loop-i.i ≡ c.min-m.result = omega arith in
    rw (c.fold_two.ensures, c.fold_two-2.ensures) (simp (take_rest, ← e, inv.0, inv.1, inv.2, inv.3))
