use Rattle.std.proofs.Common.{◌≡◌, ℕ, suc, add-one, ◌+◌, ◌-◌, arith, length-take, length-drop}
use Rattle.fnv.specs.Fnv.{little}
use Rattle.buffers.proofs.put_number.Goals as goal

pub loop-b-preserved : goal.loop-b-preserved
unfolding little
loop-b-preserved c =
    let i = c.loop-b.b-index in
    let w = c.args.width in
    let e : w - i ≡ suc (w - (i + 1)) = omega (arith, length-take {A = ℕ}, length-drop {A = ℕ}) in
    rw (← c.loop-b.invariant, e, add-one)
