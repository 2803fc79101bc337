use Rattle.std.proofs.Common.{◌≡◌, ◌+◌, ◌-◌, arith}
use Rattle.record.proofs.LittleEndian.{byte_more, below_more, below_seven}
use Rattle.buffers.proofs.number_at.Goals as goal

pub overflow_mul-x : goal.overflow_mul-x
overflow_mul-x c =
    let l = c.loop-i in
    omega (arith, below_seven (c.args.width - l.i) l.invariant.1 (omega arith))

pub overflow_add-x : goal.overflow_add-x
overflow_add-x c =
    let a = c.args in
    let l = c.loop-i in
    omega (arith, c.type_inv.bytes (a.at + (l.i - 1)), below_seven (a.width - l.i) l.invariant.1 (omega arith))

pub loop-i-preserved : goal.loop-i-preserved
loop-i-preserved c =
    let a = c.args in
    let l = c.loop-i in
    let k = l.i - 1 in
    let s : k + 1 ≡ l.i = omega arith in
    let more = rw s at (byte_more a.bytes.now a.at a.width k (omega arith) (omega arith)) in
    let n : a.width - k ≡ a.width - l.i + 1 = omega arith in (
      omega (arith, more, l.invariant.0),
      rw n (below_more (a.width - l.i) l.invariant.1 (omega (arith, c.type_inv.bytes (a.at + k)))),
    )
