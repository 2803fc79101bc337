use Prim.Native.Nat.{◌^◌, ◌≤◌, ◌<◌}
use mathlib.Core.Path.{ap}
use native.Mathlib.Omega.{arith}
use lib.ListN.{length}
use Rattle.sheet.proofs.Texts.{decimal_one, decimal_more, length_more, stored_then}
use Rattle.sheet.proofs.text.+put_decimal.Goals as goal

pub put_byte-requires : goal.put_byte-requires
put_byte-requires t c =
    let x = c.args.x in
    let l : x < 10 = omega arith in
    omega (arith, ap length (decimal_one x l))

pub returns-then-x-lt10 : goal.returns-then-x-lt10
returns-then-x-lt10 t c =
    let x = c.args.x in
    let l : x < 10 = omega arith in
    rw (decimal_one x l, ← c.digit.ensures) c.put_byte.ensures

pub put_decimal-last-requires : goal.put_decimal-last-requires
put_decimal-last-requires t c =
    let x = c.args.x in
    let l : 10 ≤ x = omega arith in
    let h : x < 10 ^ 20 = omega arith in
    (omega arith, omega (arith, length_more x l h))

pub put_byte-requires-2 : goal.put_byte-requires-2
put_byte-requires-2 t c =
    let x = c.args.x in
    let l : 10 ≤ x = omega arith in
    let h : x < 10 ^ 20 = omega arith in
    omega (arith, length_more x l h)

pub returns : goal.returns
returns t c =
    let x = c.args.x in
    let l : 10 ≤ x = omega arith in
    let h : x < 10 ^ 20 = omega arith in
    rw (decimal_more x l h, ← c.digit-2.ensures) (stored_then c.put_decimal-last.ensures c.put_byte-2.ensures)
