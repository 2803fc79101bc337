use Rattle.std.proofs.Common.{length, arith, ◌≡◌, ◌∙◌}
use Rattle.sheet.proofs.Texts.{length_hexadecimal, hex_more, hex_none}
use Rattle.sheet.proofs.text.put_hex.Goals as goal

pub loop-b-preserved : goal.loop-b-preserved
loop-b-preserved c =
    let l = c.loop-b in
    (omega arith, rw (c.digit.ensures, c.digit-in-loop-b.ensures) (hex_more c.args.bytes.now l.out l.next l.b-index (omega arith) ∙ l.invariant.1))

pub returns : goal.returns
returns c =
    let l = c.loop-b in
    let s = c.args.bytes.now in
    let e : l.b-index ≡ length s = omega arith in
    record { place = omega (arith, length_hexadecimal s); bytes = rw (e, hex_none s) at l.invariant.1 }
