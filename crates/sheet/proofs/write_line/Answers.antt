use native.Mathlib.Omega.{arith}
use Rattle.ideal.specs.Step.{Answer}
use Rattle.sheet.specs.Sheet.{bytes_of, line}
use Rattle.sheet.proofs.Texts.{length_line, stored_then, stored_front}
use Rattle.sheet.proofs.write_line.Goals as goal

pub returns : goal.returns
unfolding line bytes_of
returns c =
    let x = c.args in
    let a : Answer = record { code = x.code; number = x.number; used = x.used; shown = x.shown.now } in
    let numbers = stored_then (stored_then c.put_number-a.ensures c.put_number-b.ensures) c.put_number-c.ensures in
    stored_front
    (omega (arith, length_line a, c.requires))
    (stored_then (stored_then numbers c.put_shown-d.ensures) c.put_byte.ensures)
