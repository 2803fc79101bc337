use mathlib.Core.Path.{◌≡◌, ap}
use native.Mathlib.Omega.{arith}
use lib.ListN.{length}
use Rattle.std.proofs.lemmas.Result.{err_from_is_err_and}
use Rattle.sheet.specs.Sheet.{header}
use Rattle.printing.proofs.Going.{failed_part, last_part, head_part, too_long_part, too_long_last}
use Rattle.printing.proofs.print_sheet.Goals as goal

pub print-requires-clause-next_part : goal.print-requires-clause-next_part
print-requires-clause-next_part c = head_part c.args.profile c.args.script.now c.nothing.ensures c.header.ensures

pub returns-in_err-head : goal.returns-in_err-head
returns-in_err-head c =
    let p = err_from_is_err_and c.from_residual.result c.from_residual.ensures.1 in
    rw (p.1, p.2)
    (failed_part c.print.result _ c.in_err-head.was (head_part c.args.profile c.args.script.now c.nothing.ensures c.header.ensures) c.print.ensures)

pub print-requires-2-clause-next_part : goal.print-requires-2-clause-next_part
print-requires-2-clause-next_part c =
    let head : c.in_ok-head.head.printed ≡ length header = omega (arith, c.in_ok-head.ensures, c.nothing.ensures, ap length c.header.ensures) in
    too_long_part c.args.profile c.args.script.now c.if-script-le-MOST.false head c.too_long.ensures

pub returns : goal.returns
returns c =
    let head : c.in_ok-head.head.printed ≡ length header = omega (arith, c.in_ok-head.ensures, c.nothing.ensures, ap length c.header.ensures) in
    let long = c.if-script-le-MOST.false in
    let line = c.too_long.ensures in
    last_part c.print-2.result (too_long_part c.args.profile c.args.script.now long head line) c.print-2.ensures
    (too_long_last c.args.profile c.args.script.now long head line)
