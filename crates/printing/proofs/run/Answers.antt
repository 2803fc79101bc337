use mathlib.Core.Path.{sym}
use native.Mathlib.Omega.{arith}
use borrow.Author.Rules.{rules}
use Rattle.std.proofs.lemmas.Result.{err_from_is_err_and}
use Rattle.printing.proofs.Going.{begins, done_with, failed_part, next_part, within_script, further, went_further}
use Rattle.printing.proofs.run.Goals as goal

pub loop-at-init : goal.loop-at-init
loop-at-init c = (
  begins _ c.args.script.now c.args.head.printed c.fresh_record-held.ensures c.fresh_log-log.ensures c.fresh_escrow-escrow.ensures
      c.requires.0 c.requires.1,
  search rules,
  search rules,
  search rules,
  search rules,
  search rules,
  search rules,
)

pub print-requires-clause-next_part : goal.print-requires-clause-next_part
print-requires-clause-next_part c =
    let kept = c.loop-at.invariant in
    next_part kept.0 c.loop-at-test.true c.next_lines-lines.ensures (sym kept.6)

pub returns-in_err-so_far : goal.returns-in_err-so_far
returns-in_err-so_far c =
    let kept = c.loop-at.invariant in
    let p = err_from_is_err_and c.from_residual.result c.from_residual.ensures.1 in
    rw (p.1, p.2)
    (failed_part c.print.result _ c.in_err-so_far.was (next_part kept.0 c.loop-at-test.true c.next_lines-lines.ensures (sym kept.6)) c.print.ensures)

pub loop-at-smaller : goal.loop-at-smaller
loop-at-smaller c =
    let kept = c.loop-at.invariant in
    let left = c.loop-at-test.true in
    let made = c.next_lines-lines.ensures in
    omega (arith, within_script kept.0 left made (sym kept.6), further kept.0 left made (sym kept.6))

pub loop-at-preserved : goal.loop-at-preserved
loop-at-preserved c =
    let kept = c.loop-at.invariant in
    let left = c.loop-at-test.true in
    let made = c.next_lines-lines.ensures in (
      went_further kept.0 left made (sym kept.6) c.in_ok-so_far.ensures,
      within_script kept.0 left made (sym kept.6),
      search rules,
      search rules,
      search rules,
      search rules,
      search rules,
    )

pub returns : goal.returns
returns c = done_with c.loop-at.invariant.0 c.loop-at-test.false
