-- A list is refused whole by its counts alone; else each tank has its answer.
use Rattle.std.proofs.Common.{length, sym}
use Rattle.std.proofs.lemmas.Result.{err_from_is_err_and}
use Rattle.desk.proofs.Lists.{as_many, shift_right, shift_refused}
use Rattle.desk.proofs.list.shift.Goals as goal

pub returns-in_err-admit-clause-leaves : goal.returns-in_err-admit-clause-leaves
returns-in_err-admit-clause-leaves c =
    let p = err_from_is_err_and c.from_residual.result c.from_residual.ensures.1 in
    shift_refused _ _ c.args.tanks.now c.args.answers.now _ _ (rw (p.1, p.2)) c.in_err-admit.ensures

pub lent_list-requires : goal.lent_list-requires
lent_list-requires c = as_many (length c.args.tanks.now) (length c.args.answers.now) (sym c.in_ok-admit.ensures)

pub returns-clause-leaves : goal.returns-clause-leaves
returns-clause-leaves c =
    shift_right c.args.tanks.now c.args.answers.now _ _ _ _ _ (sym c.in_ok-admit.ensures) c.lent_list.ensures.leaves
