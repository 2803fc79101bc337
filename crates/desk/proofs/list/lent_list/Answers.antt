-- Where no tank asks, or the lent rows and buffers are not those of a sound box, every check is refused; else the box is asked.
use Rattle.std.proofs.Common.{sym, length}
use Rattle.ideal.specs.Tables.{log_table, escrow_table}
use Rattle.calls.specs.Buffers.{tables_in}
use Rattle.calls.proofs.Whole.{ready_sound, not_ready}
use Rattle.rows.proofs.Unfitting.{fitting, rest_blank, log_unsound, escrow_unsound}
use Rattle.desk.proofs.Unasked.{unready_list, unasked_list}
use Rattle.desk.proofs.list.lent_list.Goals as goal
use Rattle.desk.proofs.list.lent_list.Goals.{then-none_asks-via-then-none_asks as asks-none, then-none_asks-via-else-none_asks+then-log_unfit as log-unfit, then-none_asks-via-else-none_asks+else-log_unfit+then-escrow_unfit as escrow-unfit, then-none_asks-via-else-none_asks+else-log_unfit+else-escrow_unfit+then-not-is_ready_in as not-ready}

pub is_ready_in-requires-clause-counted : goal.is_ready_in-requires-clause-counted
is_ready_in-requires-clause-counted c = ((fitting log_table _ _ (sym c.if-log_unfit.ensures)).0, (fitting escrow_table _ _ (sym c.if-escrow_unfit.ensures)).0)

pub is_ready_in-requires-clause-rest_blank : goal.is_ready_in-requires-clause-rest_blank
is_ready_in-requires-clause-rest_blank c = rest_blank _ (fitting log_table _ _ (sym c.if-log_unfit.ensures)) (fitting escrow_table _ _ (sym c.if-escrow_unfit.ensures))

pub list_sound-requires-clause-sound : goal.list_sound-requires-clause-sound
list_sound-requires-clause-sound c = ready_sound _ _ (sym c.if-not-is_ready_in.ensures)

pub returns-then-none_asks-clause-leaves : goal.returns-then-none_asks-clause-leaves
returns-then-none_asks-clause-leaves c =
    let x = c.args in
    let t = tables_in x.held x.log.now x.escrow.now x.lent.now in
    let n = length x.lent.now.output.now in
    rw c.refused_list.ensures
    (elim c.then-none_asks.branch [
      | asks-none w ↦ rw (unasked_list t n x.tanks.now (sym w.if-none_asks.ensures))
      | log-unfit w ↦ rw (unready_list t n (log_unsound t n (sym w.if-log_unfit.ensures)) x.tanks.now)
      | escrow-unfit w ↦ rw (unready_list t n (escrow_unsound t n (sym w.if-escrow_unfit.ensures)) x.tanks.now)
      | not-ready w ↦ rw (unready_list t n (not_ready t n (sym w.if-not-is_ready_in.ensures)) x.tanks.now)
    ])
