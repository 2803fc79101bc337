use Rattle.std.proofs.Common.{sym, get_or}
use Rattle.std.proofs.lemmas.List.{get_or_default}
use Rattle.std.proofs.lemmas.List.Edits.{map_over_more}
use Rattle.ideal.specs.Tables.{escrow_table}
use Rattle.ideal.proofs.Table.{escrow_lawful}
use Rattle.state.specs.Edits.{lowered}
use Rattle.state.proofs.Lowered.{no_fall}
use Rattle.rows.proofs.Lowering.{lower_rest}
use Rattle.rows.proofs.escrow_rows.edit_escrow.Goals as goal

pub loop-later-preserved : goal.loop-later-preserved
loop-later-preserved c =
    let now = c.loop-later in
    let row = get_or now.later-items now.later-index escrow_table.blank in
    let more = map_over_more (lowered escrow_table c.in-Some.field-0.fall) _ now.later-items now.later-index row c.loop-later-test.true now.invariant (get_or_default now.later-items now.later-index _ row (rw now.auto.later-items c.loop-later-test.true)) in
    cc

pub returns-after-loop-later : goal.returns-after-loop-later
returns-after-loop-later c =
    rw c.in-Some.is (lower_rest escrow_table _ _ c.loop-later.later-index _ _ c.loop-later-test.false c.loop-later.invariant)

pub returns-else-fall-ne0 : goal.returns-else-fall-ne0
returns-else-fall-ne0 c = rw (c.in-Some.is, c.if-fall-ne0.false) (sym (no_fall escrow_lawful _ _))
