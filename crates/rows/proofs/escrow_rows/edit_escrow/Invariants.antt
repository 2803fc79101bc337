use Rattle.std.proofs.Common.{◌≡◌, ◌++◌, map, take, drop}
use Rattle.ideal.specs.Tables.{escrow_table}
use Rattle.state.specs.Edits.{lowered}
use Rattle.rows.proofs.escrow_rows.edit_escrow.Given as goal

abbrev pub invariant-loop-later : goal.invariant-loop-later
invariant-loop-later l =
    let rest = l.initial.later-items in
    l.later-items ≡ map (lowered escrow_table l.fall) (take l.later-index rest) ++ drop l.later-index rest
