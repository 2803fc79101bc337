use mathlib.Core.Path.{◌≡◌}
use lib.ListN.{drop}
use Rattle.ideal.specs.Tables.{escrow_table}
use Rattle.soundness.specs.Tests.{rows_sound, escrow_row_right}
use Rattle.soundescrow.proofs.rows_sound.Given as goal

-- the rows to come are sound from `at` on just where all are from 0 on
abbrev pub invariant-loop-row : goal.invariant-loop-row
invariant-loop-row l =
    rows_sound escrow_table escrow_row_right l.end l.at (drop l.row-index l.rows) ≡ rows_sound escrow_table escrow_row_right l.end 0 l.rows
