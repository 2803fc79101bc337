use Prim.Native.Nat.{ℕ}
use mathlib.Core.Path.{◌≡◌}
use mathlib.Core.List.{List}
use lib.ListN.{length, drop}
use Rattle.ideal.specs.declared.LogRow.{LogRow}
use Rattle.ideal.specs.Tables.{log_table}
use Rattle.soundness.specs.Tests.{rows_sound, log_row_right}
use Rattle.soundlog.proofs.rows_sound.Given as goal

-- the rows to come are sound from `at` on just where all are from 0 on
abbrev pub SoundFrom : List ℕ → (end at : ℕ) → (rest rows : List LogRow) → Type 0
SoundFrom values end at rest rows =
    rows_sound log_table (log_row_right values) end at rest ≡ rows_sound log_table (log_row_right values) end 0 rows

abbrev pub invariant-loop-rest : goal.invariant-loop-rest
invariant-loop-rest l = SoundFrom l.values l.end l.at l.rest l.rows

abbrev pub decreases-loop-rest : goal.decreases-loop-rest
decreases-loop-rest l = length l.rest

abbrev pub invariant-loop-row : goal.invariant-loop-row
invariant-loop-row l = SoundFrom l.values l.end l.at (drop l.row-index l.row-items) l.rows
