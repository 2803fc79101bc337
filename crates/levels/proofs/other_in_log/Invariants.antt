use Rattle.std.proofs.Common.{◌≡◌, drop}
use Rattle.ideal.specs.State.{any}
use Rattle.ideal.specs.LevelOne.{is_other}
use Rattle.ideal.specs.Tables.{log_table, entries_of}
use Rattle.levels.proofs.other_in_log.Given as goal

-- another value is in the rows that are left where it is in the log
abbrev pub invariant-loop-row : goal.invariant-loop-row
invariant-loop-row l =
    any (is_other l.identity l.value) (entries_of log_table l.values (drop l.row-index l.rows))
    ≡ any (is_other l.identity l.value) (entries_of log_table l.values l.rows)
