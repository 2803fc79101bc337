use Rattle.std.proofs.Common.{◌≡◌, drop}
use Rattle.ideal.specs.Step.{logged}
use Rattle.ideal.specs.Tables.{log_table, entries_of}
use Rattle.pairs.proofs.in_log.Given as goal

-- the pair is in the rows that are left where it is in the log
abbrev pub invariant-loop-row : goal.invariant-loop-row
invariant-loop-row l =
    logged l.identity l.tag l.value (entries_of log_table l.values (drop l.row-index l.rows))
    ≡ logged l.identity l.tag l.value (entries_of log_table l.values l.rows)
