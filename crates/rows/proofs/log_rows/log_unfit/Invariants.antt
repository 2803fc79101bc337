use Rattle.std.proofs.Common.{◌≡◌, ◌&&◌, eqb, bit_or, drop}
use Rattle.ideal.specs.State.{every}
use Rattle.ideal.specs.Tables.{log_table}
use Rattle.rows.proofs.log_rows.log_unfit.Given as goal

abbrev pub invariant-loop-i : goal.invariant-loop-i
invariant-loop-i l =
    eqb (bit_or (bit_or l.identities l.tags) l.places) 0 && every log_table.is_blank (drop l.i l.rows)
    ≡ every log_table.is_blank (drop l.initial.i l.rows)
