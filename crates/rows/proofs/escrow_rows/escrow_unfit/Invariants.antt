use Rattle.std.proofs.Common.{◌≡◌, ◌&&◌, eqb, bit_or, drop}
use Rattle.ideal.specs.State.{every}
use Rattle.ideal.specs.Tables.{escrow_table}
use Rattle.rows.proofs.escrow_rows.escrow_unfit.Given as goal

abbrev pub invariant-loop-i : goal.invariant-loop-i
invariant-loop-i l =
    eqb (bit_or (bit_or (bit_or (bit_or l.sources l.recipients) l.handles) l.places) l.marks) 0 && every escrow_table.is_blank (drop l.i l.rows)
    ≡ every escrow_table.is_blank (drop l.initial.i l.rows)
