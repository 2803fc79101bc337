-- The edits of calls that put no row, one at the first row that is not used, or one that is released. Assumes nothing.
use Prim.Native.Nat.{ℕ, zero, suc, ◌+◌, ◌<◌}
use mathlib.Core.Path.{◌≡◌, refl, sym}
use mathlib.Core.List.{List}
use Rattle.std.specs.Prelude.{Option, Some, None}
use native.Mathlib.Omega.{arith}
use borrow.Author.Tests.{lt-ltb, le-ltb}
use Rattle.ideal.specs.declared.BoxRecord.{BoxRecord}
use Rattle.ideal.specs.declared.Used.{Used}
use Rattle.ideal.specs.declared.EscrowRow.{EscrowRow}
use Rattle.state.specs.Answers.{settled}
use Rattle.state.specs.declared.EscrowEdit.{EscrowEdit}
use Rattle.state.specs.Edits.{Fits, no_edits, EditBy, EscrowEditBy, counted, spends, EditsBy, raised, escrow_place}

pub none_put : (before after : Used) → after ≡ before → EditBy before after None
none_put before after e = rw e record { rises = sym (le-ltb before.rows before.rows (omega arith)); place = tt; fits = tt }

pub one_put : (before after : Used) (n : ℕ) → after ≡ raised before n → before.rows < 64 → EditBy before after (Some before.rows)
one_put before after n e h =
    rw e record { rises = sym (lt-ltb before.rows (before.rows + 1) (omega arith)); place = refl; fits = h }

pub no_edits_lem : (b : BoxRecord) (rows : List EscrowRow) (after : BoxRecord) → after.log ≡ b.log → after.escrow ≡ b.escrow
    → EditsBy b rows after no_edits
no_edits_lem b rows after e f = record { log = none_put _ _ e; escrow = counted (none_put _ _ f) tt }

-- a call that is refused, or that leaves the counts as they are
pub counts_kept : (n : ℕ) (b : BoxRecord) (rows : List EscrowRow) (after : BoxRecord) → after.log ≡ b.log
    → after.escrow ≡ b.escrow → EditsBy b rows (settled n b after) no_edits
unfolding settled
counts_kept zero b rows after e f = no_edits_lem b rows after e f
counts_kept (suc n) b rows after e f = no_edits_lem b rows b refl refl

-- a row is put within the table
pub escrow_fits_lem : {rows : List EscrowRow} {before after : Used} {e : Option EscrowEdit} → EscrowEditBy rows before after e
    → Fits (escrow_place e) 64
escrow_fits_lem (counted x f) = x.fits
escrow_fits_lem (spends x) = rw x.edit x.fits
