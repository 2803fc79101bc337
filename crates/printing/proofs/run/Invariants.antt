use Prim.Native.Nat.{◌≤◌, ◌-◌}
use mathlib.Core.Path.{◌≡◌}
use lib.ListN.{length}
use Rattle.ideal.specs.Tables.{lent_tables}
use Rattle.printing.proofs.Going.{Going}
use Rattle.printing.proofs.run.Given as goal

abbrev pub invariant-loop-at : goal.invariant-loop-at
invariant-loop-at l =
    Going l.profile l.script (lent_tables l.held l.log l.escrow l.heaps l.shared l.log_values l.escrow_values) l.at l.so_far.printed × (l.at ≤ length l.script) × (4096 ≡ length l.heaps) × (1024 ≡ length l.shared) × (4096 ≡ length l.log_values) × (4096 ≡ length l.escrow_values)
    × (65536 ≡ length l.text)

abbrev pub decreases-loop-at : goal.decreases-loop-at
decreases-loop-at l = length l.script - l.at
