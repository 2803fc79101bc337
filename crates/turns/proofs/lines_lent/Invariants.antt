use Prim.Native.Nat.{◌≤◌, ◌-◌}
use mathlib.Core.Path.{◌≡◌}
use lib.ListN.{length}
use Rattle.calls.specs.Buffers.{tables_in, SameBuffers}
use Rattle.turns.proofs.OneByOne.{Going}
use Rattle.turns.proofs.lines_lent.Given as goal

abbrev pub invariant-loop-done : goal.invariant-loop-done
invariant-loop-done l =
    let first = l.initial in
    Going l.profile first.out (tables_in first.held first.log first.escrow first.lent) l.rest (tables_in l.held l.log l.escrow l.lent) l.done l.out l.size
    × SameBuffers first.lent l.lent × (length l.lent.output.now ≡ 1024) × (l.size ≤ length l.out)

abbrev pub decreases-loop-done : goal.decreases-loop-done
decreases-loop-done l = length l.rest - l.done
