-- A table that is not full has room. Assumes nothing.
use Prim.Native.Nat.{ℕ, ◌+◌, ◌≤◌}
use mathlib.Core.Path.{◌≡◌}
use mathlib.Core.Bool.{false}
use native.Mathlib.Omega.{arith}
use lib.Dec.{eqb}
use borrow.Author.Tests.{eqb-false, ltb-false}
use Rattle.ideal.specs.declared.Used.{Used}
use Rattle.lists.proofs.Bools.{or_false_left, or_false_right}
use Rattle.state.specs.Counts.{full_by, Room}

pub has_room : (used : Used) (n : ℕ) → used.rows ≤ 64 → full_by used n ≡ false → Room used n
unfolding full_by
has_room used n h f =
    let d = eqb-false used.rows 64 (or_false_left (eqb used.rows 64) _ f) in
    record {
      row = omega arith;
      bytes = ltb-false 4096 (used.bytes + n) (or_false_right (eqb used.rows 64) _ f);
    }
