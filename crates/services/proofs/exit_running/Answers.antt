use Prim.Native.Nat.{ℕ, ◌+◌, ◌*◌, ◌-◌, ◌≤◌, ◌<◌}
use mathlib.Core.Path.{◌≡◌}
use mathlib.Core.List.{List}
use native.Mathlib.Omega.{arith}
use native.Mathlib.Nat.{add-sub_cancel_left}
use lib.ListN.{length, replicate}
use lib.Seq.{sets}
use borrow.Author.Tests.{ne_eqb}
use borrow.Rule.Slice.PartMut.{put_mid, mid_of}
use Rattle.ideal.specs.State.{cleared}
use Rattle.ideal.specs.Step.{first_holding}
use Rattle.ideal.proofs.Kept.{cleared_length}
use Rattle.ideal.proofs.Table.{part_length}
use Rattle.state.specs.Answers.{settled, answered}
use Rattle.buffers.proofs.Loops.{part_replaced}
use Rattle.services.specs.Narrow.{exit_on, exit_heaps}
use Rattle.services.proofs.exit_running.Goals as goal

-- 256 bytes cleared
cleared-part : (l : List ℕ) (a : ℕ) → a + 256 ≤ length l
    → put_mid a (a + 256 - a) l (replicate (length (mid_of a (a + 256 - a) l)) 0) ≡ sets l a cleared
unfolding cleared
cleared-part l a h =
    rw (add-sub_cancel_left a 256, part_length l a 256 h) (part_replaced l cleared a 256 cleared_length h)

pub returns-clause-heaps_after : goal.returns-clause-heaps_after
unfolding exit_on exit_heaps first_holding settled answered
returns-clause-heaps_after c =
    let b = c.args.held in
    let p = c.requires in
    let r : b.running < 16 = omega (arith, c.if-place-eq16.false, p.runs) in
    rw (ne_eqb _ _ c.if-place-eq16.false, c.clear.ensures) (cleared-part _ (256 * b.running) (omega (arith, p.size)))
