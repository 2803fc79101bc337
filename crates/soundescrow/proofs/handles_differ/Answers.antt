use mathlib.Core.Bool.{false}
use mathlib.Core.List.{List}
use mathlib.Core.Path.{◌≡◌, refl, sym, ◌∙◌}
use native.Mathlib.Omega.{arith}
use lib.ListN.{length}
use borrow.Author.Tests.{eqb-true}
use Rattle.std.proofs.Common.{ℕ}
use Rattle.ideal.specs.Soundness.{same_handle}
use Rattle.ideal.specs.Step.{has_handle}
use Rattle.ideal.specs.Tables.{escrow_table}
use Rattle.soundness.proofs.Seen.{slot_of, none_seen, seen_more, from_first, like_before, unseen, differ_not, differ_later, differ_all}
use Rattle.soundescrow.proofs.handles_differ.Goals as goal
use Rattle.soundescrow.proofs.handles_differ.Goals.{else-seen-slot-via-then-seen-slot+else-is_used, else-seen-slot-via-else-seen-slot}
use Rattle.soundescrow.proofs.handles_differ.Invariants.{number}

pub loop-i-init : goal.loop-i-init
loop-i-init c = (none_seen escrow_table.blank number c.args.rows.now _ refl, λ values. from_first escrow_table same_handle values c.args.rows.now)

pub returns-then-is_used : goal.returns-then-is_used
unfolding same_handle
returns-then-is_used c =
    let l = c.loop-i in
    λ values.
    differ_not escrow_table same_handle values c.args.rows.now l.i c.loop-i-test.true (l.invariant.1 values) (sym (c.is_used.ensures values) ∙ c.if-is_used.true)

pub loop-i-preserved : goal.loop-i-preserved
unfolding same_handle has_handle slot_of
loop-i-preserved c =
    let rows = c.args.rows.now in
    let l = c.loop-i in
    let none : (values : List ℕ) → like_before escrow_table same_handle values rows l.i ≡ false =
    elim c.else-seen-slot.branch [
      | else-seen-slot-via-then-seen-slot+else-is_used w ↦ λ values. sym (w.is_used.ensures values) ∙ w.if-is_used.false
      | else-seen-slot-via-else-seen-slot w ↦
          λ values.
          unseen escrow_table same_handle values rows number (λ r q y. eqb-true (number q) (number r) y) l.i l.seen (omega arith) l.invariant.0 w.if-seen-slot.false
    ] in (
      seen_more escrow_table.blank number rows l.i l.seen l.invariant.0,
      λ values. differ_later escrow_table same_handle values rows l.i c.loop-i-test.true (l.invariant.1 values) (none values),
    )

pub returns : goal.returns
returns c =
    let rows = c.args.rows.now in
    let l = c.loop-i in
    let e : l.i ≡ length rows = omega arith in
    λ values. differ_all escrow_table same_handle values rows (rw e at (l.invariant.1 values))
