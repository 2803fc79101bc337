use Prim.Native.Nat.{ℕ, ◌<◌}
use mathlib.Core.Bool.{true, false}
use mathlib.Core.List.{List}
use mathlib.Core.Path.{◌≡◌, refl, sym, ◌∙◌}
use native.Mathlib.Omega.{arith}
use lib.Dec.{eqb}
use lib.ListN.{length, length-take}
use lib.Seq.{get_or-take}
use borrow.Author.Tests.{eqb-true}
use Rattle.ideal.specs.Fit.{RowsFit}
use Rattle.ideal.specs.Step.{is_logged, logged}
use Rattle.ideal.specs.Tables.{log_table, entry_of}
use Rattle.ideal.specs.declared.LogRow.{LogRow}
use Rattle.lists.proofs.Bools.{and_left, and_right}
use Rattle.soundness.specs.Tests.{same_logged}
use Rattle.soundness.proofs.Seen.{slot_of, none_seen, seen_more, from_first, like_before, unseen, differ_not, differ_later, differ_all}
use Rattle.soundlog.proofs.pairs_differ.Goals as goal
use Rattle.soundlog.proofs.pairs_differ.Goals.{else-seen-slot-via-then-seen-slot+else-in_log, else-seen-slot-via-else-seen-slot}
use Rattle.soundlog.proofs.pairs_differ.Invariants.{number}

agree : (values : List ℕ) (r o : LogRow) → same_logged (entry_of log_table values r) (entry_of log_table values o) ≡ true → number o ≡ number r
unfolding same_logged is_logged
agree values r o y =
    let tags = eqb (number o) (number r) in
    eqb-true (number o) (number r) (and_left tags _ (and_right (eqb o.identity r.identity) _ y))

pub loop-i-init : goal.loop-i-init
loop-i-init c =
    (none_seen log_table.blank number c.args.rows.now _ refl, from_first log_table same_logged c.args.values.now c.args.rows.now)

pub value_of-value-requires : goal.value_of-value-requires
unfolding RowsFit
value_of-value-requires c = c.requires c.loop-i.i c.loop-i-test.true

pub in_log-requires : goal.in_log-requires
unfolding RowsFit
in_log-requires c =
    λ k h.
    let b : k < c.loop-i.i = omega (arith, length-take {A = LogRow}) in
    rw (get_or-take c.loop-i.i c.args.rows.now k log_table.blank b) (c.requires k (omega arith))

pub returns-then-in_log : goal.returns-then-in_log
unfolding same_logged logged
returns-then-in_log c =
    let a = c.args in
    let l = c.loop-i in
    differ_not log_table same_logged a.values.now a.rows.now l.i c.loop-i-test.true l.invariant.1 (sym (rw c.value_of-value.ensures at c.in_log.ensures) ∙ c.if-in_log.true)

pub loop-i-preserved : goal.loop-i-preserved
unfolding same_logged logged slot_of
loop-i-preserved c =
    let a = c.args in
    let l = c.loop-i in
    let none : like_before log_table same_logged a.values.now a.rows.now l.i ≡ false =
    elim c.else-seen-slot.branch [
      | else-seen-slot-via-then-seen-slot+else-in_log w ↦ sym (rw c.value_of-value.ensures at w.in_log.ensures) ∙ w.if-in_log.false
      | else-seen-slot-via-else-seen-slot w ↦
          unseen log_table same_logged a.values.now a.rows.now number (agree a.values.now) l.i l.seen (omega arith) l.invariant.0 w.if-seen-slot.false
    ] in (
      seen_more log_table.blank number a.rows.now l.i l.seen l.invariant.0,
      differ_later log_table same_logged a.values.now a.rows.now l.i c.loop-i-test.true l.invariant.1 none,
    )

pub returns : goal.returns
returns c =
    let a = c.args in
    let l = c.loop-i in
    let e : l.i ≡ length a.rows.now = omega arith in
    differ_all log_table same_logged a.values.now a.rows.now (rw e at l.invariant.1)
