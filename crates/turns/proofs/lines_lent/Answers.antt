use Rattle.std.proofs.Common.{sym, subst, arith, rules}
use Rattle.ideal.specs.Layouts.{Sound}
use Rattle.ideal.proofs.Facts.{output_size_lem}
use Rattle.turns.proofs.OneByOne.{starts, at_end, at_room, part_length, further, some_done, more_fits, goes_on}
use Rattle.turns.proofs.lines_lent.Goals as goal

pub loop-done-init : goal.loop-done-init
loop-done-init c =
    let size = output_size_lem _ _ c.requires.0.sizes in
    (starts (subst (Sound _) size c.requires.0), search rules, size, search rules)

pub next_line-next-requires : goal.next_line-next-requires
next_line-next-requires c =
    let now = c.loop-done in
    (subst (Sound _) (sym now.invariant.2) now.invariant.0.sound, omega (arith, part_length now.out now.size, c.if-out-size-lt-LINE.false))

pub loop-done-smaller : goal.loop-done-smaller
loop-done-smaller c =
    let g = c.loop-done.invariant.0 in
    omega (arith, some_done g c.loop-done-test.true c.if-out-size-lt-LINE.false c.next_line-next.ensures.turn_made, further g c.loop-done-test.true c.if-out-size-lt-LINE.false c.next_line-next.ensures.turn_made)

pub loop-done-preserved : goal.loop-done-preserved
loop-done-preserved c =
    let kept = c.loop-done.invariant in
    let made = c.next_line-next.ensures.turn_made in (
      goes_on kept.0 c.loop-done-test.true c.if-out-size-lt-LINE.false made,
      search rules,
      search rules,
      omega (arith, more_fits kept.0 c.loop-done-test.true c.if-out-size-lt-LINE.false made, c.next_line-next.auto.out),
    )

pub returns-after-loop-done-clause-turn_made : goal.returns-after-loop-done-clause-turn_made
returns-after-loop-done-clause-turn_made c = at_end c.loop-done.invariant.0 c.loop-done-test.false

pub returns-then-out-size-lt-LINE-clause-turn_made : goal.returns-then-out-size-lt-LINE-clause-turn_made
returns-then-out-size-lt-LINE-clause-turn_made c = at_room c.loop-done.invariant.0 c.if-out-size-lt-LINE.true
