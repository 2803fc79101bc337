use Prim.Native.Nat.{◌/◌, ◌^◌}
use borrow.Author.Tests.{ne_eqb, lt-ltb}
use lib.Bits.{and_mask}
use Rattle.record.specs.Layout.{stands}
use Rattle.soundplaces.proofs.running_taken.Goals as goal

pub returns-then-running-lt16 : goal.returns-then-running-lt16
unfolding stands
returns-then-running-lt16 c =
    let p = c.args.running in
    rw (ne_eqb _ _ c.if-running-eq16.false, lt-ltb p 16 c.if-running-lt16.true, and_mask (c.args.taken / 2 ^ p) 1)
