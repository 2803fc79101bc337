use Rattle.std.proofs.Common.{rules, tests}
use Rattle.std.proofs.lemmas.Bool.Decides.{same_from_decides}
use Rattle.std.proofs.lemmas.Iterator.{YieldsList-from_slice, YieldsList-from_zip, same_from_all}
use Rattle.std.proofs.lemmas.Slice.Eq.{compares_Decides}
use Rattle.lists.specs.Lists.{same_bytes}
use Rattle.buffers.proofs.same.Goals as goal

pub returns : goal.returns
unfolding same_bytes
returns c =
    let a = c.args.a.now in
    let b = c.args.b.now in
    same_from_decides _ (same_bytes a b)
    (same_from_all c.all.new.self _ _ _ _ c.all.ensures.ran (YieldsList-from_zip (YieldsList-from_slice a cc) (YieldsList-from_slice b cc)) c.if-a-b.false (λ x q k. search (rules, tests)) (λ x q k. search (rules, tests)))
    (compares_Decides same_bytes (search rules) a b)
