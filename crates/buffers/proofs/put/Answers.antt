use Prim.Native.Nat.{◌+◌, ◌-◌, ◌≤◌}
use mathlib.Core.Path.{◌≡◌, ap, ◌∙◌}
use mathlib.Core.List.{◌++◌}
use native.Mathlib.Omega.{arith}
use lib.ListN.{length, take, drop, length-take}
use Rattle.buffers.proofs.Loops.{part_replaced, copied_whole}
use Rattle.buffers.proofs.put.Goals as goal

pub returns : goal.returns
returns c =
    let x = c.args in
    let l = x.dst.now in
    let v = x.src.now in
    let a = x.start in
    let n = a + length v - a in
    let e : length v ≡ n = omega arith in
    let h : a + n ≤ length l = omega arith in
    ap (λ w. take a l ++ (w ++ drop n (drop a l))) (c.copy.ensures ∙ copied_whole v _ (simp length-take (omega arith)))
    ∙ part_replaced l v a n e h
