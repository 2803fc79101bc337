-- What a call that is not refused writes or shows lies in the running place's heap. Assumes nothing.
use Prim.Native.Nat.{ℕ, ◌+◌}
use mathlib.Core.Path.{◌≡◌}
use mathlib.Core.Bool.{not}
use native.Mathlib.Omega.{arith}
use lib.Dec.{eqb, ltb}
use borrow.Author.Tests.{ltb-false, eqb-true, not-false}
use Rattle.ideal.specs.Step.{beyond}
use Rattle.ideal.proofs.Passing.{failed, passed}
use Rattle.state.proofs.Parts.{HeapFits}
use Rattle.heap.specs.Narrow.{heap_refusal}

pub heap_fits : (r p o n : ℕ) → heap_refusal r p o n ≡ 0 → HeapFits r o n
unfolding heap_refusal beyond
heap_fits r p o n e =
    let e₁ = passed 3 (eqb r 16) _ e in
    let e₂ = passed 5 (ltb 15 p) _ e₁ in
    let low = ltb-false 15 p (failed 5 (ltb 15 p) _ e₁) in
    let same = eqb-true p r (not-false _ (failed 7 (not (eqb p r)) _ e₂)) in
    let e₃ = passed 7 (not (eqb p r)) _ e₂ in
    record { runs = omega arith; within = ltb-false 256 (o + n) (failed 10 (beyond 256 o n) _ e₃) }
