use Prim.Native.Nat.{ℕ, ◌+◌, ◌*◌, ◌/◌, ◌%◌, ◌^◌}
use mathlib.Core.Path.{◌≡◌, sym, ap, ◌∙◌}
use native.Mathlib.Omega.{arith}
use native.Mathlib.Nat.{add-mul-mod_self_left}
use Rattle.ideal.specs.Step.{next}
use Rattle.handles.proofs.next_draw.Goals as goal

halves : (x : ℕ)
    → (25214903917 * (x % 16777216) + 25214903917 * (x / 16777216) % 16777216 * 16777216 + 11) % 281474976710656 ≡ next x
unfolding next
halves x =
    let high = 25214903917 * (x / 16777216) in
    let kept = 25214903917 * (x % 16777216) + high % 16777216 * 16777216 + 11 in
    let e : 25214903917 * x + 11 ≡ kept + 2 ^ 48 * (high / 16777216) = omega arith in
    sym (ap (λ y. y % 2 ^ 48) e ∙ add-mul-mod_self_left kept (2 ^ 48) (high / 16777216))

pub returns : goal.returns
returns c = halves _
