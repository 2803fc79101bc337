use Rattle.std.proofs.Common.{◌≡◌, ℕ, ◌-◌, ◌^◌, ◌≤◌, ◌<◌, Bool, true, false, ltb, List, [], ◌∷◌, ◌++◌, refl, sym, ap, ◌∙◌, arith, rules}
use Rattle.std.proofs.lemmas.List.{take_all}
use native.Mathlib.Nat.{pow-le-pow_right}
use lib.Dec.{lit<}
use borrow.Author.Tests.{ltb-true, ltb-false}
use Rattle.vectors.specs.Lines.{line_of}
use Rattle.vectors.proofs.line_of.Goals as goal

-- a number of 64 bits has at most 16 digits
sixteen : {n r : ℕ} (b : Bool) → ltb 16 r ≡ b → n < 2 ^ 64 → 16 ≤ r → (16 < r → 16 ^ (r - 1) ≤ n) → r ≡ 16
sixteen {r = r} true e h l f =
    let m = ltb-true 16 r e in
    absurd (omega (arith, f m, pow-le-pow_right {n = 16} (lit< tt) {i = 16} {j = r - 1} (omega arith)))
sixteen {r = r} false e h l f = omega (arith, ltb-false 16 r e)

pub returns : goal.returns
unfolding line_of
returns c =
    let digits = c.hex.ensures in
    let all = sixteen (ltb 16 c.hex.result) refl (search rules) digits.len.0 digits.len.2 in
    let text = rw (all, c.hash.ensures) at digits.digits in
    let whole = take_all 16 c.hex.new.out (omega arith) in
    ap (λ (d : List ℕ). d ++ (10 ∷ [])) (c.copy_from_slice.ensures.after ∙ sym whole ∙ text)
