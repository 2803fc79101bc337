-- A list of tests: what an accepted call passed. Assumes nothing.
use Prim.Native.Nat.{ℕ, suc}
use mathlib.Core.Path.{◌≡◌, refl}
use mathlib.Core.Bool.{Bool, true, false}
use native.Mathlib.Omega.{arith}
use Rattle.ideal.specs.Step.{Tests, ◌then◌, first_holding}

-- the first test failed
pub failed : (n : ℕ) (b : Bool) (ts : Tests) → first_holding ((suc n, b) then ts) ≡ 0 → b ≡ false
unfolding first_holding
failed n true ts h = absurd (omega arith)
failed n false ts h = refl

-- and the others too
pub passed : (n : ℕ) (b : Bool) (ts : Tests) → first_holding ((suc n, b) then ts) ≡ 0 → first_holding ts ≡ 0
unfolding first_holding
passed n true ts h = absurd (omega arith)
passed n false ts h = h
