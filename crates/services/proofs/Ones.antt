-- The ones operation counts a map's bits. Assumes nothing.
use Prim.Native.Nat.{ℕ, zero, suc, ◌/◌, ◌^◌, ◌<◌}
use mathlib.Core.Path.{◌≡◌, sym}
use native.Mathlib.Omega.{arith}
use native.Mathlib.Nat.{pow-succ'}
use lib.Count as Count
use Rattle.ideal.specs.History.{ones}

pub ones_counted : (n map : ℕ) → map < 2 ^ n → ones n map ≡ Count.ones map
unfolding ones
ones_counted zero map h =
    let z : map ≡ 0 = omega arith in
    rw z (sym (Count.ones-ones 0))
ones_counted (suc n) map h =
    let k : map / 2 < 2 ^ n = let e = pow-succ' 2 n in omega arith in
    rw (ones_counted n (map / 2) k) (sym (Count.ones_step map))
