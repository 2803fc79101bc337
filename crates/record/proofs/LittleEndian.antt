-- A number and its bytes, lowest first: each fixes the other, and one byte more. Assumes nothing.
use Prim.Native.Nat.{ℕ, zero, suc, ◌+◌, ◌*◌, ◌-◌, ◌/◌, ◌^◌, ◌≤◌, ◌<◌}
use mathlib.Core.Path.{◌≡◌, refl, ap}
use mathlib.Core.List.{List, [], ◌∷◌}
use native.Mathlib.Nat.{zero-add, pow-suc, pow-succ', pow-le-pow_right, mod-add-div, div-lt_iff_lt-mul}
use native.Mathlib.Nat.{add-mul-mod_self_left, add-mul-div_left, mod-eq_of_lt, div-eq_of_lt}
use native.Mathlib.Numerals.{add-one}
use native.Mathlib.Omega.{arith}
use lib.ListN.{length, get_or, take, drop}
use lib.Seq.{drop-cons}
use Rattle.fnv.specs.Fnv.{little}
use Rattle.record.specs.Read.{from_little}
use Rattle.record.specs.Statements.{Bytes}

pub length_little : (n x : ℕ) → length (little n x) ≡ n
unfolding little
length_little zero x = refl
length_little (suc n) x = ap suc (length_little n (x / 256))

pub from_little_lem : (n x : ℕ) → x < 256 ^ n → from_little (little n x) ≡ x
unfolding little from_little
from_little_lem zero x h = omega arith
from_little_lem (suc n) x h =
    let less : x / 256 < 256 ^ n = (div-lt_iff_lt-mul {k = 256} (omega arith)).1 (rw (← pow-suc 256 n) h) in
    rw (from_little_lem n (x / 256) less) (mod-add-div x 256)

pub from_below : (bs : List ℕ) → Bytes bs → from_little bs < 256 ^ length bs
unfolding from_little
from_below [] h = omega arith
from_below (b ∷ bs) h =
    let low : b < 256 = h 0 (omega arith) in
    let rest = from_below bs (λ k l. h (suc k) (omega arith)) in
    omega (arith, pow-suc 256 (length bs))

pub little_from : (bs : List ℕ) → Bytes bs → little (length bs) (from_little bs) ≡ bs
unfolding little from_little
little_from [] h = refl
little_from (b ∷ bs) h =
    let low : b < 256 = h 0 (omega arith) in
    let rest = little_from bs (λ k l. h (suc k) (omega arith)) in
    rw (
      add-mul-mod_self_left b 256 (from_little bs),
      add-mul-div_left b (from_little bs) {y = 256} (omega arith),
      mod-eq_of_lt low,
      div-eq_of_lt low,
      zero-add,
      rest,
    )

-- the bytes from k on to the w-th, by the lowest of them and those behind it
pub byte_more : (bs : List ℕ) (at w k : ℕ) → k < w → at + w ≤ length bs
    → from_little (take (w - k) (drop (at + k) bs)) ≡ get_or bs (at + k) 0 + 256 * from_little (take (w - (k + 1)) (drop (at + (k + 1)) bs))
unfolding from_little
byte_more bs at w k l h =
    let e : w - k ≡ suc (w - (k + 1)) = omega arith in
    let s : at + (k + 1) ≡ suc (at + k) = omega arith in
    let below : at + k < length bs = omega arith in
    rw (e, s, drop-cons bs (at + k) 0 below)

pub below_more : {x b : ℕ} (n : ℕ) → x < 256 ^ n → b < 256 → x * 256 + b < 256 ^ (n + 1)
below_more {x} {b} n h l = rw (add-one, pow-succ') (omega arith)

-- the highest seven bytes leave room for another
pub below_seven : {x : ℕ} (n : ℕ) → x < 256 ^ n → n < 8 → x < 256 ^ 7
below_seven {x} n h l =
    let le : n ≤ 7 = omega arith in
    let p : 256 ^ n ≤ 256 ^ 7 = pow-le-pow_right (omega arith) le in
    omega arith

pub zero_below : (n : ℕ) → 0 < 256 ^ n
zero_below n =
    let le : 0 ≤ n = omega arith in
    pow-le-pow_right (omega arith) le
