-- A sum of remainders, as the remainder of the sum. Assumes nothing.
use Rattle.std.proofs.Common.{◌≡◌, ℕ, ◌+◌, ◌*◌, ◌%◌, ◌^◌, arith}
use native.Mathlib.Nat.{mod-add-mod, add-mod-mod}

-- seven terms, added two by two as `times_prime` adds them
pub seven : (m a b c d e f x : ℕ)
    → ((((a % m + b % m) % m) + ((c % m + d % m) % m)) % m + ((((e % m + f % m) % m) + x) % m)) % m
    ≡ (((a + b) + (c + d)) + ((e + f) + x)) % m
seven m a b c d e f x = simp (mod-add-mod, add-mod-mod)

pub prime_sum : (x : ℕ)
    → ((x * 2 ^ 40 + x * 2 ^ 8) + (x * 2 ^ 7 + x * 2 ^ 5)) + ((x * 2 ^ 4 + x * 2 ^ 1) + x) ≡ x * 1099511628211
prime_sum x = omega arith
