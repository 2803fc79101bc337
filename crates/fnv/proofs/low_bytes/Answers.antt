use Rattle.std.proofs.Common.{◌≡◌, ℕ, ◌%◌}
use native.Mathlib.Nat.{div-div-eq-div-mul}
use lib.Bits.{bit_and, and_mask}
use Rattle.fnv.specs.Fnv.{little}
use Rattle.fnv.proofs.low_bytes.Goals as goal

lowest : (n : ℕ) → bit_and n 255 ≡ n % 256
lowest n = and_mask n 8

pub returns : goal.returns
unfolding little
returns c = simp (div-div-eq-div-mul, lowest)
