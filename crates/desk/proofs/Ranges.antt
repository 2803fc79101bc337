-- The test of a range, and the order of the integers that it decides. Assumes nothing.
use mathlib.Core.Path.{◌≡◌}
use mathlib.Core.Bool.{true}
use native.Mathlib.Omega.{arith}
use lib.IntN.{ℤ}
use Rattle.std.proofs.lemmas.Int.{ints}
use Rattle.desk.specs.Decision.{between}
use Rattle.desk.specs.Accuracy.{Within}

pub is_within : (low high x : ℤ) → between low high x ≡ true → Within low high x
unfolding between
is_within low high x e = (grind (arith, ints), grind (arith, ints))

pub within_is : (low high x : ℤ) → Within low high x → between low high x ≡ true
unfolding between
within_is low high x w = grind (arith, ints)
