-- What an arm of a branch knows of the test. Assumes nothing.
use mathlib.Core.Path.{◌≡◌, refl}
use mathlib.Core.Bool.{Bool, true, false, not}
use lib.Dec.{T}

pub is_true : (y : Bool) → T y → y ≡ true
is_true true t = refl
is_true false t = absurd t

pub is_false : (y : Bool) → T (not y) → y ≡ false
is_false true t = absurd t
is_false false t = refl
