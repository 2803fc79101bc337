-- Tests that are Bools. Assumes nothing.
use mathlib.Core.Path.{◌≡◌, refl}
use mathlib.Core.Logic.{◌⊎◌, inl, inr}
use mathlib.Core.Bool.{Bool, true, false, not, ◌&&◌, ◌||◌, true≢false, false≢true}

-- by the value of a test, with its equation at hand
pub by_cases : {P : Type 0} (b : Bool) → (b ≡ true → P) → (b ≡ false → P) → P
by_cases true f g = f refl
by_cases false f g = g refl

pub and_left : (a b : Bool) → a && b ≡ true → a ≡ true
and_left true b h = refl
and_left false b h = absurd (false≢true h)

pub and_right : (a b : Bool) → a && b ≡ true → b ≡ true
and_right true b h = h
and_right false b h = absurd (false≢true h)

pub and_true : (a b : Bool) → a ≡ true → b ≡ true → a && b ≡ true
and_true true b x y = y
and_true false b x y = x

pub and_other : (a b : Bool) → a ≡ true → a && b ≡ false → b ≡ false
and_other true b t h = h
and_other false b t h = absurd (false≢true t)

pub and_false : (a b : Bool) → b ≡ false → a && b ≡ false
and_false true b h = h
and_false false b h = refl

pub or_true_left : (a b : Bool) → a ≡ true → a || b ≡ true
or_true_left true b h = refl
or_true_left false b h = absurd (false≢true h)

pub or_true_right : (a b : Bool) → b ≡ true → a || b ≡ true
or_true_right true b h = refl
or_true_right false b h = h

pub or_split : (a b : Bool) → a || b ≡ true → (a ≡ true) ⊎ (b ≡ true)
or_split true b h = inl refl
or_split false b h = inr h

pub or_false : (a b : Bool) → a ≡ false → b ≡ false → a || b ≡ false
or_false true b x y = absurd (true≢false x)
or_false false b x y = y

pub or_false_left : (a b : Bool) → a || b ≡ false → a ≡ false
or_false_left true b h = absurd (true≢false h)
or_false_left false b h = refl

pub or_false_right : (a b : Bool) → a || b ≡ false → b ≡ false
or_false_right true b h = absurd (true≢false h)
or_false_right false b h = h

pub not_is : (b : Bool) → b ≡ false → not b ≡ true
not_is true h = absurd (true≢false h)
not_is false h = refl

pub clash : {P : Type 0} (b : Bool) → b ≡ true → b ≡ false → P
clash true x y = absurd (true≢false y)
clash false x y = absurd (false≢true x)

pub or_assoc : (a b c : Bool) → (a || b) || c ≡ a || (b || c)
or_assoc true b c = refl
or_assoc false b c = refl

pub or_nil : (a : Bool) → a || false ≡ a
or_nil true = refl
or_nil false = refl

pub and_assoc : (a b c : Bool) → (a && b) && c ≡ a && (b && c)
and_assoc true b c = refl
and_assoc false b c = refl

pub and_nil : (a : Bool) → a && true ≡ a
and_nil true = refl
and_nil false = refl

pub and_swap : (a b c d : Bool) → (a && b) && (c && d) ≡ (a && c) && (b && d)
and_swap true true c d = refl
and_swap true false true d = refl
and_swap true false false d = refl
and_swap false b c d = refl
