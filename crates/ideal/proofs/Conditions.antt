-- The first condition that holds, computed. Assumes nothing.
use Prim.Native.Nat.{ℕ}
use mathlib.Core.Path.{◌≡◌, sym}
use mathlib.Core.Logic.{◌↔◌}
use mathlib.Core.Bool.{Bool, true, cond}
use mathlib.Core.List.{List, [], ◌∷◌, ◌++◌}
use Rattle.ideal.specs.State.{every}
use Rattle.ideal.specs.Refusals.{First, here, later, none_holds}
use Rattle.lists.proofs.Bools.{and_left, and_right, by_cases}

-- the number of the first condition that holds; 0 where none does
unfoldable pub first_of : List (ℕ × Bool) → ℕ
first_of [] = 0
first_of (c ∷ cs) = cond c.1 c.0 (first_of cs)

first_is : {n : ℕ} {cs : List (ℕ × Bool)} → First n cs → first_of cs ≡ n
unfolding first_of
first_is (here h) = rw h
first_is (later h f) = rw h (first_is f)
first_is (none_holds e) = sym e

is_first : (n : ℕ) (cs : List (ℕ × Bool)) → first_of cs ≡ n → First n cs
unfolding first_of
is_first n [] e = none_holds (sym e)
is_first n (c ∷ cs) e =
    by_cases c.1
    (λ h. let m : c.0 ≡ n = rw h at e in rw (← m) (here h))
    (λ h. later h (is_first n cs (rw h at e)))

pub first_of_lem : (n : ℕ) (cs : List (ℕ × Bool)) → (first_of cs ≡ n) ↔ First n cs
first_of_lem n cs = (is_first n cs, first_is)

-- it is one of the conditions' numbers, or that of the conditions after them
pub first_among : (p : ℕ → Bool) (bs cs : List (ℕ × Bool)) → every (λ c. p c.0) bs ≡ true → p (first_of cs) ≡ true
    → p (first_of (bs ++ cs)) ≡ true
unfolding first_of every
first_among p [] cs h k = k
first_among p (b ∷ bs) cs h k =
    by_cases b.1
    (λ e. rw e (and_left (p b.0) _ h))
    (λ e. rw e (first_among p bs cs (and_right (p b.0) _ h) k))
