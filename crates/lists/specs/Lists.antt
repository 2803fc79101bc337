-- Searches in lists, and tests of what is in them.
use Rattle.std.specs.Prelude.{ℕ, suc, Bool, true, false, ◌&&◌, ◌||◌, cond, List, [], ◌∷◌, eqb}
use Rattle.std.proofs.Math.Option.{Option, none, some}

unfoldable pub any : {A : Type 0} → (A → Bool) → List A → Bool
any p [] = false
any p (a ∷ l) = p a || any p l

unfoldable pub every : {A : Type 0} → (A → Bool) → List A → Bool
every p [] = true
every p (a ∷ l) = p a && every p l

unfoldable pub find : {A : Type 0} → (A → Bool) → List A → Option A
find p [] = none
find p (a ∷ l) = cond (p a) (some a) (find p l)

-- the index of the first that passes; past the end where none does
unfoldable pub position : {A : Type 0} → (A → Bool) → List A → ℕ
position p [] = 0
position p (a ∷ l) = cond (p a) 0 (suc (position p l))

unfoldable pub same_bytes : List ℕ → List ℕ → Bool
same_bytes [] [] = true
same_bytes [] (w ∷ ws) = false
same_bytes (v ∷ vs) [] = false
same_bytes (v ∷ vs) (w ∷ ws) = eqb v w && same_bytes vs ws

unfoldable pub all_zero : List ℕ → Bool
all_zero l = every (λ b. eqb b 0) l
