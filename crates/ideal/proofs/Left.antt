-- What is left in the escrow of the values that were protected: each, spent where it was released. Assumes nothing.
use Prim.Native.Nat.{ℕ}
use mathlib.Core.Path.{◌≡◌, refl}
use mathlib.Core.Bool.{Bool, cond}
use mathlib.Core.List.{List, [], ◌∷◌, map}
use Rattle.record.specs.declared.Handle.{Handle}
use Rattle.ideal.specs.State.{Escrowed, Move, releases, bytes_used}
use Rattle.ideal.specs.Step.{is_named, spent, given_up}
use Rattle.ideal.specs.History.{is_released, bytes_held}
use Rattle.lists.proofs.Bools.{by_cases}

-- a protected value, spent or not
unfoldable pub left_by : Bool → Escrowed → Escrowed
left_by released e =
    let k = e.key in
    record {
      key = record { source = k.source; recipient = k.recipient; handle = k.handle; mark = cond released 1 0 };
      value = cond released [] e.value;
    }

abbrev pub left : List Move → Escrowed → Escrowed
left past e = left_by (is_released past e) e

pub released_left : (i r : ℕ) (h : Handle) (past : List Move) (e : Escrowed)
    → given_up h i r (left past e) ≡ left (releases i r h ∷ past) e
unfolding left_by is_released given_up is_named spent
released_left i r h past e = by_cases (is_named h i r e) (λ b. rw b) (λ b. rw b)

pub released_all : (i r : ℕ) (h : Handle) (past : List Move) (l : List Escrowed)
    → map (given_up h i r) (map (left past) l) ≡ map (left (releases i r h ∷ past)) l
released_all i r h past [] = refl
released_all i r h past (e ∷ l) = rw (released_left i r h past e, released_all i r h past l)

pub bytes_left : (past : List Move) (l : List Escrowed) → bytes_used (map (left past) l) ≡ bytes_held past l
unfolding bytes_used bytes_held left_by
bytes_left past [] = refl
bytes_left past (e ∷ l) = by_cases (is_released past e) (λ b. rw (b, bytes_left past l)) (λ b. rw (b, bytes_left past l))
