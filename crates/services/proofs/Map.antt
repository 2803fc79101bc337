-- The map of taken places: a place's bit added and taken away. Assumes nothing.
use Prim.Native.Nat.{ℕ, zero, suc, ◌+◌, ◌^◌, ◌≤◌, ◌<◌}
use mathlib.Core.Path.{◌≡◌, sym, ap, ◌∙◌}
use mathlib.Core.Bool.{cond}
use mathlib.Core.List.{List, [], ◌∷◌}
use native.Mathlib.Omega.{arith}
use native.Mathlib.Nat.{pow-le-pow_right, pow-succ'}
use lib.Dec.{eqb}
use lib.ListN.{length, get_or, set, length-set}
use lib.Seq.{set-set, set-get_or, get_or-set_same}
use borrow.Author.Tests.{eq-eqb, ne_eqb}
use Rattle.ideal.specs.Tables.{taken_map}
use Rattle.lists.proofs.Bools.{by_cases}

pub bit_fits : (p : ℕ) → p < 16 → 2 ^ p < 65536
bit_fits p h = let k : 2 ^ p ≤ 2 ^ 15 = pow-le-pow_right {n = 2} (omega arith) {i = p} {j = 15} (omega arith) in omega arith

bit_small : (i : ℕ) → cond (eqb i 0) 0 1 ≤ 1
bit_small i = by_cases (eqb i 0) (λ e. rw e (omega arith)) (λ e. rw e (omega arith))

map_small : (ids : List ℕ) → taken_map ids < 2 ^ length ids
unfolding taken_map
map_small [] = omega arith
map_small (i ∷ ids) = rw (pow-succ' 2 (length ids)) (omega (arith, map_small ids, bit_small i))

-- an empty place is taken
pub map_taken : (ids : List ℕ) (p i : ℕ) → p < length ids → get_or ids p 0 ≡ 0 → (i ≡ 0 → ⊥)
    → taken_map (set ids p i) ≡ taken_map ids + 2 ^ p
unfolding taken_map
map_taken [] p i h e n = absurd (omega arith)
map_taken (x ∷ ids) zero i h e n = rw (eq-eqb x 0 e, ne_eqb i 0 n) (omega arith)
map_taken (x ∷ ids) (suc p) i h e n =
    let k = map_taken ids p i (omega arith) e n in
    rw (k, pow-succ' 2 p) (omega arith)

-- whatever is put in a place, the map of sixteen fits 16 bits
pub map_fits : (ids : List ℕ) (p i : ℕ) → length ids ≡ 16 → taken_map (set ids p i) < 65536
map_fits ids p i n = let k = map_small (set ids p i) in rw (length-set ids p i, n) at k

-- so that an empty place's bit can be added
pub map_rises_fits : (ids : List ℕ) (p : ℕ) → length ids ≡ 16 → p < 16 → get_or ids p 0 ≡ 0 → taken_map ids + 2 ^ p < 65536
map_rises_fits ids p n h e =
    let l : p < length ids = omega arith in
    let k = map_fits ids p 1 n in
    rw (map_taken ids p 1 l e (λ z. cc)) at k

-- a taken place is emptied
pub map_left : (ids : List ℕ) (p : ℕ) → p < length ids → (get_or ids p 0 ≡ 0 → ⊥) → taken_map (set ids p 0) + 2 ^ p ≡ taken_map ids
map_left ids p h n =
    let l : p < length (set ids p 0) = rw (length-set ids p 0) h in
    let k = map_taken (set ids p 0) p (get_or ids p 0) l (get_or-set_same ids p 0 0 h) n in
    sym k ∙ ap taken_map (set-set ids p 0 (get_or ids p 0) ∙ set-get_or ids p 0)

-- so that its bit can be taken away
pub map_holds : (ids : List ℕ) (p : ℕ) → p < length ids → (get_or ids p 0 ≡ 0 → ⊥) → 2 ^ p ≤ taken_map ids
map_holds ids p h n = omega (arith, map_left ids p h n)

pub ruleset bits = (map_taken, map_rises_fits, map_left, map_holds)
