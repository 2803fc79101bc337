-- The map of taken places and the heaps of empty ones: what one turn of a loop adds. Assumes nothing.
use Prim.Native.Nat.{ℕ, zero, suc, ◌+◌, ◌-◌, ◌*◌, ◌^◌, ◌≤◌, ◌<◌}
use mathlib.Core.Path.{◌≡◌, refl, ap, ◌∙◌}
use mathlib.Core.Bool.{true, not, ◌&&◌, ◌||◌, cond}
use mathlib.Core.List.{List, [], ◌∷◌, ◌++◌}
use native.Mathlib.Nat.{pow-succ', add-sub_cancel_left}
use native.Mathlib.Numerals.{add-one}
use native.Mathlib.Omega.{arith}
use lib.Dec.{eqb}
use lib.ListN.{length, get_or, take, drop, drop_of_length-le, length-append}
use lib.Pow.{pow_mono}
use lib.Seq.{drop-cons, drop-drop}
use Rattle.ideal.specs.State.{part}
use Rattle.ideal.specs.Tables.{taken_map, chunks}
use Rattle.ideal.specs.Soundness.{all_zero, empty_heaps_zero}
use Rattle.lists.proofs.Bools.{by_cases}
use Rattle.ideal.proofs.Heaps.{chunks_length}

-- ---- the map of taken places

pub bit_small : (i : ℕ) → cond (eqb i 0) 0 1 < 2
bit_small i = by_cases (eqb i 0) (λ e. rw e (omega arith)) (λ e. rw e (omega arith))

map_small : (is : List ℕ) → taken_map is < 2 ^ length is
unfolding taken_map
map_small [] = omega arith
map_small (i ∷ is) = rw (pow-succ' 2 (length is)) (omega (arith, bit_small i, map_small is))

-- of the places behind those that are left, the map falls short of 16 bits by one for each that is left
pub map_rest : (is rest left done : List ℕ) (i : ℕ) → rest ++ done ≡ is → rest ≡ left ++ (i ∷ []) → length is ≡ 16 → taken_map done < 32768
map_rest is rest left done i e s n =
    let k : length done ≤ 15 = omega (arith, simp length-append at (ap length e), simp length-append at (ap length s)) in
    omega (arith, map_small done, pow_mono {i = length done} {j = 15} k)

pub map_whole : (is rest done : List ℕ) → rest ++ done ≡ is → length rest ≡ 0 → taken_map done ≡ taken_map is
map_whole is [] done e z = ap taken_map e
map_whole is (i ∷ rest) done e z = absurd (omega arith)

-- ---- the heaps of empty places

chunk_at : (n : ℕ) (l : List ℕ) (p : ℕ) → p < n → get_or (chunks n l) p [] ≡ part l (256 * p) 256
unfolding chunks
chunk_at zero l p h = absurd (omega arith)
chunk_at (suc n) l zero h = refl
chunk_at (suc n) l (suc p) h =
    let e : 256 + 256 * p ≡ 256 * suc p = omega arith in
    chunk_at n (drop 256 l) p (omega arith) ∙ rw (drop-drop (256 * p) 256 l, e)

-- one place on, with its heap as the code takes it
pub heap_step : (is l : List ℕ) (i : ℕ) → length is ≡ 16 → i < 16
    → empty_heaps_zero (drop i is) (drop i (chunks 16 l))
    ≡ (not (eqb (get_or is i 0) 0) || all_zero (take (256 * i + 256 - 256 * i) (drop (256 * i) l))) && empty_heaps_zero (drop (i + 1) is) (drop (i + 1) (chunks 16 l))
unfolding empty_heaps_zero
heap_step is l i n h =
    let a : i < length is = omega arith in
    let b : i < length (chunks 16 l) = omega (arith, chunks_length 16 l) in
    rw (drop-cons is i 0 a, drop-cons (chunks 16 l) i [] b, chunk_at 16 l i h, add-one i, add-sub_cancel_left (256 * i) 256)

-- behind the last place
pub heaps_ended : (is : List ℕ) (l : List (List ℕ)) (i : ℕ) → length is ≤ i → empty_heaps_zero (drop i is) l ≡ true
unfolding empty_heaps_zero
heaps_ended is l i h = rw (drop_of_length-le is {i = i} h)
