-- Memories and places, on the state and in the tables: stores byte by byte, one heap among the lent bytes, and the
-- map of taken places. Assumes nothing.
use Prim.Native.Nat.{ℕ, zero, suc, ◌+◌, ◌*◌, ◌-◌, ◌/◌, ◌%◌, ◌^◌, ◌≤◌, ◌<◌}
use mathlib.Core.Path.{◌≡◌, refl, sym, ap, ◌∙◌}
use mathlib.Core.Logic.{◌⊎◌, inl, inr, ⊎_elim}
use mathlib.Core.Bool.{true, not, cond}
use mathlib.Core.List.{List, [], ◌∷◌, ◌++◌, append_assoc}
use native.Mathlib.Nat.{zero-add, add-zero, zero-div, div-one, div-div-eq-div-mul}
use native.Mathlib.Omega.{arith}
use lib.ListN.{length, get_or, take, drop, set, length-set, length-drop}
use lib.Seq.{sets, sets-eq, get_or-set_same, get_or-set_other, take-append-le, drop-append-le, drop-append-add, take_at, drop_at, length-take-le, get_or-take, get_or-drop}
use lib.Dec.{eqb, ltb, leb}
use borrow.Author.Tests.{ltb-true, ltb-false, leb-true, leb-false, eqb-true, eqb-false}
use Rattle.record.specs.Layout.{stands}
use Rattle.ideal.specs.State.{part}
use Rattle.ideal.specs.Step.{services}
use Rattle.ideal.specs.Tables.{taken_map, flat}
use Rattle.ideal.specs.History.{within, ones, occupied}
use Rattle.lists.proofs.Bools.{by_cases}
use Rattle.ideal.proofs.Heaps.{Sized}

-- ---- stores

module _ {A : Type 0} (d : A) where
  pub sets_other : (v l : List A) (o x : ℕ) → (x < o) ⊎ (o + length v ≤ x) → get_or (sets l o v) x d ≡ get_or l x d
  sets_other [] l o x h = refl
  sets_other (a ∷ v) l o x h =
      sets_other v (set l o a) (suc o) x (⊎_elim (λ i. inl (omega arith)) (λ i. inr (omega arith)) h)
      ∙ get_or-set_other l o x a d (λ e. ⊎_elim {C = ⊥} (λ i. omega arith) (λ i. omega arith) h)

  pub sets_at : (v l : List A) (o j : ℕ) → j < length v → o + length v ≤ length l → get_or (sets l o v) (o + j) d ≡ get_or v j d
  sets_at [] l o j h k = absurd (omega arith)
  sets_at (a ∷ v) l o zero h k =
      let e : o + 0 ≡ o = omega arith in
      rw e (sets_other v (set l o a) (suc o) o (inl (omega arith)) ∙ get_or-set_same l o a d (omega arith))
  sets_at (a ∷ v) l o (suc j) h k =
      let e : o + suc j ≡ suc o + j = omega arith in
      rw e (sets_at v (set l o a) (suc o) j (omega arith) (omega (arith, length-set l o a)))

pub set_at : {A : Type 0} (l : List A) (p : ℕ) (a d : A) (q : ℕ) → p < length l → get_or (set l p a) q d ≡ cond (eqb q p) a (get_or l q d)
set_at l p a d q h =
    by_cases (eqb q p)
    (λ e. rw (e, eqb-true q p e) (get_or-set_same l p a d h))
    (λ e. rw e (get_or-set_other l p q a d (eqb-false q p e)))

pub sets_byte : (l : List ℕ) (o : ℕ) (v : List ℕ) (x : ℕ) → o + length v ≤ length l
    → get_or (sets l o v) x 0 ≡ cond (within o v x) (get_or v (x - o) 0) (get_or l x 0)
unfolding within
sets_byte l o v x h = by_cases (leb o x) from (λ a. rw a (sets_other 0 v l o x (inl (leb-false o x a))))
  where
    inside : o ≤ x → x < o + length v → get_or (sets l o v) x 0 ≡ get_or v (x - o) 0
    inside a b =
        let e : o + (x - o) ≡ x = omega arith in
        rw e at (sets_at 0 v l o (x - o) (omega arith) h)

    from : leb o x ≡ true → get_or (sets l o v) x 0 ≡ cond (within o v x) (get_or v (x - o) 0) (get_or l x 0)
    from a =
        by_cases (ltb x (o + length v))
        (λ b. rw (a, b) (inside (leb-true o x a) (ltb-true x _ b)))
        (λ b. rw (a, b) (sets_other 0 v l o x (inr (ltb-false x _ b))))

-- ---- a part of a memory

pub part_at : (l : List ℕ) (o n x : ℕ) → x < n → get_or (part l o n) x 0 ≡ get_or l (o + x) 0
part_at l o n x h = get_or-take n (drop o l) x 0 h ∙ get_or-drop o l x 0

-- what was stored is there
pub part_sets : (l : List ℕ) (o : ℕ) (v : List ℕ) → o + length v ≤ length l → part (sets l o v) o (length v) ≡ v
part_sets l o v h =
    let t : length (take o l) ≡ o = length-take-le o l (omega arith) in
    rw (sets-eq v l o h, append_assoc (take o l) v (drop (o + length v) l), drop_at (take o l) (v ++ drop (o + length v) l) o t)
    (take_at v (drop (o + length v) l) (length v) refl)

-- ---- one heap among the lent bytes

pub flat_part : (hs : List (List ℕ)) (p o n : ℕ) → Sized hs → p < length hs → o + n ≤ 256
    → part (flat hs) (256 * p + o) n ≡ part (get_or hs p []) o n
unfolding flat
flat_part [] p o n k h g = absurd (omega arith)
flat_part (a ∷ hs) zero o n k h g =
    let z : length a ≡ 256 = k 0 (omega arith) in
    let e : 256 * 0 + o ≡ o = omega arith in
    let f : n ≤ length (drop o a) = simp length-drop (omega arith) in
    rw (e, drop-append-le o a (flat hs) (omega arith)) (take-append-le n (drop o a) (flat hs) f)
flat_part (a ∷ hs) (suc p) o n k h g =
    let z : length a ≡ 256 = k 0 (omega arith) in
    let e : 256 * suc p + o ≡ length a + (256 * p + o) = omega arith in
    rw (e, drop-append-add a (flat hs) (256 * p + o))
    (flat_part hs p o n (λ q i. k (suc q) (omega arith)) (omega arith) g)

pub flat_at : (hs : List (List ℕ)) (p x : ℕ) → Sized hs → p < length hs → x < 256
    → get_or (flat hs) (256 * p + x) 0 ≡ get_or (get_or hs p []) x 0
flat_at hs p x k h g =
    let one : (l : List ℕ) (o : ℕ) → get_or (part l o 1) 0 0 ≡ get_or l o 0 = λ l o. part_at l o 1 0 (omega arith) ∙ rw (add-zero o) in
    sym (one (flat hs) (256 * p + x)) ∙ ap (λ l. get_or l 0 0) (flat_part hs p x 1 k h (omega arith)) ∙ one (get_or hs p []) x

-- ---- the map of taken places

-- what is left of the map without its lowest bit
halved : (b n : ℕ) → b < 2 → (b + 2 * n) / 2 ≡ n
halved b n h = omega arith

lowest : (b n : ℕ) → b < 2 → (b + 2 * n) % 2 ≡ b
lowest b n h = omega arith

bit_small : (i : ℕ) → cond (eqb i 0) 0 1 < 2
bit_small i = by_cases (eqb i 0) (λ e. rw e (omega arith)) (λ e. rw e (omega arith))

pub taken_at : (is : List ℕ) (p : ℕ) → stands (taken_map is) p ≡ not (eqb (get_or is p 0) 0)
unfolding taken_map stands
taken_at [] p = rw (zero-div (2 ^ p))
taken_at (i ∷ is) zero =
    let e : (cond (eqb i 0) 0 1 + 2 * taken_map is) / 1 ≡ cond (eqb i 0) 0 1 + 2 * taken_map is = div-one _ in
    rw (e, lowest (cond (eqb i 0) 0 1) (taken_map is) (bit_small i)) (by_cases (eqb i 0) (λ z. rw z) (λ z. rw z))
taken_at (i ∷ is) (suc p) =
    let m = cond (eqb i 0) 0 1 + 2 * taken_map is in
    let e : 2 ^ suc p ≡ 2 * 2 ^ p = omega arith in
    rw (e, ← div-div-eq-div-mul m 2 (2 ^ p), halved (cond (eqb i 0) 0 1) (taken_map is) (bit_small i)) (taken_at is p)

pub ones_taken : (is : List ℕ) → ones (length is) (taken_map is) ≡ services is
unfolding taken_map ones services
ones_taken [] = refl
ones_taken (i ∷ is) =
    rw (lowest (cond (eqb i 0) 0 1) (taken_map is) (bit_small i), halved (cond (eqb i 0) 0 1) (taken_map is) (bit_small i), ones_taken is)
    (by_cases (eqb i 0) (λ z. rw z (zero-add _)) (λ z. rw z))

-- ---- how many places are taken

occupied_first : (f : ℕ → ℕ) (n : ℕ) → occupied f (suc n) ≡ cond (eqb (f 0) 0) 0 1 + occupied (λ p. f (suc p)) n
unfolding occupied
occupied_first f zero = refl
occupied_first f (suc n) = let h = occupied_first f n in rw h (omega arith)

occupied_same : (f g : ℕ → ℕ) (n : ℕ) → ((p : ℕ) → p < n → f p ≡ g p) → occupied f n ≡ occupied g n
unfolding occupied
occupied_same f g zero h = refl
occupied_same f g (suc n) h = rw (h n (omega arith), occupied_same f g n (λ p b. h p (omega arith)))

services_occupied : (is : List ℕ) → services is ≡ occupied (λ p. get_or is p 0) (length is)
unfolding services
services_occupied [] = unfold occupied in refl
services_occupied (i ∷ is) =
    rw (occupied_first (λ p. get_or (i ∷ is) p 0) (length is), ← services_occupied is)
    (by_cases (eqb i 0) (λ z. rw z (sym (zero-add _))) (λ z. rw z))

-- the standing bits are as many as the places that have an identity
pub bits_occupied : (is : List ℕ) (f : ℕ → ℕ) → ((p : ℕ) → p < length is → get_or is p 0 ≡ f p)
    → ones (length is) (taken_map is) ≡ occupied f (length is)
bits_occupied is f h = ones_taken is ∙ services_occupied is ∙ occupied_same _ f (length is) h
