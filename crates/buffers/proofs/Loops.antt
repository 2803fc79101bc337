-- Loops over bytes: what one turn adds. Assumes nothing.
use Prim.Native.Nat.{ℕ, zero, suc, ◌+◌, ◌-◌, ◌≤◌, ◌<◌}
use mathlib.Core.Path.{◌≡◌, refl, ap, sym, ◌∙◌}
use mathlib.Core.Bool.{false, ◌&&◌}
use mathlib.Core.List.{List, [], ◌∷◌, ◌++◌, append-nil, append_assoc}
use native.Mathlib.Omega.{arith}
use native.Mathlib.Nat.{zero-add}
use native.Mathlib.Numerals.{add-one}
use lib.Bits.{bit_or, or_add_and, or_zero_l, and_le_r}
use lib.Dec.{eqb}
use lib.ListN.{length, get_or, take, drop, replicate, set, length-append, drop_of_length-le, length-drop, take-append-drop}
use lib.Seq.{drop-cons, take_all, take_at, drop_at, length-take-le, paste-suc, sets, sets-eq, drop-drop, get_or-append-add, get_or-drop}
use borrow.Author.Tests.{ne_eqb}
use borrow.Rule.Slice.PartMut.{put_mid, mid_of}
use Rattle.lists.specs.Lists.{every, same_bytes, all_zero}
use Rattle.lists.proofs.Bools.{and_false}
use Rattle.lists.proofs.Lists.{every_append}
use Rattle.record.proofs.Stores.{sets_front}

-- ---- bytes joined by `|`

pub joined : (a b : ℕ) → eqb (bit_or a b) 0 ≡ eqb a 0 && eqb b 0
joined zero b = ap (λ (n : ℕ). eqb n 0) (or_zero_l b)
joined (suc a) b =
    rw (ne_eqb (suc a) 0 (λ e. omega arith))
    (ne_eqb (bit_or (suc a) b) 0 (λ e. omega (arith, or_add_and (suc a) b, and_le_r (suc a) b, e)))

pub zero_step : (s : List ℕ) (i : ℕ) → i < length s → all_zero (drop i s) ≡ eqb (get_or s i 0) 0 && all_zero (drop (i + 1) s)
unfolding all_zero every
zero_step s i h = rw (drop-cons s i 0 h, add-one i)

pub zero_split : (n : ℕ) (l : List ℕ) → all_zero l ≡ all_zero (take n l) && all_zero (drop n l)
unfolding all_zero
zero_split n l = ap (every (λ b. eqb b 0)) (sym (take-append-drop n l)) ∙ every_append (λ b. eqb b 0) (take n l) (drop n l)

-- the bytes from one on to the end
pub to_end : (l : List ℕ) (i : ℕ) → take (length l - i) (drop i l) ≡ drop i l
to_end l i = take_all (length l - i) (drop i l) (simp length-drop (omega arith))

-- ---- bytes compared

pub lengths_differ : (a b : List ℕ) → (length a ≡ length b → ⊥) → same_bytes a b ≡ false
unfolding same_bytes
lengths_differ [] [] h = absurd (h refl)
lengths_differ [] (y ∷ b) h = refl
lengths_differ (x ∷ a) [] h = refl
lengths_differ (x ∷ a) (y ∷ b) h = and_false (eqb x y) _ (lengths_differ a b (λ e. h (ap suc e)))

-- ---- bytes copied one by one over the front of d

pub copy_more : (s d : List ℕ) (i : ℕ) → i < length s → i < length d
    → set (take i s ++ drop i d) i (get_or s i 0) ≡ take (i + 1) s ++ drop (i + 1) d
copy_more s d i h l =
    let m : 0 + i < length d = omega arith in
    rw (add-one i) (rw (zero-add i, zero-add (suc i)) at (paste-suc d 0 s i 0 m h))

-- ---- bytes moved down by n, one by one

-- what is read is not yet written over
pub read_ahead : (d : List ℕ) (n i : ℕ) → i + n < length d → get_or (take i (drop n d) ++ drop i d) (i + n) 0 ≡ get_or (drop n d) i 0
read_ahead d n i h =
    let front = take i (drop n d) in
    let e : length front ≡ i = length-take-le i (drop n d) (simp length-drop (omega arith)) in
    let m : n + i ≡ i + n = omega arith in
    ap (λ k. get_or (front ++ drop i d) (k + n) 0) (sym e) ∙ get_or-append-add front (drop i d) n 0 ∙ get_or-drop i d n 0
    ∙ sym (get_or-drop n d i 0 ∙ ap (λ k. get_or d k 0) m)

-- the last n bytes cleared
pub tail_cleared : (d l x : List ℕ) (n : ℕ) → n ≤ length d → l ≡ drop n d ++ drop (length d - n) d
    → let a = length l - n in
    x ≡ replicate (length (mid_of a (length l - a) l)) 0 → put_mid a (length l - a) l x ≡ drop n d ++ replicate n 0
tail_cleared d l x n h e f =
    let m = length d - n in
    let front : length (drop n d) ≡ m = length-drop n d in
    let back : length (drop m d) ≡ n = simp length-drop (omega arith) in
    let whole : length l ≡ length d = ap length e ∙ length-append (drop n d) (drop m d) ∙ omega arith in
    let a : length l - n ≡ m = omega arith in
    let b : length l - (length l - n) ≡ n = omega arith in
    let rest : drop m l ≡ drop m d = ap (drop m) e ∙ drop_at (drop n d) (drop m d) m front in
    let start : take m l ≡ drop n d = ap (take m) e ∙ take_at (drop n d) (drop m d) m front in
    let all : take n (drop m d) ≡ drop m d = take_all n (drop m d) (omega arith) in
    let over : length (drop m d) ≤ n = omega arith in
    let none : drop n (drop m d) ≡ [] = drop_of_length-le (drop m d) over in
    let g : x ≡ replicate n 0 = f ∙ rw (b, a, rest, all, back) in
    rw (b, a, start, rest, none, g, append-nil {A = ℕ} (replicate n 0))

-- ---- a part of l, lent and back

-- with v in its place
pub part_replaced : (l v : List ℕ) (a n : ℕ) → length v ≡ n → a + n ≤ length l → take a l ++ (v ++ drop n (drop a l)) ≡ sets l a v
part_replaced l v a n e h = let f : a + length v ≤ length l = omega arith in rw (← e, drop-drop (length v) a l, sets-eq v l a f, append_assoc)

-- a copy over the whole part leaves nothing of it
pub copied_whole : (v p : List ℕ) → length p ≤ length v → v ++ drop (length v) p ≡ v
copied_whole v p h = rw (drop_of_length-le p h, append-nil v)

-- and so does a list stored over the whole of one as long
pub sets_whole : (v p : List ℕ) → length v ≡ length p → sets p 0 v ≡ v
sets_whole v p h = sets_front v p (omega arith) ∙ copied_whole v p (omega arith)
