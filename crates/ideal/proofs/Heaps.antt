-- The heaps, place by place and in one piece. Assumes nothing.
use Prim.Native.Nat.{ℕ, zero, suc, ◌*◌, ◌≤◌, ◌<◌}
use mathlib.Core.Path.{◌≡◌, refl, ap, ◌∙◌}
use mathlib.Core.Bool.{true, not, ◌||◌}
use mathlib.Core.List.{List, [], ◌∷◌}
use native.Mathlib.Omega.{arith}
use native.Mathlib.Nat.{mul-zero, mul-suc, add_comm}
use lib.ListN.{length, get_or, drop, replicate, length-append, length-drop, take-append-drop, replicate-append-replicate}
use lib.Seq.{take_at, drop_at, length-take-le}
use lib.Dec.{eqb}
use borrow.Author.Tests.{eqb-true, eq-eqb}
use Rattle.ideal.specs.State.{cleared}
use Rattle.ideal.specs.Tables.{flat, chunks}
use Rattle.ideal.specs.Soundness.{all_zero, empty_heaps_zero}
use Rattle.lists.proofs.Bools.{by_cases, and_left, and_right, and_true, or_true_left, or_true_right, not_is}
use Rattle.ideal.proofs.Table.{zeros, zeros_zero}

-- heaps of 256 bytes each
abbrev pub Sized : List (List ℕ) → Type 0
Sized hs = (p : ℕ) → p < length hs → length (get_or hs p []) ≡ 256

pub flat_length : (hs : List (List ℕ)) → Sized hs → length (flat hs) ≡ 256 * length hs
unfolding flat
flat_length [] k = refl
flat_length (h ∷ hs) k =
    let n : length h ≡ 256 = k 0 (omega arith) in
    let m = flat_length hs (λ p g. k (suc p) (omega arith)) in
    simp length-append (omega arith)

pub chunks_flat : (hs : List (List ℕ)) → Sized hs → chunks (length hs) (flat hs) ≡ hs
unfolding chunks flat
chunks_flat [] k = refl
chunks_flat (h ∷ hs) k =
    let n : length h ≡ 256 = k 0 (omega arith) in
    rw (take_at h (flat hs) 256 n, drop_at h (flat hs) 256 n, chunks_flat hs (λ p g. k (suc p) (omega arith)))

pub flat_chunks : (n : ℕ) (l : List ℕ) → length l ≤ 256 * n → flat (chunks n l) ≡ l
unfolding flat chunks
flat_chunks zero [] h = refl
flat_chunks zero (b ∷ l) h = absurd (omega arith)
flat_chunks (suc n) l h = rw (flat_chunks n (drop 256 l) (simp length-drop (omega arith)), take-append-drop 256 l)

pub chunks_length : (n : ℕ) (l : List ℕ) → length (chunks n l) ≡ n
unfolding chunks
chunks_length zero l = refl
chunks_length (suc n) l = ap suc (chunks_length n (drop 256 l))

pub chunks_sized : (n : ℕ) (l : List ℕ) → length l ≡ 256 * n → (p : ℕ) → p < n → length (get_or (chunks n l) p []) ≡ 256
unfolding chunks
chunks_sized zero l e p h = absurd (omega arith)
chunks_sized (suc n) l e zero h = length-take-le 256 l (omega arith)
chunks_sized (suc n) l e (suc p) h = chunks_sized n (drop 256 l) (simp length-drop (omega arith)) p (omega arith)

pub flat_replicate : (n m a : ℕ) → flat (replicate n (replicate m a)) ≡ replicate (m * n) a
unfolding flat
flat_replicate zero m a = rw (mul-zero m)
flat_replicate (suc n) m a = rw (flat_replicate n m a, replicate-append-replicate m (m * n) a, mul-suc m n, add_comm (m * n) m)

-- ---- the heaps of empty places

-- a heap of 256 bytes that are all zero
pub cleared_is : (h : List ℕ) → length h ≡ 256 → all_zero h ≡ true → h ≡ cleared
unfolding cleared
cleared_is h n z = zeros h z ∙ ap (λ k. replicate k 0) n

cleared_zero : all_zero cleared ≡ true
unfolding cleared
cleared_zero = zeros_zero 256

pub empty_zero : (is : List ℕ) (hs : List (List ℕ)) → length is ≡ length hs
    → ((p : ℕ) → p < length is → get_or is p 0 ≡ 0 → get_or hs p [] ≡ cleared) → empty_heaps_zero is hs ≡ true
unfolding empty_heaps_zero
empty_zero [] hs e k = refl
empty_zero (i ∷ is) [] e k = refl
empty_zero (i ∷ is) (h ∷ hs) e k =
    and_true _ _
    (by_cases (eqb i 0)
    (λ t. or_true_right (not (eqb i 0)) _ (ap all_zero (k 0 (omega arith) (eqb-true i 0 t)) ∙ cleared_zero))
    (λ t. or_true_left _ _ (not_is _ t)))
    (empty_zero is hs (omega arith) (λ p l. k (suc p) (omega arith)))

pub zero_empty : (is : List ℕ) (hs : List (List ℕ)) → empty_heaps_zero is hs ≡ true → (p : ℕ) → p < length is → p < length hs
    → get_or is p 0 ≡ 0 → all_zero (get_or hs p []) ≡ true
unfolding empty_heaps_zero
zero_empty [] hs h p l m z = absurd (omega arith)
zero_empty (i ∷ is) [] h p l m z = absurd (omega arith)
zero_empty (i ∷ is) (x ∷ hs) h zero l m z = rw (eq-eqb i 0 z) at (and_left (not (eqb i 0) || all_zero x) _ h)
zero_empty (i ∷ is) (x ∷ hs) h (suc p) l m z =
    zero_empty is hs (and_right (not (eqb i 0) || all_zero x) _ h) p (omega arith) (omega arith) z
