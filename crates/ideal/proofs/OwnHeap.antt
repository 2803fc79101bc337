-- The running place's heap, in the state and in the lent bytes. Assumes nothing.
use Prim.Native.Nat.{ℕ, zero, suc, ◌+◌, ◌*◌, ◌≤◌, ◌<◌}
use mathlib.Core.Path.{◌≡◌, refl, sym, ap}
use mathlib.Core.Bool.{cond}
use mathlib.Core.List.{List, [], ◌∷◌, ◌++◌}
use native.Mathlib.Omega.{arith}
use native.Mathlib.Nat.{zero-add, suc-add, add-suc}
use lib.ListN.{length, get_or, set, length-set}
use lib.Seq.{sets, set-append_left, get_or-set_same}
use lib.Dec.{eqb, ltb}
use borrow.Author.Tests.{eqb-false, ltb-false}
use Rattle.ideal.specs.State.{State, writes, heap_at, own_part}
use Rattle.ideal.specs.Step.{apply}
use Rattle.ideal.specs.Tables.{tables, box_record, flat}
use Rattle.ideal.specs.Refusals.{own_bytes}
use Rattle.ideal.specs.Accuracy.{with_own_bytes}
use Rattle.ideal.specs.Valid.{Valid}
use Rattle.lists.proofs.Bools.{by_cases}
use Rattle.ideal.proofs.Heaps.{Sized}
use Rattle.ideal.proofs.Memory.{part_sets, flat_part}

-- ---- stores in an appended list

module _ {A : Type 0} where
  set_append_right : (l m : List A) (i : ℕ) (a : A) → set (l ++ m) (length l + i) a ≡ l ++ set m i a
  set_append_right [] m i a = rw zero-add
  set_append_right (x ∷ l) m i a = rw suc-add (ap (λ r. x ∷ r) (set_append_right l m i a))

  sets_append_left : (l m : List A) (i : ℕ) (v : List A) → i + length v ≤ length l → sets (l ++ m) i v ≡ sets l i v ++ m
  sets_append_left l m i [] h = refl
  sets_append_left l m i (a ∷ v) h =
      rw (set-append_left l m i a (omega arith)) (sets_append_left (set l i a) m (suc i) v (rw length-set (omega arith)))

  sets_append_right : (l m : List A) (i : ℕ) (v : List A) → sets (l ++ m) (length l + i) v ≡ l ++ sets m i v
  sets_append_right l m i [] = refl
  sets_append_right l m i (a ∷ v) =
      rw (set_append_right l m i a, ← add-suc) (sets_append_right l (set m i a) (suc i) v)

-- ---- a heap among the heaps

pub flat_sets : (hs : List (List ℕ)) (p o : ℕ) (v : List ℕ) → Sized hs → p < length hs → o + length v ≤ 256
    → flat (set hs p (sets (get_or hs p []) o v)) ≡ sets (flat hs) (256 * p + o) v
unfolding flat
flat_sets [] p o v z h f = absurd (omega arith)
flat_sets (m ∷ hs) zero o v z h f =
    let k = z 0 (omega arith) in
    rw (zero-add, sets_append_left m (flat hs) o v (omega arith))
flat_sets (m ∷ hs) (suc p) o v z h f =
    let k = z 0 (omega arith) in
    let q : 256 * suc p + o ≡ length m + (256 * p + o) = omega arith in
    rw (q, sets_append_right m (flat hs) (256 * p + o) v, ← flat_sets hs p o v (λ i b. z (suc i) (omega arith)) (omega arith) f)

pub sized : (s : State) → Valid s → Sized s.heaps
sized s k p h = k.sizes p (omega (arith, k.heaps))

module _ (s : State) (valid : Valid s) (runs : s.running < 16) where
  pub own_bytes_lem : (o n : ℕ) → o + n ≤ 256 → own_bytes (tables s) o n ≡ own_part s o n
  unfolding tables box_record own_part
  own_bytes_lem o n f = flat_part s.heaps s.running o n (sized s valid) (omega (arith, valid.heaps)) f

  pub own_written : (o : ℕ) (v : List ℕ) → o + length v ≤ 256 → tables (apply s (writes s.running o v)) ≡ with_own_bytes (tables s) o v
  unfolding tables box_record apply with_own_bytes
  own_written o v f = rw (flat_sets s.heaps s.running o v (sized s valid) (omega (arith, valid.heaps)) f)

  pub written_stands : (o : ℕ) (v : List ℕ) → o + length v ≤ 256 → own_part (apply s (writes s.running o v)) o (length v) ≡ v
  unfolding apply own_part
  written_stands o v f =
      rw (get_or-set_same s.heaps s.running (sets (heap_at s s.running) o v) [] (omega (arith, valid.heaps)))
      (part_sets (heap_at s s.running) o v (omega (arith, valid.sizes s.running runs)))

-- after 4 and 11, what is said of a part of the caller's heap may be said of the lent bytes
pub own_tested : (s : State) → Valid s → (o n : ℕ) (f : List ℕ → ℕ)
    → cond (eqb s.running 16) 4 (cond (ltb 256 (o + n)) 11 (f (own_part s o n)))
    ≡ cond (eqb s.running 16) 4 (cond (ltb 256 (o + n)) 11 (f (own_bytes (tables s) o n)))
own_tested s valid o n f =
    by_cases (eqb s.running 16)
    (λ e. rw e)
    (λ e.
    by_cases (ltb 256 (o + n))
    (λ b. rw b)
    (λ b.
    let runs : s.running < 16 = omega (arith, valid.runs, eqb-false s.running 16 e) in
    ap (λ w. cond (eqb s.running 16) 4 (cond (ltb 256 (o + n)) 11 (f w))) (sym (own_bytes_lem s valid runs o n (ltb-false 256 (o + n) b)))))
