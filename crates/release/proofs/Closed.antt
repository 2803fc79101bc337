-- The value bytes and the rows after a release. Assumes nothing.
use Prim.Native.Nat.{ℕ, zero, suc, ◌+◌, ◌-◌, ◌≤◌, ◌<◌}
use mathlib.Core.Path.{◌≡◌, refl, sym, ap, ◌∙◌}
use mathlib.Core.Bool.{true}
use mathlib.Core.List.{List, [], ◌∷◌, ◌++◌, map, append_assoc}
use native.Mathlib.Omega.{arith}
use native.Mathlib.Nat.{add_comm}
use native.Mathlib.Numerals.{add-one}
use lib.ListN.{length, take, drop, set, replicate, length-append, length-drop, length-replicate, take-append-drop, replicate-append-replicate}
use lib.Seq.{sets, sets-eq, drop-drop, drop-append-le}
use borrow.Rule.Slice.PartMut.{put_mid, mid_of}
use Rattle.lists.specs.Lists.{all_zero}
use Rattle.std.specs.Prelude.{Some}
use Rattle.ideal.specs.declared.EscrowRow.{EscrowRow}
use Rattle.ideal.specs.State.{part}
use Rattle.ideal.specs.Tables.{escrow_table}
use Rattle.ideal.specs.OneCall.{moved_down}
use Rattle.ideal.proofs.Table.{part_length, zeros}
use Rattle.buffers.proofs.Loops.{part_replaced}
use Rattle.state.specs.Edits.{escrow_edited, lowered_from}

-- ---- value bytes

-- n bytes taken out at a, of those that end at `end`
module _ (l : List ℕ) (a n end : ℕ) (fits : a + n ≤ end) (within : end ≤ length l) where
  abbrev left : List ℕ
  left = drop n (part l a (end - a)) ++ replicate n 0

  pub part_long : n ≤ length (mid_of a (end - a) l)
  part_long = let m = part_length l a (end - a) (omega arith) in omega arith

  left_length : length left ≡ end - a
  left_length =
      let m : length (part l a (end - a)) ≡ end - a = part_length l a (end - a) (omega arith) in
      simp (length-append, length-drop, length-replicate) (omega arith)

  -- the part is lent, and back
  pub taken_out_lem : (x : List ℕ) → x ≡ drop n (mid_of a (end - a) l) ++ replicate n 0 → put_mid a (end - a) l x ≡ sets l a left
  taken_out_lem x e = ap (put_mid a (end - a) l) e ∙ part_replaced l left a (end - a) left_length (omega arith)

  -- where only zeros follow, all that follows closes up
  pub closed_up : all_zero (drop end l) ≡ true → sets l a left ≡ take a l ++ (drop (a + n) l ++ replicate n 0)
  closed_up z =
      let p = part l a (end - a) in
      let m : length p ≡ end - a = part_length l a (end - a) (omega arith) in
      let f : a + length left ≤ length l = omega (arith, left_length) in
      let to : a + length left ≡ end = omega (arith, left_length) in
      let there : a + (end - a) ≡ end = omega arith in
      let rest = zeros (drop end l) z in
      let whole : drop a l ≡ p ++ drop end l =
      sym (take-append-drop (end - a) (drop a l)) ∙ ap (λ x. p ++ x) (drop-drop (end - a) a l ∙ rw there) in
      let after : drop (a + n) l ≡ drop n p ++ drop end l =
      sym (drop-drop n a l) ∙ ap (drop n) whole ∙ drop-append-le n p (drop end l) (omega arith) in
      let c = length (drop end l) in
      let none : ℕ = 0 in
      let swap : replicate n none ++ replicate c none ≡ replicate c none ++ replicate n none =
      replicate-append-replicate {A = ℕ} n c 0 ∙ rw (add_comm n c) (sym (replicate-append-replicate {A = ℕ} c n 0)) in
      let front = drop n p in
      let tail : left ++ drop end l ≡ (front ++ drop end l) ++ replicate n 0 =
      append_assoc front (replicate n none) (drop end l)
      ∙ ap (λ x. front ++ (replicate n none ++ x)) rest ∙ ap (λ x. front ++ x) swap
      ∙ ap (λ x. front ++ (x ++ replicate n none)) (sym rest) ∙ sym (append_assoc front (drop end l) (replicate n none)) in
      rw (sets-eq left l a f, to, append_assoc, tail, after)

-- ---- rows

-- a row put at an index, and the rows after it altered
put_after_lem : {A : Type 0} (f : A → A) (x : A) (rows : List A) (k : ℕ) → k < length rows
    → take (suc k) (set rows k x) ++ map f (drop (suc k) (set rows k x)) ≡ take k rows ++ (x ∷ map f (drop (suc k) rows))
put_after_lem f x [] k h = absurd (omega arith)
put_after_lem f x (r ∷ rows) zero h = refl
put_after_lem f x (r ∷ rows) (suc k) h = ap (λ l. r ∷ l) (put_after_lem f x rows k (omega arith))

pub edited_rows : (rows : List EscrowRow) (k n : ℕ) (x : EscrowRow) → k < length rows
    → escrow_edited (Some (record { at = k; row = x; fall = n })) rows ≡ take k rows ++ (x ∷ map (moved_down n) (drop (suc k) rows))
unfolding lowered_from moved_down
edited_rows rows k n x h = rw (add-one k) (put_after_lem _ x rows k h)
