-- Lists of entries, one more. Assumes nothing.
use Prim.Native.Nat.{◌+◌}
use mathlib.Core.Path.{◌≡◌, refl, ◌∙◌}
use mathlib.Core.Bool.{Bool, true, false, not}
use mathlib.Core.List.{List, [], ◌∷◌, ◌++◌}
use native.Mathlib.Omega.{arith}
use lib.ListN.{length}
use borrow.Author.Tests.{not-true}
use Rattle.lists.proofs.Bools.{and_left, and_right, and_true, or_false, or_false_left, or_false_right, not_is}
use Rattle.lists.proofs.Lists.{any_append, any_one}
use Rattle.ideal.specs.State.{Entry, any, bytes_used}
use Rattle.ideal.specs.Soundness.{differ}

pub bytes_append : {Key : Type 0} (l m : List (Entry Key)) → bytes_used (l ++ m) ≡ bytes_used l + bytes_used m
unfolding bytes_used
bytes_append [] m = omega arith
bytes_append (q ∷ l) m = let h = bytes_append l m in omega arith

pub bytes_more : {Key : Type 0} (l : List (Entry Key)) (e : Entry Key) → bytes_used (l ++ (e ∷ [])) ≡ bytes_used l + length e.value
unfolding bytes_used
bytes_more l e = let h = bytes_append l (e ∷ []) in omega arith

-- one more that is unlike the others
pub differ_more : {A : Type 0} (same : A → A → Bool) (l : List A) (a : A) → differ same l ≡ true
    → any (λ b. same b a) l ≡ false → differ same (l ++ (a ∷ [])) ≡ true
unfolding differ any
differ_more same [] a h k = refl
differ_more same (b ∷ l) a h k =
    let u = not-true (any (same b) l) (and_left (not (any (same b) l)) _ h) in
    let n : any (same b) (l ++ (a ∷ [])) ≡ false =
    any_append (same b) l (a ∷ []) ∙ or_false _ _ u (any_one (same b) a ∙ or_false_left (same b a) _ k) in
    and_true _ _ (not_is _ n) (differ_more same l a (and_right (not (any (same b) l)) _ h) (or_false_right (same b a) _ k))
