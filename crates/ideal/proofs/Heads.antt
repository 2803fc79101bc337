-- A value's head, said by its first byte and its length. Assumes nothing.
use Prim.Native.Nat.{ℕ, suc}
use mathlib.Core.Path.{◌≡◌, refl}
use mathlib.Core.Bool.{true, false, ◌&&◌, ◌||◌}
use mathlib.Core.List.{List, [], ◌∷◌}
use native.Mathlib.Omega.{arith}
use lib.ListN.{length, get_or}
use lib.Dec.{eqb, ltb, leb}
use borrow.Author.Tests.{lt-ltb, le-ltb, leb-true, leb-false, eqb-true}
use Rattle.record.specs.Call.{Link}
use Rattle.ideal.specs.Step.{malformed, ends, leads, head_of}
use Rattle.ideal.specs.Refusals.{leads_on, named_in}
use Rattle.lists.proofs.Bools.{by_cases}

pub same_leads : {k m : Link} → leads k ≡ leads m → k ≡ m
same_leads e = cc

pub data HeadIs (v : List ℕ) : Type 0 where
  is_malformed_lem : head_of v ≡ malformed → eqb (get_or v 0 0) 1 ≡ false → leads_on v ≡ false → HeadIs v
  is_end : head_of v ≡ ends → eqb (get_or v 0 0) 1 ≡ true → leads_on v ≡ false → HeadIs v
  is_next : head_of v ≡ leads (named_in v) → eqb (get_or v 0 0) 1 ≡ false → leads_on v ≡ true → HeadIs v

sixteen : (v : List ℕ) (b : ℕ) → ltb 16 (length (b ∷ v)) ≡ leb 16 (length v)
sixteen v b =
    by_cases (leb 16 (length v))
    (λ h. rw (h, lt-ltb 16 (suc (length v)) (let l = leb-true 16 (length v) h in omega arith)))
    (λ h. rw (h, le-ltb 16 (suc (length v)) (let l = leb-false 16 (length v) h in omega arith)))

pub head_is : (v : List ℕ) → HeadIs v
unfolding head_of leads_on
head_is [] = is_malformed_lem refl refl refl
head_is (b ∷ v) =
    by_cases (eqb b 1)
    (λ e. let one = eqb-true b 1 e in is_end (rw e) e (rw one))
    (λ e.
    by_cases ((eqb b 2 || eqb b 3) && leb 16 (length v))
    (λ h. is_next (rw (e, h)) e (rw (sixteen v b, h)))
    (λ h. is_malformed_lem (rw (e, h)) e (rw (sixteen v b, h))))
