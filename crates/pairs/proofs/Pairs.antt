-- Where every tag is right, a pair is in the log where it is there with its tag: the code looks for tags first. Assumes nothing.
use Prim.Native.Nat.{ℕ}
use mathlib.Core.Path.{◌≡◌, refl, ◌∙◌}
use mathlib.Core.Bool.{true}
use mathlib.Core.List.{List, [], ◌∷◌}
use lib.Dec.{eqb}
use borrow.Author.Tests.{eqb-true, eq-eqb}
use Rattle.fnv.specs.Fnv.{tag_of}
use Rattle.ideal.specs.State.{Logged, any, every, same_bytes}
use Rattle.ideal.specs.Step.{is_pair, is_logged, paired, logged}
use Rattle.ideal.specs.Soundness.{right_tag}
use Rattle.lists.proofs.Bools.{by_cases, and_left, and_right, and_false}
use Rattle.lists.proofs.Lists.{same_bytes_lem}

module _ (i : ℕ) (v : List ℕ) where
  pub pair_logged : (r : Logged) → right_tag r ≡ true → is_pair i v r ≡ is_logged i (tag_of i v) v r
  unfolding is_pair is_logged right_tag
  pair_logged r h =
      let g = (tag_of i v).0 in
      by_cases (eqb r.key.identity i)
      (λ e.
      by_cases (same_bytes r.value v)
      (λ f.
      let t : r.key.tag.0 ≡ g =
      eqb-true _ _ h ∙ rw (eqb-true r.key.identity i e, same_bytes_lem r.value v f) in
      rw (e, f, eq-eqb r.key.tag.0 g t))
      (λ f. rw (e, f, and_false (eqb r.key.tag.0 g) _ refl)))
      (λ e. rw e)

  pub paired_logged : (l : List Logged) → every right_tag l ≡ true → paired i v l ≡ logged i (tag_of i v) v l
  unfolding paired logged any every
  paired_logged [] h = refl
  paired_logged (r ∷ l) h =
      rw (pair_logged r (and_left (right_tag r) _ h), paired_logged l (and_right (right_tag r) _ h))
