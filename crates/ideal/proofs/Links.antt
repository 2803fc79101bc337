-- The tests of a chain against its conditions on the host's tables, link by link. Assumes nothing.
use Prim.Native.Nat.{ℕ, zero, suc, ◌-◌, ◌≤◌}
use mathlib.Core.Path.{◌≡◌, refl, ap}
use mathlib.Core.Bool.{Bool, true, false, not, ◌&&◌, ◌||◌, cond}
use mathlib.Core.List.{List, [], ◌∷◌}
use mathlib.Core.Option.{Option, none, some}
use native.Mathlib.Omega.{arith}
use lib.ListN.{length, get_or}
use lib.Dec.{eqb}
use borrow.Author.Tests.{ne_eqb}
use Rattle.record.specs.Call.{Link, logged_link, escrowed_link, stray_link, identity_of}
use Rattle.ideal.specs.State.{State, every}
use Rattle.ideal.specs.Step.{head_of, is_malformed, next_count, next_cut, next_value, unreadable, bytes_after, after_head, links_after, link_value, unvouched, follow, links_from, found, absent, Tests, first_holding}
use Rattle.ideal.specs.Tables.{Tables, tables, state_of}
use Rattle.ideal.specs.Refusals.{is_absent, value_at, left_at, unreadable_at, unknown_at, leads_on, named_in, link_conditions, chain_conditions, of_chain}
use Rattle.ideal.specs.OneCall.{link_count}
use Rattle.lists.proofs.Bools.{and_left, and_right}
use Rattle.ideal.proofs.Conditions.{first_of}
use Rattle.ideal.proofs.Heads.{HeadIs, is_malformed_lem, is_end, is_next, head_is}
use Rattle.ideal.proofs.FoundRows.{found_row, value_found, log_found}

every_cond : {A : Type 0} (p : A → Bool) (b : Bool) (l : List A) → every p l ≡ true → every p (cond b l []) ≡ true
unfolding every
every_cond p true l h = h
every_cond p false l h = refl

-- what holds of their numbers
chain_every : (p : ℕ → Bool) → every p (9 ∷ 18 ∷ 19 ∷ 20 ∷ []) ≡ true → (t : Tables) (most n : ℕ) (k : Link) (bs : List ℕ)
    → every (λ x. p x.0) (chain_conditions t most n k bs) ≡ true
unfolding every chain_conditions link_conditions
chain_every p h t zero n k bs = refl
chain_every p h t (suc most) n k bs =
    let h₁ = and_right (p 9) _ h in
    let h₂ = and_right (p 18) _ h₁ in
    let h₃ = and_right (p 19) _ h₂ in
    rw (and_left (p 9) _ h, and_left (p 18) _ h₁, and_left (p 19) _ h₂, and_left (p 20) _ h₃)
    (every_cond (λ x. p x.0) (leads_on (value_at t k bs)) _ (chain_every p h t most (suc n) _ _))

pub of_chain_every : (p : ℕ → Bool) → every p (9 ∷ 18 ∷ 19 ∷ 20 ∷ []) ≡ true → (t : Tables) (o : Option Link) (bs : List ℕ)
    → every (λ x. p x.0) (of_chain t o bs) ≡ true
unfolding every of_chain
of_chain_every p h t none bs = refl
of_chain_every p h t (some k) bs = chain_every p h t 17 0 k bs

pub unreadable_at_lem : (k : Link) (bs : List ℕ) → unreadable k bs ≡ unreadable_at k bs
unfolding unreadable unreadable_at next_cut next_count
unreadable_at_lem (logged_link i g) bs = refl
unreadable_at_lem (escrowed_link i h) bs = refl
unreadable_at_lem (stray_link w i x) bs = refl

pub left_at_lem : (k : Link) (bs : List ℕ) → bytes_after k bs ≡ left_at k bs
unfolding bytes_after left_at next_count
left_at_lem (logged_link i g) bs = refl
left_at_lem (escrowed_link i h) bs = refl
left_at_lem (stray_link w i x) bs = refl

module _ (s : State) (back : state_of (tables s) ≡ s) where
  pub value_at_lem : (k : Link) (bs : List ℕ) → link_value s.log (found s) k bs ≡ value_at (tables s) k bs
  unfolding link_value value_at next_value next_count
  value_at_lem (logged_link i g) bs = refl
  value_at_lem (escrowed_link i h) bs = value_found s i h
  value_at_lem (stray_link w i x) bs = refl

  pub unvouched_at : (k : Link) (bs : List ℕ)
      → unvouched s.log (found s) k bs ≡ unknown_at (tables s) k (value_at (tables s) k bs)
  unfolding unvouched unknown_at value_at next_value next_count is_absent absent
  unvouched_at (logged_link i g) bs = ap not (log_found s i g _)
  unvouched_at (escrowed_link i h) bs = found_row s back is_absent absent refl (λ e at. refl) i h
  unvouched_at (stray_link w i x) bs = refl

  -- what follows the look-up of a link, where the links after it are tested and counted alike
  after_head_lem : (later : Link → List ℕ → Tests) (conditions : Link → List ℕ → List (ℕ × Bool)) (k : Link) (bs : List ℕ)
      → ((l : Link) (left : List ℕ) → first_holding (later l left) ≡ first_of (conditions l left))
      → let v = value_at (tables s) k bs in
      let head = head_of (link_value s.log (found s) k bs) in
      let last = eqb (get_or v 0 0) 1 in
      cond (is_malformed head) 19 (first_holding (after_head later head (bytes_after k bs)))
      ≡ cond (not (last || leads_on v)) 19
      (cond (last && not (eqb (length (left_at k bs)) 0)) 19 (first_of (cond (leads_on v) (conditions (named_in v) (left_at k bs)) [])))
  unfolding is_malformed after_head first_holding first_of
  after_head_lem later conditions k bs same =
      rw (value_at_lem k bs, left_at_lem k bs) (by (head_is (value_at (tables s) k bs)))
    where
      v : List ℕ
      v = value_at (tables s) k bs

      by : HeadIs v
          → cond (is_malformed (head_of v)) 19 (first_holding (after_head later (head_of v) (left_at k bs)))
          ≡ cond (not (eqb (get_or v 0 0) 1 || leads_on v)) 19
          (cond (eqb (get_or v 0 0) 1 && not (eqb (length (left_at k bs)) 0)) 19
          (first_of (cond (leads_on v) (conditions (named_in v) (left_at k bs)) [])))
      by (is_malformed_lem q a b) = rw (q, a, b)
      by (is_end q a b) = rw (q, a, b)
      by (is_next q a b) = rw (q, a, b) (same _ _)

  -- the first test of a chain that holds is the first of its conditions that does
  pub chain_first : (left : ℕ) (k : Link) (bs : List ℕ) → left ≤ 16
      → first_holding (follow s.log (found s) left k bs) ≡ first_of (chain_conditions (tables s) (suc left) (16 - left) k bs)
  unfolding follow first_holding chain_conditions link_conditions first_of next_cut next_count
  chain_first zero k bs h = refl
  chain_first (suc left) k bs h =
      let m : suc (16 - suc left) ≡ 16 - left = omega arith in
      rw (ne_eqb (16 - suc left) 16 (λ e. omega arith), unreadable_at_lem k bs, unvouched_at k bs, m)
      (ap
      (λ (x : ℕ). cond (unreadable_at k bs) 19 (cond (eqb (identity_of k) 0) 9 (cond (unknown_at (tables s) k (value_at (tables s) k bs)) 18 x)))
      (after_head_lem (follow s.log (found s) left) (chain_conditions (tables s) (suc left) (16 - left)) k bs
      (λ l rest. chain_first left l rest (omega arith))))

  -- and there are as many links
  pub chain_count : (left : ℕ) (k : Link) (bs : List ℕ) → links_from s.log (found s) left k bs ≡ link_count (tables s) left k bs
  unfolding links_from link_count links_after
  chain_count zero k bs = refl
  chain_count (suc left) k bs =
      elim (head_is (value_at (tables s) k bs)) [
        | is_malformed_lem h a b ↦ rw (value_at_lem k bs, h, b)
        | is_end h a b ↦ rw (value_at_lem k bs, h, b)
        | is_next h a b ↦ rw (value_at_lem k bs, h, b, left_at_lem k bs, chain_count left (named_in (value_at (tables s) k bs)) (left_at k bs))
      ]
