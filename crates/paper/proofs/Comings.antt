-- A chain comes to the same links on the state and on its tables. Assumes nothing.
use Prim.Native.Nat.{ℕ, suc, ◌-◌, ◌≤◌}
use mathlib.Core.Path.{◌≡◌, refl, sym, ap, ◌∙◌}
use mathlib.Core.Bool.{true, false, not, ◌&&◌, ◌||◌}
use mathlib.Core.List.{List}
use native.Mathlib.Omega.{arith}
use lib.ListN.{get_or, length}
use lib.Dec.{eqb}
use borrow.Author.Tests.{ne_eqb}
use Rattle.record.specs.Call.{Link}
use Rattle.ideal.specs.State.{State}
use Rattle.ideal.specs.Step.{malformed, ends, leads, head_of, link_value, found}
use Rattle.ideal.specs.Tables.{tables, state_of}
use Rattle.ideal.specs.Refusals.{value_at, left_at, leads_on, named_in, link_conditions, First, later, none_holds}
use Rattle.ideal.specs.Valid.{Valid}
use Rattle.ideal.proofs.Laid.{state_tables}
use Rattle.ideal.proofs.Heads.{same_leads, HeadIs, is_malformed_lem, is_end, is_next, head_is}
use Rattle.ideal.proofs.Links.{value_at_lem, left_at_lem, unreadable_at_lem, unvouched_at}
use Rattle.ideal.proofs.Following.{Clear, Comes, at_first as at-start, goes_on as on}
use Rattle.paper.specs.Paper.{ComesTo, at_first, goes_on}

module _ (s : State) (valid : Valid s) where
  -- a link that is passed and leads on
  record Passes (n : ℕ) (k m : Link) (bs : List ℕ) : Type 0 where
    first : First 0 (link_conditions (tables s) n k bs)
    leads_on_lem : leads_on (value_at (tables s) k bs) ≡ true
    is : named_in (value_at (tables s) k bs) ≡ m

  passes : (n : ℕ) (k m : Link) (bs : List ℕ) → (n ≡ 16 → ⊥) → Clear s.log (found s) k bs
      → head_of (link_value s.log (found s) k bs) ≡ leads m → Passes n k m bs
  unfolding link_conditions
  passes n k m bs few c e = by (head_is v) (ap head_of (sym (value_at_lem s back k bs)) ∙ e)
    where
      back : state_of (tables s) ≡ s
      back = state_tables s valid

      v : List ℕ
      v = value_at (tables s) k bs

      by : HeadIs v → head_of v ≡ leads m → Passes n k m bs
      by (is_malformed_lem q a b) h = absurd (let z : malformed ≡ leads m = sym q ∙ h in let z : ◌≡◌ {A = ℕ} 0 1 = cc in omega arith)
      by (is_end q a b) h = absurd (let z : ends ≡ leads m = sym q ∙ h in let z : ◌≡◌ {A = ℕ} 0 1 = cc in omega arith)
      by (is_next q a b) h =
          let well : not (eqb (get_or v 0 0) 1 || leads_on v) ≡ false = rw (a, b) in
          let on : eqb (get_or v 0 0) 1 && not (eqb (length (left_at k bs)) 0) ≡ false = rw a in
          record {
            first =
                later (ne_eqb n 16 few) (later (sym (unreadable_at_lem k bs) ∙ c.reads) (later c.named
                (later (sym (unvouched_at s back k bs) ∙ c.vouched)
                (later well (later on (none_holds refl))))));
            leads_on_lem = b;
            is = same_leads (sym q ∙ h);
          }

  pub comes_to : {k : Link} {bs : List ℕ} {l : Link} {rest : List ℕ} {left : ℕ} → Comes s.log (found s) k bs left l rest
      → (left ≤ 16) × ComesTo (tables s) k bs (16 - left) l rest
  comes_to at-start = (omega arith, at_first)
  comes_to (on {left = left} {l = l} {m = m} {rest = rest} come c e) =
      let (few, there) = comes_to come in
      let p = passes (16 - suc left) l m rest (λ z. omega arith) c e in
      let n : suc (16 - suc left) ≡ 16 - left = omega arith in
      (omega arith, rw (← n, ← p.is, left_at_lem l rest) (goes_on there p.first p.leads_on_lem))
