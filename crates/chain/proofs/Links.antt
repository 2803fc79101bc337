-- A link and all that come after it, by its value and what its head leads to. Assumes nothing.
use Rattle.std.proofs.Common.{ℕ, zero, suc, ◌≡◌, ◌+◌, ◌-◌, ◌≤◌, Bool, true, false, not, eqb, List, length, refl, sym, zero-add, arith}
use borrow.Author.Tests.{ne_eqb}
use native.Mathlib.Numerals.{sub-one}
use Rattle.std.proofs.Math.Option.{Option}
use Rattle.record.specs.declared.Handle.{Handle}
use Rattle.record.specs.Call.{Link}
use Rattle.record.specs.Layout.{OrRefusal, gives, refuses}
use Rattle.ideal.specs.declared.BoxRecord.{BoxRecord}
use Rattle.ideal.specs.declared.LogRow.{LogRow}
use Rattle.ideal.specs.declared.EscrowRow.{EscrowRow}
use Rattle.ideal.specs.State.{Logged, Escrowed}
use Rattle.ideal.specs.Step.{Head, malformed, ends, leads, head_of, is_malformed, after_head, links_after, bytes_after, link_value, Tests, accept, ◌then◌, first_holding, follow, links_from}
use Rattle.state.specs.declared.Answer.{Answer}
use Rattle.state.specs.Answers.{refused_with, settled, answered}
use Rattle.state.specs.Parts.{log_of}
use Rattle.retrieval.specs.Narrow.{found_on}
use Rattle.chain.specs.Meaning.{ValueAndRest}
use Rattle.chain.specs.Narrow.{vouched, followed_from, chain_refusal, chain_answer}

module _ (log : List Logged) (found : ℕ → Handle → Option Escrowed) where
  pub none_left : (left : ℕ) (k : Link) (bs : List ℕ) → left ≡ 0 → followed_from log found left k bs ≡ refused_with 20
  unfolding followed_from follow first_holding answered
  none_left left k bs e = rw e

  -- what a head leads to, where so many links may still be followed
  abbrev pub onward : ℕ → Head → List ℕ → Answer
  onward left malformed bs = refused_with 19
  onward left ends bs = answered (first_holding ((19, not (eqb (length bs) 0)) then accept)) (16 - left)
  onward left (leads k) bs = followed_from log found left k bs

  abbrev pub outcome : ℕ → OrRefusal ValueAndRest → Answer
  outcome left (refuses code) = refused_with code
  outcome left (gives v) = onward left (head_of v.value) v.rest

  head_read : (n : ℕ) (h : Head) (bs : List ℕ) → suc n ≤ 16
      → onward n h bs
      ≡ answered (first_holding ((19, is_malformed h) then after_head (follow log found n) h bs))
      (16 - suc n + (1 + links_after (links_from log found n) h bs))
  unfolding is_malformed after_head links_after first_holding answered followed_from
  head_read n malformed bs p = refl
  head_read n ends bs p = let e : 16 - suc n + (1 + 0) ≡ 16 - n = omega arith in rw e
  head_read n (leads k) bs p =
      let e : 16 - suc n + (1 + links_from log found n k bs) ≡ 16 - n + links_from log found n k bs = omega arith in rw e

  -- three tests, and then others
  tested : (a b c : Bool) (n m : ℕ) (v : ValueAndRest) (ts : Tests)
      → onward n (head_of v.value) v.rest ≡ answered (first_holding ts) m
      → let r = first_holding ((19, a) then (9, b) then (18, c) then accept) in
      outcome n (settled r (refuses r) (gives v)) ≡ answered (first_holding ((19, a) then (9, b) then (18, c) then ts)) m
  unfolding settled first_holding answered
  tested true b c n m v ts e = refl
  tested false true c n m v ts e = refl
  tested false false true n m v ts e = refl
  tested false false false n m v ts e = e

  pub one : (left : ℕ) (k : Link) (bs : List ℕ) → (left ≡ 0 → ⊥) → left ≤ 16
      → followed_from log found left k bs ≡ outcome (left - 1) (vouched log found k bs)
  unfolding vouched followed_from follow links_from
  one zero k bs f p = absurd (f refl)
  one (suc n) k bs f p =
      sym
      (rw (sub-one (suc n))
      (tested _ _ _ n _ (record { value = link_value log found k bs; rest = bytes_after k bs }) _ (head_read n _ _ p)))

-- ---- a chain

module _ (b : BoxRecord) (log_rows : List LogRow) (escrow_rows : List EscrowRow) (log_values escrow_values : List ℕ) (k : Link) (bs : List ℕ)
  where
    pub one_runs : (b.running ≡ 16 → ⊥)
        → chain_answer b log_rows escrow_rows log_values escrow_values k bs
        ≡ followed_from (log_of b log_rows log_values) (found_on b escrow_rows escrow_values) 16 k bs
    unfolding chain_answer chain_refusal followed_from first_holding
    one_runs f = rw (ne_eqb _ _ f, zero-add)
