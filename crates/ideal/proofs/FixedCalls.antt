-- A box that meets demands 1 and 2 is the definition, on any tables, and so keeps demand 3. Assumes nothing.
use Prim.Native.Nat.{ℕ}
use mathlib.Core.Path.{◌≡◌, refl, sym, ap, ◌∙◌, subst}
use mathlib.Core.Bool.{Bool}
use mathlib.Core.List.{List}
use mathlib.Core.Option.{some}
use lib.Dec.{eqb}
use borrow.Author.Tests.{eqb-true, eqb-false}
use Rattle.record.specs.Call.{Call, create, exit, heap_write, heap_read, shared_write, shared_read, attest, check, protect, retrieve, report, hand_over, chain, release}
use Rattle.record.specs.Read.{whole, read}
use Rattle.ideal.specs.Tables.{Tables}
use Rattle.ideal.specs.Box.{Element, Result, call_on}
use Rattle.ideal.specs.Refusals.{EachNumberBy, RefusalsAlterNothing}
use Rattle.ideal.specs.Answers.{plain_number, Answered}
use Rattle.ideal.specs.OneCall.{counted_number, Done}
use Rattle.ideal.specs.Secrecy.{Secrecy}
use Rattle.ideal.specs.Demands.{EachCallBy}
use Rattle.ideal.specs.Fixed.{SameAccepted, FixedByTwo, Fixed, SecrecyFollows}
use Rattle.lists.proofs.Bools.{by_cases}
use Rattle.ideal.proofs.OneAnswer.{Whole, one_free, same_answer, same_result, same_refusal, accepted_reads}
use Rattle.ideal.proofs.Secret.{secrecy}
use Rattle.ideal.proofs.Demanded.{demands}

-- a table fixes the code
pub same_code : {table : Tables → Element → List (ℕ × Bool)} (a b : Tables → Element → Result) → EachNumberBy a table → EachNumberBy b table
    → (t : Tables) (e : Element) → (a t e).answer.code ≡ (b t e).answer.code
same_code a b x y t e = let n = (b t e).answer.code in (x t e n).1 ((y t e n).0 refl)

-- two boxes that keep what is demanded of one call, by one table
module _ {table : Tables → Element → List (ℕ × Bool)} {model : Tables → Element → Result} (that : EachCallBy table model)
    (box : Tables → Element → Result) (this : EachCallBy table box) (t : Tables) (e : Element) where
  abbrev r : Result
  r = box t e

  abbrev s : Result
  s = model t e

  code_is : r.answer.code ≡ s.answer.code
  code_is = same_code box model this.refuses_no_more that.refuses_no_more t e

  module _ (c : Call) (used : ℕ) (reads : read e.bytes ≡ whole c used) (z : s.answer.code ≡ 0) where
    answered_r : Answered t c used r.answer
    answered_r = this.answers t e c used reads (code_is ∙ z)

    answered_s : Answered t c used s.answer
    answered_s = that.answers t e c used reads z

    done_r : Done t c r
    done_r = this.does t e c used reads (code_is ∙ z)

    done_s : Done t c s
    done_s = that.does t e c used reads z

    plain : (n : ℕ) → plain_number t c ≡ some n → r.answer.number ≡ s.answer.number
    plain n q = answered_r.number n q ∙ sym (answered_s.number n q)

    by_count : (n : ℕ) → counted_number t c ≡ some n → r.answer.number ≡ s.answer.number
    by_count n q = done_r.counted n q ∙ sym (done_s.counted n q)

    when_accepted : r.answer.number ≡ s.answer.number → r ≡ s
    when_accepted n =
        same_result _ _ (done_r.leaves ∙ rw n (sym done_s.leaves))
        (same_answer _ _ code_is n (answered_r.used ∙ sym answered_s.used) (done_r.shows ∙ sym done_s.shows))

  number_is : (c : Call) (used : ℕ) → read e.bytes ≡ whole c used → s.answer.code ≡ 0 → r.answer.number ≡ s.answer.number
  unfolding plain_number counted_number
  number_is (create p i) used q z = plain _ used q z _ refl
  number_is exit used q z = plain _ used q z _ refl
  number_is (heap_write p o v) used q z = plain _ used q z _ refl
  number_is (heap_read p o n) used q z = plain _ used q z _ refl
  number_is (shared_write o v) used q z = plain _ used q z _ refl
  number_is (shared_read o n) used q z = plain _ used q z _ refl
  number_is (attest o n) used q z = plain _ used q z _ refl
  number_is (check i g v) used q z = by_count _ used q z _ refl
  number_is (protect i o n d) used q z =
      ap (λ a. a.0)
      (one_free t n d.0 _ _ (this.handles_free t e i o n d used q (code_is ∙ z)) (that.handles_free t e i o n d used q z))
  number_is (retrieve i o a) used q z = by_count _ used q z _ refl
  number_is report used q z = by_count _ used q z _ refl
  number_is (hand_over p) used q z = plain _ used q z _ refl
  number_is (chain first v) used q z = by_count _ used q z _ refl
  number_is (release i h) used q z = plain _ used q z _ refl

  pub same_accepted : (s.answer.code ≡ 0 → Whole e.bytes) → SameAccepted r s
  same_accepted reads =
      record {
        code = code_is;
        accepted = λ z.
            let w = reads z in
            when_accepted w.call w.used w.reads z (number_is w.call w.used w.reads z);
      }

  -- and a refusal's number, bytes used and tables
  pub same_call : (s.answer.code ≡ 0 → Whole e.bytes) → RefusalsAlterNothing box → RefusalsAlterNothing model → r ≡ s
  same_call reads here there =
      let h = same_accepted reads in
      by_cases (eqb s.answer.code 0)
      (λ y. h.accepted (eqb-true _ _ y))
      (λ y.
      let n = eqb-false _ _ y in
      same_refusal h.code (here t e (λ z. n (sym h.code ∙ z))) (there t e n))

-- ---- the full box

pub fixed_by_two : FixedByTwo
fixed_by_two box two t e = same_accepted demands.two.call box two.call t e (accepted_reads t e)

pub fixed : Fixed
fixed box one two t e =
    same_call demands.two.call box two.call t e (accepted_reads t e) one.alters_nothing demands.one.alters_nothing

pub secrecy_follows : SecrecyFollows
secrecy_follows box one two =
    let is : box ≡ call_on = λ i t e. fixed box one two t e i in
    subst Secrecy (sym is) secrecy
