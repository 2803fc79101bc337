-- A box that keeps what is promised of a level-one box's calls is the level-one box, on any tables. Assumes nothing.
use mathlib.Core.Path.{◌≡◌, refl, sym, ◌∙◌}
use mathlib.Core.Bool.{false≢true}
use Rattle.ideal.specs.State.{any}
use Rattle.ideal.specs.Tables.{Tables}
use Rattle.ideal.specs.Box.{Element, Result}
use Rattle.ideal.specs.Refusals.{one_of, EachNumberBy, RefusalsAlterNothing}
use Rattle.ideal.specs.LevelOne.{level_one_on, level_one_conditions}
use Rattle.ideal.specs.LevelOneDemands.{barring, ElseFull, LevelOneFixed}
use Rattle.lists.proofs.Bools.{by_cases}
use Rattle.ideal.proofs.OneAnswer.{Whole, same_result, same_refusal, accepted_reads}
use Rattle.ideal.proofs.LevelOneCalls.{full_else, full_with, alters_nothing}
use Rattle.ideal.proofs.LevelOneNumbers.{each_number}
use Rattle.ideal.proofs.LevelOneDemanded.{level_one_demands}
use Rattle.ideal.proofs.FixedCalls.{same_code, same_call}

module _ (box : Tables → Element → Result) (full : ElseFull box) (numbers : EachNumberBy box level_one_conditions)
    (alters : RefusalsAlterNothing box) (t : Tables) (e : Element) where
  abbrev r : Result
  r = box t e

  abbrev s : Result
  s = level_one_on t e

  code_is : r.answer.code ≡ s.answer.code
  code_is = same_code box level_one_on numbers each_number t e

  when_refused : (s.answer.code ≡ 0 → ⊥) → r ≡ s
  when_refused n = same_refusal code_is (alters t e (λ z. n (sym code_is ∙ z))) (alters_nothing t e n)

  fixed : r ≡ s
  unfolding barring one_of any
  fixed =
      by_cases (barring s.answer.code)
      (λ h. when_refused (λ z. false≢true (rw z at h)))
      (λ h. let f = full t e (rw code_is h) in same_result _ _ f.tables f.answer ∙ sym (full_else t e h))

-- what it accepts, the full box accepts
pub level_one_reads : (t : Tables) (e : Element) → (level_one_on t e).answer.code ≡ 0 → Whole e.bytes
unfolding barring one_of any
level_one_reads t e z = accepted_reads t e (rw (full_with t e 0 refl z) at z)

pub level_one_fixed : LevelOneFixed
level_one_fixed =
    record {
      by_demands = λ box one two t e.
          same_call level_one_demands.two.call box two t e (level_one_reads t e) one.alters_nothing alters_nothing;
      by_full = fixed;
    }
