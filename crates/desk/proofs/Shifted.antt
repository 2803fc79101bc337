-- A list's answers (specs/Accuracy.antt), of any box. Assumes nothing.
use Prim.Native.Nat.{ℕ}
use mathlib.Core.Path.{◌≡◌, sym, ◌∙◌, ap}
use mathlib.Core.List.{List, map}
use native.Mathlib.Omega.{arith}
use lib.ListN.{length, get_or, length-map}
use lib.Dec.{eqb}
use borrow.Author.Tests.{eq-eqb, ne_eqb, eqb-true, eqb-false}
use Rattle.std.proofs.lemmas.Bool.Decides.{nat_tests}
use Rattle.std.proofs.lemmas.List.{get_or-map}
use Rattle.lists.proofs.Bools.{by_cases}
use Rattle.ideal.specs.Tables.{Tables}
use Rattle.ideal.specs.Box.{Element, Result}
use Rattle.desk.specs.declared.Tank.{Tank}
use Rattle.desk.specs.declared.TankAnswer.{TankAnswer}
use Rattle.desk.specs.Desk.{Answered, is_list, shift_code, desk_on, shift_on}
use Rattle.desk.specs.Accuracy.{OfList, EachItsOwn}
use Rattle.desk.proofs.Lists.{as_many, not_as_many}

module _ (box : Tables → Element → Result) (t : Tables) (size : ℕ) (tanks : List Tank) (answers : List TankAnswer) where
  abbrev result : Answered
  result = shift_on box t size tanks answers

  -- by its code
  taken : result.code ≡ 0 → result.answers ≡ map (desk_on box t size) tanks
  unfolding shift_on
  taken z = rw (eq-eqb _ 0 z)

  refused : (result.code ≡ 0 → ⊥) → result.answers ≡ answers
  unfolding shift_on
  refused other = rw (ne_eqb _ 0 other)

  of_list : OfList box t size tanks answers
  unfolding shift_on shift_code is_list
  of_list =
      record {
        size = (λ z. not_as_many (length tanks) (length answers) z, λ other. grind (arith, nat_tests));
        whole = (λ z. (grind (arith, nat_tests), λ f. grind (arith, nat_tests)), λ w. grind (arith, nat_tests, w.1));
        accepts = (λ z. (grind (arith, nat_tests), grind (arith, nat_tests), grind (arith, nat_tests)), λ w. grind (arith, nat_tests));
        count =
            by_cases (eqb (shift_code (length tanks) (length answers)) 0)
            (λ h. let z = eqb-true _ 0 h in ap length (taken z) ∙ length-map tanks (desk_on box t size) ∙ sym (as_many _ _ z))
            (λ h. ap length (refused (eqb-false _ 0 h)));
        unwritten = refused;
        each = λ z i d e less. ap (λ (l : List TankAnswer). get_or l i d) (taken z) ∙ get_or-map (desk_on box t size) tanks i e d less;
      }

pub each_its_own : EachItsOwn
each_its_own box t size tanks answers = of_list box t size tanks answers
