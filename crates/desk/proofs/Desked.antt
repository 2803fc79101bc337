-- A tank's answer from what the box answered, where it was asked.
-- Assumes nothing.
use mathlib.Core.Path.{◌≡◌, ◌∙◌, ap}
use mathlib.Core.Bool.{◌&&◌}
use mathlib.Core.List.{List}
use Prim.Native.Nat.{ℕ}
use lib.ListN.{length}
use lib.Dec.{eqb}
use Rattle.lists.proofs.Bools.{by_cases}
use Rattle.ideal.specs.Tables.{Tables}
use Rattle.ideal.specs.Box.{Element, Result}
use Rattle.desk.specs.declared.Tank.{Tank}
use Rattle.desk.specs.declared.TankAnswer.{TankAnswer}
use Rattle.desk.specs.Decision.{Checked, in_range, judged, correction_of, desk_by}
use Rattle.desk.specs.Desk.{desk_on}
use Rattle.desk.specs.Results.{needs_box, Left, check_result, desk_result, asked_leaves, desk_leaves}

module _ (box : Tables → Element → Result) (t : Tables) (output : List ℕ) where
  -- where the box is not asked, what it answers does not matter
  asked : (k : Tank) → desk_by (λ _. (asked_leaves box t output k).answer) k ≡ desk_on box t (length output) k
  unfolding needs_box desk_by correction_of judged desk_on
  asked k =
      by_cases (eqb k.given 0) (λ e. rw e)
      (λ e. by_cases (in_range k.reading && in_range k.setpoint) (λ f. rw (e, f)) (λ f. rw (e, f)))

  pub desked : (k : Tank) (a : TankAnswer) (c : Checked) (u : Tables) (out : List ℕ) → a ≡ desk_by (λ _. c) k
      → check_result c u out ≡ asked_leaves box t output k → desk_result a u out ≡ desk_leaves box t output k
  desked k a c u out d e =
      let a' = d ∙ ap (λ (x : Left Checked). desk_by (λ _. x.answer) k) e ∙ asked k in
      λ i. record { answer = a' i; tables = (e i).tables; output = (e i).output }
