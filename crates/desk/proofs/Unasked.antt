-- Where a lent buffer isn't of its size or the box isn't sound, the box refuses every check with 15, and where it need not be asked
-- about any tank, what it answers does not matter: so in both cases the desk answers as if every check got 15. Of the box the proof
-- uses demand 1. Assumes nothing.
use Prim.Native.Nat.{ℕ}
use mathlib.Core.Path.{◌≡◌, refl, ap}
use mathlib.Core.Bool.{true, false, not, ◌&&◌}
use mathlib.Core.List.{List, [], ◌∷◌, map}
use lib.Dec.{eqb}
use borrow.Author.Tests.{not-true}
use Rattle.lists.specs.Lists.{any}
use Rattle.lists.proofs.Bools.{by_cases, and_other, or_false_left, or_false_right, not_is}
use Rattle.ideal.specs.Tables.{Tables}
use Rattle.ideal.specs.Soundness.{sizes_right, sound}
use Rattle.ideal.specs.Refusals.{conditions_by, here}
use Rattle.ideal.specs.Box.{call_on}
use Rattle.ideal.proofs.Demanded.{demands}
use Rattle.desk.specs.declared.Tank.{Tank}
use Rattle.desk.specs.declared.Claim.{Claim}
use Rattle.desk.specs.Decision.{Checked, in_range, judged, desk_by, correction_of}
use Rattle.desk.specs.Desk.{check_element, checked_on, desk_on}
use Rattle.desk.specs.Results.{refused_all, needs_box}

-- ---- what the box answers

module _ (t : Tables) (n : ℕ) (unready : sizes_right t n && sound t ≡ false) where
  refused : (g : Claim) → (call_on t (check_element g n)).answer.code ≡ 15
  unfolding conditions_by check_element
  refused g = (demands.one.numbers t (check_element g n) 15).1 (here (not_is (sizes_right t n && sound t) unready))

  checks_refused : (g : Claim) → refused_all g ≡ checked_on call_on t n g
  unfolding checked_on refused_all
  checks_refused g = rw (refused g)

  pub unready_list : (ks : List Tank) → map (desk_by refused_all) ks ≡ map (desk_on call_on t n) ks
  unfolding desk_on
  unready_list ks = ap (λ (check : Claim → Checked). map (desk_by check) ks) (λ i g. checks_refused g i)

-- ---- where the box need not be asked, what it answers does not matter

needless : (check check' : Claim → Checked) (k : Tank) → needs_box k ≡ false → desk_by check k ≡ desk_by check' k
unfolding needs_box desk_by correction_of judged
needless check check' k h =
    by_cases (eqb k.given 0) (λ e. rw e)
    (λ e. rw (and_other (not (eqb k.given 0)) (in_range k.reading && in_range k.setpoint) (ap not e) h))

needless_list : (check check' : Claim → Checked) (ks : List Tank) → any needs_box ks ≡ false → map (desk_by check) ks ≡ map (desk_by check') ks
unfolding any
needless_list check check' [] h = refl
needless_list check check' (k ∷ ks) h =
    rw (needless check check' k (or_false_left (needs_box k) (any needs_box ks) h), needless_list check check' ks (or_false_right (needs_box k) (any needs_box ks) h))

pub unasked_list : (t : Tables) (n : ℕ) (ks : List Tank) → not (any needs_box ks) ≡ true → map (desk_by refused_all) ks ≡ map (desk_on call_on t n) ks
unfolding desk_on
unasked_list t n ks h = needless_list refused_all (checked_on call_on t n) ks (not-true (any needs_box ks) h)
