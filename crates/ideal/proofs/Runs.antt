-- A run of the box is a run on states, laid out. Assumes nothing.
use Prim.Native.Nat.{ℕ, zero, suc, ◌+◌, ◌≤◌, ◌<◌}
use mathlib.Core.Path.{◌≡◌, refl, sym, ap, ◌∙◌}
use mathlib.Core.List.{List, [], ◌∷◌}
use lib.ListN.{take}
use Rattle.record.specs.Call.{Call}
use Rattle.record.specs.Read.{whole, read}
use Rattle.ideal.specs.State.{State, fresh, caller, own_part}
use Rattle.ideal.specs.Step.{refuse, accepted, refusal, effect, number}
use Rattle.ideal.specs.Tables.{tables, box_record}
use Rattle.ideal.specs.Box.{Element, laid, call_on, element_at, tables_from, tables_after, tables_before, answer_at}
use Rattle.ideal.specs.Refusals.{caller_in, own_bytes}
use Rattle.ideal.specs.Accuracy.{Sized}
use Rattle.ideal.specs.Valid.{Valid}
use Rattle.ideal.proofs.Laid.{step_element, fresh_tables_lem, call_is}
pub use Rattle.ideal.proofs.Elements.{Accepted, is_sized, code_of_call, accepted_call, call_accepted, Moved, stays, moves, moved}
use Rattle.ideal.proofs.Kept.{valid_fresh, valid_step}
use Rattle.ideal.proofs.OwnHeap.{own_bytes_lem}

-- the state after the first k elements; past the end no element alters it
unfoldable pub state_from : State → List Element → ℕ → State
state_from s es zero = s
state_from s es (suc k) = (step_element (state_from s es k) (element_at es k)).state

unfoldable pub state_before : List Element → ℕ → State
state_before es k = state_from fresh es k

from_nil : (s : State) (k : ℕ) → state_from s [] k ≡ s
unfolding state_from element_at step_element refuse
from_nil s zero = refl
from_nil s (suc k) = from_nil s k

from_cons : (s : State) (e : Element) (es : List Element) (k : ℕ)
    → state_from s (e ∷ es) (suc k) ≡ state_from (step_element s e).state es k
unfolding state_from element_at
from_cons s e es zero = refl
from_cons s e es (suc k) = ap (λ x. (step_element x (element_at es k)).state) (from_cons s e es k)

tables_from_lem : (s : State) (es : List Element) (k : ℕ) → Valid s
    → tables_from call_on (tables s) (take k es) ≡ tables (state_from s es k)
unfolding tables_from
tables_from_lem s es zero h = unfold state_from in refl
tables_from_lem s [] (suc k) h = rw (from_nil s (suc k))
tables_from_lem s (e ∷ es) (suc k) h =
    let n : (call_on (tables s) e).tables ≡ tables (step_element s e).state =
    unfold laid in ap (λ r. r.tables) (call_is s e h) in
    ap (λ t. tables_from call_on t (take k es)) n ∙ tables_from_lem (step_element s e).state es k (valid_step s e h)
    ∙ ap tables (sym (from_cons s e es k))

pub tables_before_lem : (es : List Element) (k : ℕ) → tables_before call_on es k ≡ tables (state_before es k)
unfolding tables_before tables_after state_before
tables_before_lem es k = rw fresh_tables_lem (tables_from_lem fresh es k valid_fresh)

pub valid_before : (es : List Element) (k : ℕ) → Valid (state_before es k)
unfolding state_before state_from
valid_before es zero = valid_fresh
valid_before es (suc k) = valid_step _ _ (valid_before es k)

pub state_first : (es : List Element) → state_before es 0 ≡ fresh
unfolding state_before state_from
state_first es = refl

pub state_next : (es : List Element) (k : ℕ) → state_before es (suc k) ≡ (step_element (state_before es k) (element_at es k)).state
unfolding state_before state_from
state_next es k = refl

pub answer_at_lem : (es : List Element) (k : ℕ) → answer_at call_on es k ≡ (step_element (state_before es k) (element_at es k)).answer
unfolding answer_at laid
answer_at_lem es k =
    ap (λ t. (call_on t (element_at es k)).answer) (tables_before_lem es k)
    ∙ ap (λ r. r.answer) (call_is (state_before es k) (element_at es k) (valid_before es k))

pub tables_next : (es : List Element) (k : ℕ)
    → tables_before call_on es (suc k) ≡ (call_on (tables_before call_on es k) (element_at es k)).tables
unfolding laid
tables_next es k =
    tables_before_lem es (suc k) ∙ ap tables (state_next es k)
    ∙ ap (λ r. r.tables) (sym (call_is (state_before es k) (element_at es k) (valid_before es k)))
    ∙ ap (λ t. (call_on t (element_at es k)).tables) (sym (tables_before_lem es k))

-- ---- the call at an index, on the host's tables

module _ (es : List Element) (k : ℕ) where
  pub running_before : (tables_before call_on es k).box.running ≡ (state_before es k).running
  unfolding tables box_record
  running_before = ap (λ t. t.box.running) (tables_before_lem es k)

  pub caller_before : caller_in (tables_before call_on es k) ≡ caller (state_before es k)
  unfolding tables box_record
  caller_before = ap (λ t. caller_in t) (tables_before_lem es k)

  pub own_before : (o n : ℕ) → (state_before es k).running < 16 → o + n ≤ 256
      → own_bytes (tables_before call_on es k) o n ≡ own_part (state_before es k) o n
  own_before o n r f = ap (λ t. own_bytes t o n) (tables_before_lem es k) ∙ own_bytes_lem (state_before es k) (valid_before es k) r o n f

  pub sized_at : ((answer_at call_on es k).code ≡ 15 → ⊥) → Sized call_on es k
  sized_at h = is_sized (state_before es k) (element_at es k) (λ f. h (ap (λ a. a.code) (answer_at_lem es k) ∙ f))

  module _ (c : Call) (used : ℕ) (reads : read (element_at es k).bytes ≡ whole c used) where
    pub code_at : Sized call_on es k → (answer_at call_on es k).code ≡ refusal (state_before es k) c
    code_at z = ap (λ a. a.code) (answer_at_lem es k) ∙ code_of_call (state_before es k) (element_at es k) c used reads z

    pub accepted_at_lem : (answer_at call_on es k).code ≡ 0 → Accepted (state_before es k) (element_at es k) c used
    accepted_at_lem h =
        call_accepted (state_before es k) (element_at es k) c used reads (sym (ap (λ a. a.code) (answer_at_lem es k)) ∙ h)

  module _ (c : Call) (used : ℕ) (a : Accepted (state_before es k) (element_at es k) c used) where
    is_accepted : step_element (state_before es k) (element_at es k) ≡ accepted (state_before es k) c used
    is_accepted = accepted_call (state_before es k) (element_at es k) c used a.reads a.sized a.passes

    pub accepts_at : (answer_at call_on es k).code ≡ 0
    unfolding accepted
    accepts_at = ap (λ r. r.code) (answer_at_lem es k) ∙ ap (λ o. o.answer.code) is_accepted

    pub number_at_lem : (answer_at call_on es k).number ≡ number (state_before es k) c
    unfolding accepted
    number_at_lem = ap (λ r. r.number) (answer_at_lem es k) ∙ ap (λ o. o.answer.number) is_accepted

    pub state_after : state_before es (suc k) ≡ effect (state_before es k) c
    unfolding accepted
    state_after = state_next es k ∙ ap (λ o. o.state) is_accepted
