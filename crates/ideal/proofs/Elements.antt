-- One element on a state: it alters nothing, or is a call that is accepted. Assumes nothing.
use Prim.Native.Nat.{ℕ, zero, suc}
use mathlib.Core.Path.{◌≡◌, refl, sym, ap, ◌∙◌}
use native.Mathlib.Omega.{arith}
use lib.Dec.{eqb}
use borrow.Author.Tests.{eqb-true, eq-eqb}
use Rattle.record.specs.Call.{Call}
use Rattle.record.specs.Read.{Reading, refused, whole, read}
use Rattle.ideal.specs.State.{State}
use Rattle.ideal.specs.Step.{refused_answer, refuse, accepted, refusal, settle, reading_by, step_on_by, step_by}
use Rattle.ideal.specs.Box.{Element}
use Rattle.lists.proofs.Bools.{by_cases}
use Rattle.ideal.proofs.Laid.{step_element}

-- the element is a call that is accepted
pub record Accepted (s : State) (e : Element) (c : Call) (used : ℕ) : Type 0 where
  pub sized : e.output_size ≡ 1024
  pub reads : read e.bytes ≡ whole c used
  pub passes : refusal s c ≡ 0

-- only 15 is given where the output buffer isn't of its size
pub is_sized : (s : State) (e : Element) → ((step_element s e).answer.code ≡ 15 → ⊥) → e.output_size ≡ 1024
unfolding step_element refuse refused_answer
is_sized s e h = by_cases (eqb e.output_size 1024) (λ t. eqb-true _ _ t) (λ f. absurd (h (rw f)))

module _ (s : State) (e : Element) (c : Call) (used : ℕ) (reads : read e.bytes ≡ whole c used) where
  step_of_call : e.output_size ≡ 1024 → step_element s e ≡ settle (refusal s c) s c used
  unfolding step_element step_on_by reading_by step_by
  step_of_call z = rw (eq-eqb _ _ z, reads)

  pub code_of_call : e.output_size ≡ 1024 → (step_element s e).answer.code ≡ refusal s c
  unfolding settle accepted refuse refused_answer
  code_of_call z = rw (step_of_call z) (settled (refusal s c))
    where
      settled : (n : ℕ) → (settle n s c used).answer.code ≡ n
      settled zero = refl
      settled (suc n) = refl

  pub accepted_call : e.output_size ≡ 1024 → refusal s c ≡ 0 → step_element s e ≡ accepted s c used
  unfolding settle
  accepted_call z r = step_of_call z ∙ ap (λ n. settle n s c used) r

  pub call_accepted : (step_element s e).answer.code ≡ 0 → Accepted s e c used
  call_accepted h =
      let z = is_sized s e (λ f. let g = sym h ∙ f in omega arith) in
      record { sized = z; reads = reads; passes = sym (code_of_call z) ∙ h }

-- an element alters nothing, or is a call that is accepted
pub data Moved (s : State) (e : Element) : Type 0 where
  stays : (step_element s e).state ≡ s → Moved s e
  moves : (c : Call) (used : ℕ) → Accepted s e c used → Moved s e

pub moved : (s : State) (e : Element) → Moved s e
unfolding step_element step_on_by reading_by settle refuse
moved s e = by_cases (eqb e.output_size 1024) (λ t. on_read (read e.bytes) refl (eqb-true _ _ t)) (λ f. stays (rw f))
  where
    on_call : (c : Call) (used n : ℕ) → read e.bytes ≡ whole c used → e.output_size ≡ 1024 → refusal s c ≡ n
        → Moved s e
    on_call c used zero q z r = moves c used (record { sized = z; reads = q; passes = r })
    on_call c used (suc n) q z r = stays (ap (λ o. o.state) (step_of_call s e c used q z) ∙ rw r)

    on_read : (r : Reading) → read e.bytes ≡ r → e.output_size ≡ 1024 → Moved s e
    on_read (refused code n) q z = stays (rw (eq-eqb _ _ z, q))
    on_read (whole c used) q z = on_call c used (refusal s c) q z refl
