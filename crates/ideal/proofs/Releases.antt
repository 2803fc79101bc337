-- What a release says of history. Assumes nothing.
use Prim.Native.Nat.{ℕ}
use mathlib.Core.Path.{◌≡◌, sym, ◌∙◌}
use mathlib.Core.Logic.{◌↔◌}
use mathlib.Core.Bool.{false}
use mathlib.Core.List.{List}
use mathlib.Core.Option.{none}
use native.Mathlib.Omega.{arith}
use borrow.Author.Tests.{eq-eqb, ne_eqb}
use Rattle.record.specs.declared.Handle.{Handle}
use Rattle.record.specs.Call.{Call, release}
use Rattle.record.specs.Read.{whole, read}
use Rattle.ideal.specs.State.{State}
use Rattle.ideal.specs.Step.{found, absent, idle, tests, first_holding, refusal, number}
use Rattle.ideal.specs.Box.{Element, call_on, element_at, answer_at}
use Rattle.ideal.specs.Accuracy.{Sized, Runs, Says, HeldBefore, ReleaseAt, ReleaseIsAccurate}
use Rattle.lists.proofs.Bools.{by_cases}
use Rattle.ideal.proofs.Runs.{state_before, sized_at, code_at, accepted_at_lem, accepts_at, Accepted, number_at_lem}
use Rattle.ideal.proofs.Retrieves.{Finds, found_since, Ready, nothing, something, sought, ready, nowhere, unheld, is_ready, runs_there}

module _ (s : State) (i : ℕ) (h : Handle) where
  was_ready : (n : ℕ) → refusal s (release i h) ≡ n → (n ≡ 4 → ⊥) → (n ≡ 9 → ⊥) → Ready s i
  unfolding refusal tests first_holding
  was_ready n e four nine =
      let r : idle s ≡ false = by_cases (idle s) (λ t. absurd (four (sym e ∙ rw t))) (λ f. f) in
      record { runs = r; named = λ z. nine (sym e ∙ rw (r, eq-eqb i 0 z)) }

  absent_refusal : Ready s i → found s i h ≡ none → refusal s (release i h) ≡ 10
  unfolding refusal tests first_holding absent
  absent_refusal r e = rw (r.runs, ne_eqb i 0 r.named, e)

  found_refusal : (v : List ℕ) → Finds s i h v → Ready s i → refusal s (release i h) ≡ 0
  unfolding refusal tests first_holding absent
  found_refusal v f r = rw (r.runs, ne_eqb i 0 r.named, f.is)

module _ (es : List Element) (k i : ℕ) (h : Handle) (used : ℕ)
    (reads : read (element_at es k).bytes ≡ whole (release i h) used) where
  abbrev s : State
  s = state_before es k

  abbrev c : Call
  c = release i h

  gives_up : Says call_on es 0 k ↔ (Sized call_on es k × (v : List ℕ) × HeldBefore call_on es k i h v)
  unfolding number
  gives_up = (
    λ p. let a = accepted_at_lem es k c used reads p.0 in
        let r = was_ready s i h 0 a.passes (λ e. omega arith) (λ e. omega arith) in
        elim (sought s i h) [
          | nothing e ↦ let q = sym (absent_refusal s i h r e) ∙ a.passes in absurd (omega arith)
          | something v f ↦ (a.sized, v, (found_since es k i h v).0 f)
        ],
    λ p. let v = p.1 in
        let passes = found_refusal s i h v ((found_since es k i h v).1 p.2) (ready es k i h v p.2) in
        let a : Accepted s (element_at es k) c used = record { sized = p.0; reads = reads; passes = passes } in
        (accepts_at es k c used a, number_at_lem es k c used a),
  )

  not_there : ((answer_at call_on es k).code ≡ 10)
      ↔ (Sized call_on es k × Runs call_on es k × (i ≡ 0 → ⊥) × ((v : List ℕ) → HeldBefore call_on es k i h v → ⊥))
  not_there = (
    λ p. let z = sized_at es k (λ e. let n = sym p ∙ e in omega arith) in
        let q = sym (code_at es k c used reads z) ∙ p in
        let r = was_ready s i h 10 q (λ e. omega arith) (λ e. omega arith) in
        elim (sought s i h) [
          | nothing e ↦ (z, runs_there es k i h r, r.named, unheld es k i h e)
          | something v f ↦ let n = sym (found_refusal s i h v f r) ∙ q in absurd (omega arith)
        ],
    λ p. code_at es k c used reads p.0 ∙ absent_refusal s i h (is_ready es k i h p.1 p.2) (nowhere es k i h p.3),
  )

  release_at : ReleaseAt call_on es k i h
  release_at = record { gives_up = gives_up; not_there = not_there }

pub release_is_accurate : ReleaseIsAccurate call_on
release_is_accurate = release_at
