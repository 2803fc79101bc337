-- An answer with code 0 is that of an accepted call. Assumes nothing.
use Prim.Native.Nat.{ℕ}
use mathlib.Core.Path.{◌≡◌, refl, sym, ap, ◌∙◌}
use mathlib.Core.Bool.{◌&&◌, false≢true}
use native.Mathlib.Omega.{arith}
use Rattle.record.specs.Call.{Call, create, exit, heap_write, heap_read, shared_write, shared_read, attest, check, protect, retrieve, report, hand_over, chain, release}
use Rattle.record.specs.Read.{whole, read}
use Rattle.record.specs.Write.{filled}
use Rattle.ideal.specs.State.{State, any}
use Rattle.ideal.specs.Step.{Answer, refusal, number, shown, refused_answer, accepted}
use Rattle.ideal.specs.Tables.{Tables, box_record, tables, state_of}
use Rattle.ideal.specs.Soundness.{sizes_right, sound}
use Rattle.ideal.specs.Box.{Element, laid, unsound, call_on, box_by}
use Rattle.ideal.specs.Layouts.{Sound}
use Rattle.ideal.specs.Refusals.{one_of}
use Rattle.ideal.specs.Answers.{plain_number, Answered, AcceptedAnswers}
use Rattle.ideal.specs.Valid.{Valid}
use Rattle.lists.proofs.Bools.{by_cases, and_left, and_right}
use Rattle.ideal.proofs.Laid.{step_element, valid_sound, tables_state, call_is}
use Rattle.ideal.proofs.Elements.{accepted_call, call_accepted}
use Rattle.ideal.proofs.Does.{attest_passed}
use Rattle.ideal.proofs.OwnHeap.{own_bytes_lem}

pub record Accepted (s : State) (c : Call) (used : ℕ) (a : Answer) : Type 0 where
  pub passes : refusal s c ≡ 0
  pub is : a ≡ (accepted s c used).answer

pub accepted_of_lem : (s : State) (e : Element) (c : Call) (used : ℕ) → read e.bytes ≡ whole c used
    → (step_element s e).answer.code ≡ 0 → Accepted s c used (step_element s e).answer
accepted_of_lem s e c used y z =
    let a = call_accepted s e c used y z in
    record { passes = a.passes; is = ap (λ o. o.answer) (accepted_call s e c used y a.sized a.passes) }

-- only a sound box with buffers of their sizes accepts
pub sound_of : (t : Tables) (e : Element) → (call_on t e).answer.code ≡ 0 → Sound t e.output_size
unfolding box_by unsound refused_answer
sound_of t e z =
    by_cases (sizes_right t e.output_size && sound t)
    (λ b. record { sizes = and_left (sizes_right t e.output_size) _ b; box = and_right (sizes_right t e.output_size) _ b })
    (λ b. absurd (let q : 15 ≡ 0 = rw b at z in omega arith))

-- an accepted call on any tables, and the state that they stand for
pub record OnState (t : Tables) (e : Element) (c : Call) (used : ℕ) : Type 0 where
  pub valid : Valid (state_of t)
  pub back : tables (state_of t) ≡ t
  pub passes : refusal (state_of t) c ≡ 0
  pub is : call_on t e ≡ laid (accepted (state_of t) c used)

pub on_state : (t : Tables) (e : Element) (c : Call) (used : ℕ) → read e.bytes ≡ whole c used → (call_on t e).answer.code ≡ 0
    → OnState t e c used
unfolding laid
on_state t e c used y z =
    let ok = sound_of t e z in
    let s = state_of t in
    let back = tables_state t e.output_size ok in
    let k = valid_sound t e.output_size ok in
    let q : call_on t e ≡ laid (step_element s e) = ap (λ x. call_on x e) (sym back) ∙ call_is s e k in
    let a = call_accepted s e c used y (sym (ap (λ r. r.answer.code) q) ∙ z) in
    record { valid = k; back = back; passes = a.passes; is = q ∙ ap laid (accepted_call s e c used y a.sized a.passes) }

-- ---- the answer of each kind

answered : (s : State) (c : Call) (used : ℕ) → Valid s → refusal s c ≡ 0 → Answered (tables s) c used (accepted s c used).answer
unfolding accepted number shown plain_number tables box_record one_of any filled
answered s (create p i) used k r = record { number = λ n e. cc; used = refl; shown = λ h. refl }
answered s exit used k r = record { number = λ n e. cc; used = refl; shown = λ h. refl }
answered s (heap_write p o v) used k r = record { number = λ n e. cc; used = refl; shown = λ h. refl }
answered s (heap_read p o m) used k r = record { number = λ n e. cc; used = refl; shown = λ h. absurd (false≢true (sym h)) }
answered s (shared_write o v) used k r = record { number = λ n e. cc; used = refl; shown = λ h. refl }
answered s (shared_read o m) used k r = record { number = λ n e. cc; used = refl; shown = λ h. absurd (false≢true (sym h)) }
answered s (attest o m) used k r =
    let a = attest_passed s o m k r in
    let own = own_bytes_lem s k a.runs o m a.fits in
    record { number = λ n e. cc own; used = refl; shown = λ h. refl }
answered s (check i g v) used k r = record { number = λ n e. cc; used = refl; shown = λ h. refl }
answered s (protect i o m d) used k r = record { number = λ n e. cc; used = refl; shown = λ h. refl }
answered s (retrieve i o h) used k r = record { number = λ n e. cc; used = refl; shown = λ h. refl }
answered s report used k r = record { number = λ n e. cc; used = refl; shown = λ h. refl }
answered s (hand_over p) used k r = record { number = λ n e. cc; used = refl; shown = λ h. refl }
answered s (chain first v) used k r = record { number = λ n e. cc; used = refl; shown = λ h. refl }
answered s (release i h) used k r = record { number = λ n e. cc; used = refl; shown = λ h. refl }

pub accepted_answers : AcceptedAnswers call_on
unfolding laid
accepted_answers t e c used y z =
    let o = on_state t e c used y z in
    rw o.is (rw o.back at (answered (state_of t) c used o.valid o.passes))
