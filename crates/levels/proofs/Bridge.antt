-- Level one's own refusals on the parts of a sound box are those of its state. Assumes nothing.
use Prim.Native.Nat.{ℕ}
use mathlib.Core.Path.{◌≡◌, refl}
use mathlib.Core.Bool.{not, ◌&&◌, cond}
use mathlib.Core.List.{List}
use native.Mathlib.Omega.{arith}
use lib.Dec.{eqb, ltb}
use borrow.Author.Tests.{eqb-true, eqb-false, ltb-true, ltb-false, lt-ltb, le-ltb}
use Rattle.record.specs.declared.Call as code
use Rattle.record.specs.declared.Call.TheVariants.{Create, Exit, HeapWrite, HeapRead, SharedWrite, SharedRead, Attest, Check, Protect, Retrieve, Report, HandOver, Chain, Release}
use Rattle.record.specs.Meaning.{call_in}
use Rattle.ideal.specs.declared.Profile.{Profile}
use Rattle.ideal.specs.declared.Profile.TheVariants.{Full, LevelOne}
use Rattle.ideal.specs.Step.{idle, beyond, refusal}
use Rattle.ideal.specs.Tables.{Tables, tables, state_of}
use Rattle.ideal.specs.Valid.{Valid}
use Rattle.ideal.specs.LevelOne.{logged_other, refusal_in}
use Rattle.lists.proofs.Bools.{by_cases}
use Rattle.ideal.proofs.OwnRefusals.{then22, then23, barred_with, level_one}
use Rattle.state.proofs.Parts.{heap_fits, own_value}
use Rattle.levels.specs.Narrow.{place_barred, attest_barred, barred_on, own_refusal}

-- 4 to 15: above 3, and not above 15
in_create : (p : ℕ) → place_barred p ≡ then22 (ltb 15 p) (ltb 3 p)
unfolding place_barred then22
in_create p =
    by_cases (ltb 15 p)
    (λ h. let q = ltb-true 15 p h in rw (h, lt-ltb 3 p (omega arith), le-ltb p 16 (omega arith)))
    (λ h. let q = ltb-false 15 p h in
    rw (h, lt-ltb p 16 (omega arith)) (by_cases (ltb 3 p) (λ l. rw l) (λ l. rw l)))

-- above 3, not above 16, and not 16
in_hand_over : (p : ℕ) → place_barred p ≡ then22 (ltb 16 p) (ltb 3 p && not (eqb p 16))
unfolding place_barred then22
in_hand_over p =
    by_cases (ltb 16 p)
    (λ h. let q = ltb-true 16 p h in rw (h, lt-ltb 3 p (omega arith), le-ltb p 16 (omega arith)))
    (λ h. let q = ltb-false 16 p h in
    by_cases (eqb p 16)
    (λ e. rw (eqb-true p 16 e))
    (λ e.
    let n = eqb-false p 16 e in
    rw (h, e, lt-ltb p 16 (omega arith)) (by_cases (ltb 3 p) (λ l. rw l) (λ l. rw l))))

module _ (t : Tables) (k : Valid (state_of t)) (e : tables (state_of t) ≡ t) where
  in_attest : (o n : ℕ) → attest_barred t.box t.log_rows t.heaps t.log_values o n
      ≡ then23 (idle (state_of t)) (beyond 256 o n) (logged_other (state_of t) o n)
  unfolding attest_barred then23 logged_other idle state_of
  in_attest o n =
      by_cases (idle (state_of t)) (λ h. rw h)
      (λ runs.
      by_cases (beyond 256 o n) (λ h. rw (runs, h))
      (λ within. rw (runs, within, own_value t k e o n (heap_fits t.box.running o n k.runs runs within))))

  pub barred_is : (bytes : List ℕ) (c : code.Call)
      → barred_on t.box t.log_rows t.heaps t.log_values c ≡ barred_with (state_of t) (call_in bytes c)
  unfolding barred_on barred_with call_in
  barred_is bytes (Create p i) = in_create p
  barred_is bytes Exit = refl
  barred_is bytes (HeapWrite p o v) = refl
  barred_is bytes (HeapRead p o n) = refl
  barred_is bytes (SharedWrite o v) = refl
  barred_is bytes (SharedRead o n) = refl
  barred_is bytes (Attest o n) = in_attest o n
  barred_is bytes (Check i g v) = refl
  barred_is bytes (Protect i o n d) = refl
  barred_is bytes (Retrieve i o h) = refl
  barred_is bytes Report = refl
  barred_is bytes (HandOver p) = in_hand_over p
  barred_is bytes (Chain i f v) = refl
  barred_is bytes (Release i h) = refl

  -- a profile refuses a call by its own refusal, where there is one, and else as the full box does
  pub refused_in : (p : Profile) (bytes : List ℕ) (c : code.Call)
      → let own = own_refusal p t.box t.log_rows t.heaps t.log_values c in
      refusal_in p (state_of t) (call_in bytes c) ≡ cond (eqb own 0) (refusal (state_of t) (call_in bytes c)) own
  unfolding own_refusal
  refused_in Full bytes c = refl
  refused_in LevelOne bytes c = rw (barred_is bytes c) (level_one (state_of t) (call_in bytes c))
