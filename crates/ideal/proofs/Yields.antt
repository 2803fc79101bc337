-- A call on a level-one box: what the full box does, or level one's own refusal of it. Assumes nothing.
use Prim.Native.Nat.{ℕ, zero, suc}
use mathlib.Core.Path.{◌≡◌, refl, sym, ap, ◌∙◌}
use mathlib.Core.Bool.{false, ◌&&◌, cond, true≢false}
use lib.Dec.{eqb}
use borrow.Author.Tests.{eqb-true}
use Rattle.record.specs.Call.{Call}
use Rattle.record.specs.Read.{Reading, refused, whole, read}
use Rattle.ideal.specs.State.{State}
use Rattle.ideal.specs.Step.{refusal, refused_answer, refuse, settle, reading_by, step_on_by}
use Rattle.ideal.specs.Tables.{Tables, state_of}
use Rattle.ideal.specs.Soundness.{sizes_right, sound}
use Rattle.ideal.specs.Box.{Element, Result, laid, box_by, call_on}
use Rattle.ideal.specs.Layouts.{Sound}
use Rattle.ideal.specs.LevelOne.{level_one_refusal, level_one_on}
use Rattle.lists.proofs.Bools.{by_cases}
use Rattle.ideal.proofs.Laid.{tables_state}
use Rattle.ideal.proofs.Numbers.{sound_of}
use Rattle.ideal.proofs.OneAnswer.{box_settles}
use Rattle.ideal.proofs.OwnRefusals.{barred_with, level_one}

-- level one's own refusal of what is read; 0 where it has none
unfoldable pub barred_reading : State → Reading → ℕ
barred_reading s (refused code number) = 0
barred_reading s (whole c used) = barred_with s c

-- and of an element
unfoldable pub barred_in : Tables → Element → ℕ
barred_in t e = cond (sizes_right t e.output_size && sound t) (barred_reading (state_of t) (read e.bytes)) 0

-- what a refusal leaves of tables
abbrev pub refused_on : Tables → (code used : ℕ) → Result
refused_on t code used = record { tables = t; answer = refused_answer code 0 used }

pub data Yields (t : Tables) (e : Element) : Type 0 where
  as_full : barred_in t e ≡ 0 → level_one_on t e ≡ call_on t e → Yields t e
  barred : Sound t e.output_size → (c : Call) (used : ℕ) → read e.bytes ≡ whole c used → barred_in t e ≡ barred_with (state_of t) c
      → eqb (barred_with (state_of t) c) 0 ≡ false → level_one_on t e ≡ refused_on t (barred_with (state_of t) c) used → Yields t e

settle_refuses : (n : ℕ) (s : State) (c : Call) (used : ℕ) → eqb n 0 ≡ false → settle n s c used ≡ refuse s n 0 used
unfolding settle
settle_refuses zero s c used h = absurd (true≢false h)
settle_refuses (suc n) s c used h = refl

module _ (t : Tables) (e : Element) (h : Sound t e.output_size) where
  abbrev s : State
  s = state_of t

  yields_call : (c : Call) (used : ℕ) → read e.bytes ≡ whole c used → Yields t e
  unfolding barred_in barred_reading laid refuse
  yields_call c used q =
      let b : barred_in t e ≡ barred_with s c = rw (h.sizes, h.box, q) in
      let one = box_settles level_one_refusal t e h c used q in
      by_cases (eqb (barred_with s c) 0)
      (λ z.
      let same : level_one_refusal s c ≡ refusal s c = level_one s c ∙ rw z in
      as_full (b ∙ eqb-true _ 0 z)
      (one ∙ ap (λ n. laid (settle n s c used)) same ∙ sym (box_settles refusal t e h c used q)))
      (λ z.
      let same : level_one_refusal s c ≡ barred_with s c = level_one s c ∙ rw z in
      let left : laid (refuse s (barred_with s c) 0 used) ≡ refused_on t (barred_with s c) used =
      ap (λ x. refused_on x (barred_with s c) used) (tables_state t _ h) in
      barred h c used q b z
      (one ∙ ap (λ n. laid (settle n s c used)) same ∙ ap laid (settle_refuses (barred_with s c) s c used z) ∙ left))

  yields_reading : (r : Reading) → read e.bytes ≡ r → Yields t e
  unfolding barred_in barred_reading box_by step_on_by reading_by
  yields_reading (refused code n) q = as_full (rw (h.sizes, h.box, q)) (rw (h.sizes, h.box, q))
  yields_reading (whole c used) q = yields_call c used q

pub yields : (t : Tables) (e : Element) → Yields t e
unfolding barred_in box_by
yields t e =
    by_cases (sizes_right t e.output_size && sound t)
    (λ h. yields_reading t e (sound_of t _ h) (read e.bytes) refl)
    (λ h. as_full (rw h) (rw h))
