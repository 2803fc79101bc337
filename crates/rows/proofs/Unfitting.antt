-- Lent rows that pass their test, what a turn of the test keeps, and the rows that no sound box has. Assumes nothing.
use Prim.Native.Nat.{ℕ, ◌+◌, ◌≤◌, ◌<◌}
use mathlib.Core.Path.{◌≡◌, sym, ap, ◌∙◌}
use mathlib.Core.Bool.{Bool, true, false, not, ◌&&◌, true≢false}
use mathlib.Core.List.{List}
use lib.ListN.{length, get_or, drop, drop_of_length-le}
use lib.Dec.{eqb}
use borrow.Author.Tests.{eqb-true, eq-eqb, not-false}
use Rattle.lists.proofs.Bools.{by_cases, and_left, and_right, and_nil}
use Rattle.ideal.specs.declared.BoxRecord.{BoxRecord}
use Rattle.ideal.specs.declared.LogRow.{LogRow}
use Rattle.ideal.specs.declared.EscrowRow.{EscrowRow}
use Rattle.ideal.specs.State.{every}
use Rattle.ideal.specs.Tables.{Tables, RowsOf, log_table, escrow_table}
use Rattle.ideal.specs.Soundness.{sizes_right, sound}
use Rattle.ideal.specs.Layouts.{Sound}
use Rattle.ideal.proofs.Facts.{facts}
use Rattle.state.specs.Parts.{RestBlank}
use Rattle.rows.specs.Unfit.{unfit}
use Rattle.rows.proofs.Bits.{blank_step}

-- they are 64, and the unused ones blank
abbrev pub Fitting : {Row Key : Type 0} → RowsOf Row Key → (n : ℕ) → List Row → Type 0
Fitting t n rows = (length rows ≡ 64) × (every t.is_blank (drop n rows) ≡ true)

pub fitting : {Row Key : Type 0} (t : RowsOf Row Key) (n : ℕ) (rows : List Row) → unfit t n rows ≡ false → Fitting t n rows
unfolding unfit
fitting t n rows e =
    let both = not-false _ e in
    (eqb-true (length rows) 64 (and_left (eqb (length rows) 64) _ both), and_right (eqb (length rows) 64) _ both)

module _ {Row Key : Type 0} (t : RowsOf Row Key) where
  -- the bits of rows n to i are clear, and those from i on blank, where those from n on are
  abbrev pub So : (rows : List Row) → (n i : ℕ) → (clear : Bool) → Type 0
  So rows n i clear = clear && every t.is_blank (drop i rows) ≡ every t.is_blank (drop n rows)

  -- one row on
  pub so_step : (rows : List Row) (n i : ℕ) (c c' : Bool) (r : Row) → i < length rows → r ≡ get_or rows i t.blank → c' ≡ c && t.is_blank r
      → So rows n i c → So rows n (i + 1) c'
  so_step rows n i c c' r h er ec so = blank_step t.is_blank rows t.blank i c c' h (ec ∙ ap (λ (z : Row). c && t.is_blank z) er) ∙ so

  -- behind the last
  pub unfit_is : (rows : List Row) (n i : ℕ) (c y : Bool) → length rows ≤ i → So rows n i c → y ≡ not (eqb (length rows) 64 && c)
      → y ≡ unfit t n rows
  unfolding unfit every
  unfit_is rows n i c y over so e =
      e ∙ ap (λ (z : Bool). not (eqb (length rows) 64 && z)) (sym (and_nil c) ∙ rw (drop_of_length-le rows over) at so)

pub rest_blank : (b : BoxRecord) {log : List LogRow} {escrow : List EscrowRow}
    → Fitting log_table b.log.rows log → Fitting escrow_table b.escrow.rows escrow → RestBlank b log escrow
rest_blank b f g = record { log_blank = f.1; escrow_blank = g.1 }

module _ (t : Tables) (n : ℕ) where
  -- what holds of no sound box makes this one unsound
  unless_sound : (Sound t n → ⊥) → sizes_right t n && sound t ≡ false
  unless_sound never =
      by_cases (sizes_right t n && sound t)
      (λ h. absurd (never (record { sizes = and_left (sizes_right t n) (sound t) h; box = and_right (sizes_right t n) (sound t) h })))
      (λ h. h)

  pub log_unsound : unfit log_table t.box.log.rows t.log_rows ≡ true → sizes_right t n && sound t ≡ false
  unfolding unfit
  log_unsound e =
      unless_sound (λ s.
      let f = (facts t n s).log in
      absurd (true≢false (sym e ∙ rw (eq-eqb (length t.log_rows) 64 f.row_count, f.blank))))

  pub escrow_unsound : unfit escrow_table t.box.escrow.rows t.escrow_rows ≡ true → sizes_right t n && sound t ≡ false
  unfolding unfit
  escrow_unsound e =
      unless_sound (λ s.
      let f = (facts t n s).escrow in
      absurd (true≢false (sym e ∙ rw (eq-eqb (length t.escrow_rows) 64 f.row_count, f.blank))))
