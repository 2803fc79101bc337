-- Rows with their tags apart: what the test of four rows says of the test of all. Assumes nothing.
use Prim.Native.Nat.{ℕ, ◌+◌, ◌-◌, ◌≤◌}
use mathlib.Core.Path.{◌≡◌, refl, sym, ap, ◌∙◌}
use mathlib.Core.Bool.{true, ◌&&◌}
use mathlib.Core.List.{List, [], ◌∷◌, ◌++◌}
use native.Mathlib.Omega.{arith}
use lib.Dec.{eqb, leb}
use lib.ListN.{length, get_or, take, drop}
use Rattle.std.proofs.lemmas.List.{take_all}
use borrow.Author.Tests.{eqb-true, leb-true}
use Rattle.lists.proofs.Bools.{by_cases, and_left, and_right, and_assoc, and_swap}
use Rattle.ideal.specs.declared.LogRow.{LogRow}
use Rattle.ideal.specs.State.{every}
use Rattle.ideal.specs.Tables.{log_table, entry_of, entries_of}
use Rattle.ideal.specs.Soundness.{has_identity, right_tag}
use Rattle.soundness.specs.Tests.{row_sound, rows_sound, log_row_right}
use Rattle.soundlog.specs.Placed.{row_placed, rows_placed, after, placed_and_tagged}

-- a row is sound where it is placed and its tag is right
pub row_parts : (values : List ℕ) (at : ℕ) (r : LogRow)
    → row_sound log_table (log_row_right values) at r ≡ row_placed (length values) at r && right_tag (entry_of log_table values r)
unfolding row_sound log_row_right row_placed
row_parts values at r = simp and_assoc

pub placed_first : (size at : ℕ) (r : LogRow) → row_placed size at r ≡ true → r.first ≡ at
unfolding row_placed
placed_first size at r h = eqb-true r.first at (and_left (eqb r.first at) _ h)

pub placed_within : (size at : ℕ) (r : LogRow) → row_placed size at r ≡ true → r.first + r.length ≤ size
unfolding row_placed
placed_within size at r h =
    let within = leb (r.first + r.length) size in
    leb-true _ _ (and_right (has_identity r) within (and_right (leb r.length 256) _ (and_right (eqb r.first at) _ h)))

row_on : (values : List ℕ) (end at : ℕ) (r : LogRow) (rs : List LogRow)
    → rows_sound log_table (log_row_right values) end at (r ∷ rs)
    ≡ (row_placed (length values) at r && right_tag (entry_of log_table values r))
    && rows_sound log_table (log_row_right values) end (r.first + r.length) rs
unfolding rows_sound
row_on values end at r rs =
    by_cases (row_placed (length values) at r)
    (λ e. rw (row_parts values at r, placed_first (length values) at r e))
    (λ e. rw (row_parts values at r, e))

-- some rows on
rows_on : (values : List ℕ) (end at : ℕ) (rs rest : List LogRow)
    → rows_sound log_table (log_row_right values) end at (rs ++ rest)
    ≡ placed_and_tagged values at rs && rows_sound log_table (log_row_right values) end (after at rs) rest
unfolding placed_and_tagged rows_placed after every entries_of
rows_on values end at [] rest = refl
rows_on values end at (r ∷ rs) rest =
    let next = r.first + r.length in
    let p = row_placed (length values) at r in
    let g = right_tag (entry_of log_table values r) in
    let ps = rows_placed (length values) next rs in
    let gs = every right_tag (entries_of log_table values rs) in
    let more = rows_sound log_table (log_row_right values) end (after next rs) rest in
    rw (row_on values end at r (rs ++ rest), rows_on values end next rs rest)
    (sym (and_assoc (p && g) (ps && gs) more) ∙ ap (λ b. b && more) (and_swap p g ps gs))

abbrev pub row_at : List LogRow → ℕ → LogRow
row_at rows i = get_or rows i log_table.blank

-- the first four of some rows
abbrev pub four_of : List LogRow → List LogRow
four_of rows = row_at rows 0 ∷ row_at rows 1 ∷ row_at rows 2 ∷ row_at rows 3 ∷ []

-- four rows on
pub four_step : (values : List ℕ) (end at : ℕ) (rows : List LogRow) → 4 ≤ length rows
    → rows_sound log_table (log_row_right values) end at rows
    ≡ placed_and_tagged values at (four_of rows)
    && rows_sound log_table (log_row_right values) end ((row_at rows 3).first + (row_at rows 3).length) (take (length rows - 4) (drop 4 rows))
unfolding after
four_step values end at (a ∷ b ∷ c ∷ d ∷ rows) h =
    rw (take_all (length (a ∷ b ∷ c ∷ d ∷ rows) - 4) rows (omega arith)) (rows_on values end at (a ∷ b ∷ c ∷ d ∷ []) rows)
four_step values end at [] h = absurd (omega arith)
four_step values end at (a ∷ []) h = absurd (omega arith)
four_step values end at (a ∷ b ∷ []) h = absurd (omega arith)
four_step values end at (a ∷ b ∷ c ∷ []) h = absurd (omega arith)
