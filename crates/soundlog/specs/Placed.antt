-- Rows with their tags apart, which are compared four at a time.
use Rattle.std.specs.Prelude.{ℕ, ◌+◌, Bool, true, ◌&&◌, List, [], ◌∷◌, eqb, leb, length}
use Rattle.ideal.specs.declared.LogRow.{LogRow}
use Rattle.ideal.specs.State.{every}
use Rattle.ideal.specs.Tables.{log_table, entries_of}
use Rattle.ideal.specs.Soundness.{has_identity, right_tag}

-- a row begins at `at`, is at most 256 long, has an identity, and its value lies within `size` bytes
unfoldable pub row_placed : (size at : ℕ) → LogRow → Bool
row_placed size at r = eqb r.first at && (leb r.length 256 && (has_identity r && leb (r.first + r.length) size))

-- such rows one after the other: each begins where the one before it ends
unfoldable pub rows_placed : (size at : ℕ) → List LogRow → Bool
rows_placed size at [] = true
rows_placed size at (r ∷ rs) = row_placed size at r && rows_placed size (r.first + r.length) rs

-- where they end
unfoldable pub after : (at : ℕ) → List LogRow → ℕ
after at [] = at
after at (r ∷ rs) = after (r.first + r.length) rs

-- such rows, and each tag the right one
unfoldable pub placed_and_tagged : List ℕ → (at : ℕ) → List LogRow → Bool
placed_and_tagged values at rs = rows_placed (length values) at rs && every right_tag (entries_of log_table values rs)
