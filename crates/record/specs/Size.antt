-- How many bytes a record has, by its map and the count of its bytes field.
use Rattle.std.specs.Prelude.{ℕ, ◌+◌, cond}
use Rattle.record.specs.Layout.{stands}

-- a field of n bytes, where its bit stands
unfoldable pub field_size : ℕ → ℕ → ℕ → ℕ
field_size map bit n = cond (stands map bit) n 0

-- map, kind, and the fields in rising bit order
unfoldable pub record_size : ℕ → ℕ → ℕ
record_size map count =
    2
    + field_size map 1 1
    + field_size map 2 8
    + field_size map 3 2
    + field_size map 4 2
    + field_size map 5 8
    + field_size map 6 (2 + count)
