-- Where the values of a table's rows lie: what functions over rows ask of their callers.
use Rattle.std.specs.Prelude.{ℕ, ◌+◌, ◌≤◌, ◌<◌, List, get_or}
use Rattle.ideal.specs.Tables.{RowsOf}

-- each of the first n rows lies within m bytes
unfoldable pub RowsFit : {Row Key : Type 0} → RowsOf Row Key → List Row → ℕ → ℕ → Type 0
RowsFit t rows n m = (k : ℕ) → k < n → t.first (get_or rows k t.blank) + t.size (get_or rows k t.blank) ≤ m
