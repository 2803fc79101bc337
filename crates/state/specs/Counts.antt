-- Room in a table of 64 rows and 4,096 value bytes, by its used-counts.
use Rattle.std.specs.Prelude.{ℕ, ◌+◌, ◌≤◌, ◌<◌, Bool, ◌||◌, eqb, ltb}
use Rattle.ideal.specs.declared.Used.{Used}

-- the box's `full`, by the counts
unfoldable pub full_by : Used → ℕ → Bool
full_by used n = eqb used.rows 64 || ltb 4096 (used.bytes + n)

-- there is a row and n bytes that are not used
pub record Room (used : Used) (n : ℕ) : Type 0 where
  pub row : used.rows < 64
  pub bytes : used.bytes + n ≤ 4096
