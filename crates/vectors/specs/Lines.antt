-- The line that shows a hash.
use Rattle.std.specs.Prelude.{ℕ, List, [], ◌∷◌, ◌++◌}
use Rattle.io.specs.Digits.{last_digits}
use Rattle.fnv.specs.Fnv.{fnv1a}

-- 16 hexadecimal digits of FNV-1a of the bytes, and a line feed
unfoldable pub line_of : List ℕ → List ℕ
line_of value = last_digits 16 16 (fnv1a value) ++ (10 ∷ [])
