-- Lent rows that no sound box has.
use Rattle.std.specs.Prelude.{ℕ, Bool, not, ◌&&◌, List, eqb, length, drop}
use Rattle.ideal.specs.State.{every}
use Rattle.ideal.specs.Tables.{RowsOf}

-- they are not 64, or one from n on isn't blank
unfoldable pub unfit : {Row Key : Type 0} → RowsOf Row Key → (n : ℕ) → List Row → Bool
unfit t n rows = not (eqb (length rows) 64 && every t.is_blank (drop n rows))
