-- That rows fit is a fact: it has one proof at most. A struct that keeps it asks for this.
use Rattle.std.specs.Prelude.{ℕ, List}
use Rattle.std.specs.Coded.{Π_prop, →_prop, le_prop}
use Rattle.ideal.specs.Tables.{RowsOf}
use Rattle.ideal.specs.Fit.{RowsFit}

pub RowsFit_prop : {Row Key : Type 0} (t : RowsOf Row Key) (rows : List Row) (n m : ℕ) → IsProp (RowsFit t rows n m)
unfolding RowsFit
RowsFit_prop t rows n m = Π_prop (λ k. →_prop le_prop)
