-- Rows whose first bytes fall by nothing. Assumes nothing.
use Prim.Native.Nat.{ℕ}
use mathlib.Core.Path.{◌≡◌, refl, ap, ◌∙◌}
use mathlib.Core.List.{List, [], ◌∷◌, map}
use native.Mathlib.Nat.{sub-zero}
use lib.ListN.{drop, take-append-drop}
use Rattle.ideal.specs.Tables.{RowsOf}
use Rattle.ideal.proofs.Table.{Lawful}
use Rattle.state.specs.Edits.{lowered, lowered_from}

module _ {Row Key : Type 0} {t : RowsOf Row Key} (k : Lawful t) where
  same : (rows : List Row) → map (lowered t 0) rows ≡ rows
  same [] = refl
  same (r ∷ rs) = λ j. (ap (λ m. t.row (t.key r) m (t.size r)) (sub-zero (t.first r)) ∙ k.row r) j ∷ same rs j

  pub no_fall : (i : ℕ) (rows : List Row) → lowered_from t i 0 rows ≡ rows
  unfolding lowered_from
  no_fall i rows = rw (same (drop i rows)) (take-append-drop i rows)
