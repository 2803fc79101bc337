-- A local array of N rows, taken apart into its rows in memory and put together again: `Denote/ArrayMemory.antt`'s `Array-apart` and `Array-whole`, at a local's cell.
--     rows_val         the machine value of N rows
--     rows_apart       a cell that holds rows, and what they own, are the rows side by side
--     rows_whole       and back
-- Assumes `Logic`.
use mathlib.Core.Path.{◌≡◌, refl, ap}
use Prim.Native.Nat.{ℕ}
use mathlib.Core.List.{List, [], ◌∷◌}
use lib.ListN.{length}
use Rattle.lending.proofs.Walk.{Ura, full_share, Ty, ty_array, Val, ent, sep, fsep, fat, sem, ‵, ◌$◌, ◌∵◌, !, qed, move, drop, use1, rewrite, fsplit, fjoin, fpick, fpack, feq_i, frame, done, arr_parts, RattleType, Is, Makes, Lawful, shows, cell_at, part_at, shares, part_of, Array, array_vals, Array-Tells, Array-Makes, Array-Lawful, Array-apart, Array-whole, peeks, only}
use types.Logic.{Logic}
use denote.Index.{row}
use Rattle.lending.proofs.Kind.{Kind, R, by_val, vals, tells, makes, lawful}

module _ (k : Kind) (N : ℕ) where
  abbrev Row : Type 0
  Row = k.type.D

  abbrev pub Rows : RattleType
  Rows = Array (R k) N

  abbrev pub by_vals : Ty
  by_vals = ty_array (by_val k) N

  abbrev pub rows_val : List Row → Val
  rows_val xs = only (array_vals (vals k) xs)

  pub rows_val_is : (xs : List Row) (w : Val) → Is Rows xs (w ∷ []) → w ≡ rows_val xs
  rows_val_is xs w p = ap only (Array-Tells (R k) (vals k) (tells k) N xs (w ∷ []) p)

  pub rows_long : (xs : List Row) (vs : List Val) → Is Rows xs vs → length xs ≡ N
  rows_long xs vs p = p.1.0.1

  module _ {M : Type 1} {𝓤 : Ura M} (𝓛 : Logic 𝓤) where
    pub rows_makes : Makes 𝓛 Rows (Is Rows)
    rows_makes = Array-Makes 𝓛 (R k) (makes k 𝓛) N

    pub rows_lawful : Lawful 𝓛 Rows
    rows_lawful = Array-Lawful 𝓛 (R k) (lawful k 𝓛) N

    pub rows_apart : (xs : List Row) (w : Val) (l : ℕ) → ent 𝓤 (sep 𝓤 (sem 𝓛 (fat full_share by_vals l 0 w)) (sem 𝓛 (Rows.own_val xs (w ∷ [])))) (sem 𝓛 (row (R k) full_share xs l 0))
    unfolding part_of
    rows_apart xs w l =
        qed 𝓛 (‵ (fat full_share by_vals l 0 w) ∷ ‵ (Rows.own_val xs (w ∷ [])) ∷ []) ∵
        use1 𝓛 (‵ (cell_at full_share Rows.mir (w ∷ []) l 0)) (𝓛.laws.at_raw full_share by_vals l 0 w) $ fjoin ! $
        fpack ! (List Val) (λ vs. fsep (cell_at full_share Rows.mir vs l 0) (Rows.own_val xs vs)) (w ∷ []) $
        use1 𝓛 (‵ ((arr_parts (shares (R k)) N).part full_share xs l 0)) (Array-apart 𝓛 (R k) full_share tt N xs l 0) $ fsplit ! $ drop ! $ done !

    pub rows_whole : (xs : List Row) (l : ℕ) → length xs ≡ N → ent 𝓤 (sem 𝓛 (row (R k) full_share xs l 0)) (sep 𝓤 (sem 𝓛 (fat full_share by_vals l 0 (rows_val xs))) (sem 𝓛 (Rows.own_val xs (rows_val xs ∷ []))))
    unfolding part_of
    rows_whole xs l n =
        qed 𝓛 (‵ (row (R k) full_share xs l 0) ∷ []) ∵ feq_i ! ℕ (length xs) N n $ fjoin ! $
        use1 𝓛 (‵ (part_at Rows full_share xs l 0)) (Array-whole 𝓛 (R k) full_share N xs l 0) $ fpick ! (λ vs. fsplit ! $ move ! (1 ∷ []) $
        peeks ! Rows (Is Rows) (shows 𝓛 Rows) xs vs (λ p.
        rewrite ! 0 (λ (us : List Val). ‵ (Rows.own_val xs us)) (Array-Tells (R k) (vals k) (tells k) N xs vs p) refl $
        rewrite ! 1 (λ (us : List Val). ‵ (cell_at full_share Rows.mir us l 0)) (Array-Tells (R k) (vals k) (tells k) N xs vs p) refl $ move ! (1 ∷ []) $
        use1 𝓛 (‵ (fat full_share by_vals l 0 (rows_val xs))) (𝓛.laws.raw_at full_share by_vals l 0 (rows_val xs)) $ frame ! $ done !))
