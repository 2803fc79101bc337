-- A value of a declared type in memory, as a borrow holds it: from its cell, and back.
-- Assumes `Logic`.
use Prim.Native.Nat.{ℕ}
use mathlib.Core.List.{List, [], ◌∷◌}
use Rattle.lending.proofs.Walk.{Ura, full_share, Val, ent, fsep, fat, sem, ‵, ◌$◌, ◌∵◌, !, qed, move, keep, use1, fsplit, fjoin, fpick, fpack, done, Is, shows, cell_at, part_at, part_of, owned}
use types.Logic.{Logic}
use denote.Struct.Steps.{spelt}
use Rattle.lending.proofs.Kind.{Kind, R, by_val, val, vals, tells, makes}

module _ (k : Kind) {M : Type 1} {𝓤 : Ura M} (𝓛 : Logic 𝓤) (x : k.type.D) (b o : ℕ) where
  open 𝓛 use {H}

  pub into_memory : Is (R k) x (vals k x) → ent 𝓤 (H.at full_share (by_val k) b o (val k x)) (sem 𝓛 (part_at (R k) full_share x b o))
  unfolding part_of
  into_memory is =
      qed 𝓛 (‵ (fat full_share (by_val k) b o (val k x)) ∷ []) ∵ use1 𝓛 (‵ (cell_at full_share (R k).mir (vals k x) b o)) (𝓛.laws.at_raw full_share (by_val k) b o (val k x)) $
      owned ! (R k) (Is (R k)) (makes k 𝓛) x _ is $ move ! (1 ∷ 0 ∷ []) $ fjoin ! $
      fpack ! (List Val) (λ vs. fsep (cell_at full_share (R k).mir vs b o) ((R k).own_val x vs)) (vals k x) $ done !

  pub out_of_memory : ent 𝓤 (sem 𝓛 (part_at (R k) full_share x b o)) (H.at full_share (by_val k) b o (val k x))
  unfolding part_of
  out_of_memory =
      qed 𝓛 (‵ (part_at (R k) full_share x b o) ∷ []) ∵ fpick ! (λ vs. fsplit ! $ spelt ! (R k) (Is (R k)) (shows 𝓛 (R k)) (vals k) (tells k) full_share x vs b o $
      use1 𝓛 (‵ (fat full_share (by_val k) b o (val k x))) (𝓛.laws.raw_at full_share (by_val k) b o (val k x)) $ keep ! (0 ∷ []) $ done !)
