-- A `&κ mut [T]` that is lent as a `&κ' [T]` for a lifetime κ' of a call, and comes back as it was: `Denote/Lend.antt`'s `lends_shr_slice`, within an open borrow. It says nothing of the crate, and can be copied as it stands.
--     SharedAgain      what the holder keeps meanwhile: the lender's part at κ', and its own borrow at κ, open, with both halves of its ghost variable
--     shares_again     given `Room`, of Copy rows:  own (the `&κ mut [T]` ((b, o), γ, ys)) ∗ [κ]_q ∗ [κ']_s  ⊢ ⇛ own (the `&κ' [T]` ((b, o), ys)) ∗ SharedAgain ∗ [κ']_s
--     share_back       given `Room`:  [†κ'] ∗ SharedAgain  ⊢ ⇛ (own (the `&κ mut [T]` ((b, o), γ, ys)) ∗ [κ]_q)
-- Assumes `Logic`.
use types.Logic.{Logic}
use denote.Slice.{mut_slice_at}
use denote.Ref.{Bor, MutBor}
use denote.Copied.{Copied}
use base.Fml.{Incl-refl}
use mathlib.Core.Path.{refl}
use Prim.Native.Nat.{ℕ}
use mathlib.Core.List.{List, [], ◌∷◌}
use lib.ListN.{length}
use Rattle.lending.proofs.Walk.{use2, join, Ura, full_share, Lifetime, Val, ent, sep, Lft, GName, Share, Fml, fsep, flft, fdead, fobs, fauth, flent, fobor, sem, ‵, ◌⊛◌, later, ◌$◌, ◌∵◌, !, qed, move, drop, split, fsplit, fjoin, feq_i, frame, await, updating, done, arr_parts, lent_back, RattleType, pure_i, shares, slice_val, MutSlice, ShrSlice, heres, Room, coded_holeys, Held, lends_shr_slice, opens_slice, closes_slice}
use types.Kit.{now as at_once}

module _ (R : RattleType) (κ κ' : Lft) (q : Share) (γ : GName) (b o : ℕ) where
  abbrev at_list : GName → List R.Denot → MutBor (List R.Denot)
  at_list δ ys = record { ref_ptr = (b, o); ghost_name = δ; now = ys }

  abbrev Elems : List R.Denot → Fml
  Elems ys = (arr_parts (shares R) (length ys)).part full_share ys b o

  abbrev pub SharedAgain : List R.Denot → Fml
  SharedAgain ys = fsep (flent κ' (Elems ys)) (fsep (fobor κ q (Held R (length ys) b o γ)) (fsep (fobs γ ((coded_holeys R).code (heres R ys))) (fauth γ ((coded_holeys R).code (heres R ys)))))

  module _ {M : Type 1} {𝓤 : Ura M} (𝓛 : Logic 𝓤) (ℓ ℓ' : Lifetime) (ys : List R.Denot) where
    open 𝓛 use {H, A}

    abbrev at_shared : Bor (List R.Denot)
    at_shared = record { ref_ptr = (b, o); now = ys }

    abbrev vals : List Val
    vals = slice_val (b, o) (length ys) ∷ []

    pub shares_again : Copied 𝓛 R → Room R (length ys) → (s : Share) → ent 𝓤 (sep 𝓤 (sem 𝓛 ((MutSlice ℓ κ R).own_val (at_list γ ys) vals)) (sep 𝓤 (A.lft κ q) (A.lft κ' s)))
        (H.⇛ (sep 𝓤 (sem 𝓛 ((ShrSlice ℓ' κ' R).own_val at_shared vals)) (sep 𝓤 (sem 𝓛 (SharedAgain ys)) (A.lft κ' s))))
    shares_again each room s =
        qed 𝓛 (‵ ((MutSlice ℓ κ R).own_val (at_list γ ys) vals) ∷ (‵ (flft κ q) ⊛ ‵ (flft κ' s)) ∷ []) ∵ updating ! $ move ! (1 ∷ []) $ split ! $ move ! (2 ∷ 0 ∷ []) $ fsplit ! $ drop ! $ fsplit ! $
        move ! (0 ∷ 1 ∷ 2 ∷ []) $ opens_slice ! tt R ys b o $
        feq_i ! ℕ (length ys) (length ys) refl $ fjoin ! $ move ! (0 ∷ 4 ∷ []) $
        use2 𝓛 (later ((‵ ((ShrSlice ℓ' κ' R).own_val at_shared vals) ⊛ ‵ (flent κ' (Elems ys))) ⊛ ‵ (flft κ' s)))
        (lends_shr_slice 𝓛 R ℓ' κ' full_share ys b o room κ' (each.shares full_share κ') ((κ', s) ∷ []) (Incl-refl κ') (Incl-refl κ')) $ await ! tt $ split ! $ split ! $
        -- [the shared slice; the lender's part at κ'; the token of κ'; the open borrow at κ; obs γ; auth γ]
        at_once ! $ frame ! $ move ! (1 ∷ []) $ move ! (3 ∷ 4 ∷ []) $ fjoin ! $ move ! (3 ∷ 0 ∷ []) $ fjoin ! $ move ! (2 ∷ 0 ∷ []) $ fjoin ! $ join ! $ done !

    pub share_back : Room R (length ys) → ent 𝓤 (sep 𝓤 (A.dead κ') (sem 𝓛 (SharedAgain ys))) (H.⇛ (sep 𝓤 (sem 𝓛 ((MutSlice ℓ κ R).own_val (at_list γ ys) vals)) (A.lft κ q)))
    share_back room =
        qed 𝓛 (‵ (fdead κ') ∷ ‵ (SharedAgain ys) ∷ []) ∵ updating ! $ move ! (1 ∷ []) $ fsplit ! $ move ! (2 ∷ 0 ∷ []) $ lent_back ! tt $ fsplit ! $ drop ! $
        move ! (1 ∷ []) $ fsplit ! $ move ! (1 ∷ []) $ fsplit ! $ move ! (3 ∷ 2 ∷ 0 ∷ 1 ∷ []) $ closes_slice ! tt R ys ys refl b o $ at_once ! $
        fjoin ! $ pure_i ! (mut_slice_at R (at_list γ ys) vals) (tt, (tt, tt)) (refl, room) $ fjoin ! $ done !
