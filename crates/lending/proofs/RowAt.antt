-- One row of a lent slice is read: a walk by hand of the MIR of `rows[i]`, for every kind of row. The place of the row is i times its size past the slice's pointer, and the whole struct is read there.
-- Assumes nothing.
use types.Logic.{Logic}
use denote.Slice.{shr_slice_vals}
use denote.Ref.{Bor}
use mathlib.Core.Path.{◌≡◌, refl, sym}
use Prim.Native.Nat.{ℕ, ◌<◌, ◌^◌}
use mathlib.Core.List.{List, [], ◌∷◌}
use lib.ListN.{length, get_or}
use Rattle.lending.proofs.Walk.{Ura, full_share, Fn, Body, named, imm, w64, ty_int, ty_ptr, ty_ref, local, value_local, seq, assign, return, place, field, deref, int, rv_opd, op2, mul, unsigned, offset, Val, vint, vptr, SProp, ent, Lft, GName, Share, ftrue, fat, flft, size, Calls, Loops, WpFn, Tables, fact, Lfts, ‵, ◌⊛◌, ⋆, ◌$◌, ◌∵◌, !, qed, by, move, keep, split, join, rewrite, fsplit, fjoin, suffices, frame, done, whole, sub, look_in, look, look_raw, init, forget, stop, hop, fld, from, load, lit, of_opd, bin, assigns, enter, alloc1, alloc0, params1, pass1, pass0, free1, free0, WpFn-mono, owns, Is, shows, uint_vals, uint_Tells, usize, SliceRefOf, slice_ty, slice_val, ShrSlice, Room, shr_slice_Tells, place_is, elem_out, elem_back, looks_slice, shuts_slice, Signature, plain, nothing, owned, Ended, Clauses, AtExit, closing, Args, Res, Vals, on_entry, Meets, says, needs, Stays, stay_none_slice, stay_none, walk_of, Goes-none_slice, Goes-none, ends_at, walked, walk_Meets, yes}
use mir.Syntax.{copy as reads}
use types.Run.{returns}
use denote.Triple.Walked.{Walks}
use Rattle.lending.proofs.Says.{Ensures, asking, saying, Tells, says_so}
use Rattle.lending.proofs.Kind.{Kind, R, by_val, ref, val, vals, tells, offset_fits, makes, lawful, copied}

module _ (k : Kind) (d : k.type.D) where
  abbrev Row : Type 0
  Row = k.type.D

  -- ---- the signature, the contract and the code, for a kind of row
  abbrev pub signature : Signature
  signature = record { lifetimes = 1; outlives = []; params = SliceRefOf (0 ∷ []) tt (plain (λ _. R k)) (λ _. tt) ∷ plain (λ _. usize) ∷ []; result = plain (λ _. R k) }

  abbrev pub ended : Ended
  ended = record { signature = signature; kept = (yes, (yes, tt)) }

  abbrev Asks : {M : Type 1} (𝓤 : Ura M) (κs : Lfts 1) → Args signature κs → SProp 𝓤
  Asks 𝓤 κs a = fact 𝓤 (a.1.0 < length a.0.now)

  abbrev Says : (κs : Lfts 1) → Args signature κs → Res signature κs → AtExit ended κs → Type 0
  Says κs a r e = r ≡ get_or a.0.now a.1.0 d

  abbrev pub clauses : {M : Type 1} (𝓤 : Ura M) → Clauses 𝓤 ended
  clauses 𝓤 = saying 𝓤 ended (Asks 𝓤) Says

  abbrev body : Body
  body = seq (assign (place 3 []) (op2 (mul unsigned) (reads (place 2 [])) (int w64 (size (by_val k))))) (seq (assign (place 4 []) (op2 offset (reads (place 1 (field 0 ∷ []))) (reads (place 3 []))))
      (seq (assign (place 5 []) (rv_opd (reads (place 4 (deref (by_val k) ∷ []))))) (seq (assign (place 0 []) (rv_opd (reads (place 5 [])))) return)))

  abbrev pub function : Fn
  function = record {
    lifetimes = 1;
    outlives = [];
    ty_params = [];
    givens = 0;
    params = 2;
    body = body;
    locals = local (by_val k) value_local ∷ local (slice_ty (ty_ref (named 0) imm (ref k))) value_local ∷ local (ty_int w64) value_local ∷ local (ty_int w64) value_local ∷ local ty_ptr value_local ∷ local (by_val k) value_local ∷ [];
  }

  abbrev stayed : Stays ended.signature.params ended.kept
  stayed = (stay_none_slice (0 ∷ []) tt (plain (λ _. R k)) yes, (stay_none (λ _. usize) yes, tt))

  module _ {M : Type 1} {𝓤 : Ura M} (𝓛 : Logic 𝓤) (κ : Lft) (q : Share) (b o : ℕ) (γ : GName) (ys : List Row) (i : ℕ) where
    open 𝓛 use {H}

    abbrev x : Bor (List Row) × (ℕ × Unit {0})
    x = (record { ref_ptr = (b, o); now = ys }, (i, tt))

    abbrev elem : Row
    elem = get_or ys i d

    abbrev mach : Val
    mach = val k elem

    abbrev at : Vals signature (κ, tt)
    at = (slice_val (b, o) (length ys) ∷ [], (vint w64 i ∷ [], tt))

    abbrev Post : Val → SProp 𝓤
    Post = (walk_of 𝓛 ended stayed (clauses 𝓤)).post (((κ, tt), (q, tt), tt, x, at), tt)

    exits : Is (R k) elem (mach ∷ []) → ent 𝓤 (⋆ 𝓛 (‵ (flft κ q) ∷ ‵ ((ShrSlice (named 0) κ (R k)).own_val x.0 at.0) ∷ ‵ (usize.own_val i (vint w64 i ∷ [])) ∷ [])) (Post mach)
    exits g =
        qed 𝓛 (‵ (flft κ q) ∷ ‵ ((ShrSlice (named 0) κ (R k)).own_val x.0 at.0) ∷ ‵ (usize.own_val i (vint w64 i ∷ [])) ∷ []) ∵
        suffices ! _ (ends_at 𝓛 ended stayed (clauses 𝓤) (((κ, tt), (q, tt), tt, x, at), tt) mach elem (tt, (tt, tt)) (tt, (tt, tt))) $ says ! refl $
        nothing ! $ move ! (1 ∷ 0 ∷ []) $ join ! $ nothing ! $ move ! (3 ∷ 0 ∷ []) $ fjoin ! $ move ! (2 ∷ 0 ∷ []) $ fjoin ! $ move ! (1 ∷ 0 ∷ []) $
        frame ! $ frame ! $ owned ! (R k) (Is (R k)) (makes k 𝓛) elem _ g $ done !

    module _ (C : Calls 𝓤 H) (Λ : Loops 𝓤 H) where
      walk : Room (R k) (length ys) → i < 2 ^ 64 → i < length ys → ent 𝓤 (on_entry 𝓛 signature (κ, tt) (q, tt) x at)
          (WpFn 𝓤 H C Λ function (slice_val (b, o) (length ys) ∷ vint w64 i ∷ []) Post)
      walk gn gi l =
          qed 𝓛 ((‵ (flft κ q) ⊛ ‵ ftrue) ∷ ‵ (owns (ShrSlice (named 0) κ (R k) ∷ usize ∷ []) x at) ∷ []) ∵ enter ! C Λ function (slice_val (b, o) (length ys) ∷ vint w64 i ∷ []) _ $
          alloc1 ! (λ l₀. alloc1 ! (λ l₁. alloc1 ! (λ l₂. alloc1 ! (λ l₃. alloc1 ! (λ l₄. alloc1 ! (λ l₅. alloc0 ! $ params1 ! $
          pass1 ! (init ! 8 refl (tt, (tt, (record { fits = gn.0 }, tt)))) $ pass1 ! (init ! 6 refl (tt, record { fits = gi })) $ pass0 ! $
          assigns ! (bin ! (load ! (from ! (stop !)) (look ! 6 refl)) (lit ! k.small) (record { fits = offset_fits k i (length ys) l gn })) (from ! (stop !)) (init ! 4 refl (tt, record { fits = offset_fits k i (length ys) l gn })) $
          assigns ! (bin ! (load ! (from ! (fld ! refl (stop !))) (look_in ! 8 (sub ! 0 refl (whole !)))) (load ! (from ! (stop !)) (look ! 4 refl)) tt) (from ! (stop !)) (init ! 2 refl (tt, tt)) $
          rewrite ! 2 (λ (p : ℕ). ‵ (fat full_share ty_ptr l₄ 0 (vptr b p))) (sym (place_is (size (by_val k)) o i)) refl $
          move ! (13 ∷ []) $ fsplit ! $ fsplit ! $ move ! (1 ∷ []) $ move ! (15 ∷ []) $ split ! $ move ! (2 ∷ 0 ∷ []) $
          looks_slice ! tt (R k) (copied k 𝓛) ys b o (λ q'.
          elem_out ! (R k) (Is (R k)) (shows 𝓛 (R k)) (vals k) (tells k) q' ys i d b o l (λ g.
          -- [rows[i]; what it owns; the others; what shuts; the fractured borrow; true; rows's fact; i's; _5; …; _4; …; _3; …; _2; …; _1; …; _0; …]
          assigns ! (of_opd ! (load ! (from ! (hop ! (look ! 10 refl) (stop !))) (look_raw ! 0 refl))) (from ! (stop !)) (init ! 8 refl ((lawful k 𝓛).typed elem _ g).0) $
          assigns ! (of_opd ! (load ! (from ! (stop !)) (look ! 8 refl))) (from ! (stop !)) (init ! 18 refl ((lawful k 𝓛).typed elem _ g).0) $
          elem_back ! (R k) q' ys i d (mach ∷ []) b o l $ shuts_slice ! tt (R k) q' ys b o $
          returns ! (look ! 15 refl) $ forget ! 5 refl $ forget ! 7 refl $ forget ! 9 refl $ forget ! 11 refl $ forget ! 13 refl $ forget ! 15 refl $
          move ! (15 ∷ 16 ∷ []) $ free1 ! $ move ! (13 ∷ 14 ∷ []) $ free1 ! $ move ! (11 ∷ 12 ∷ []) $ free1 ! $ move ! (9 ∷ 10 ∷ []) $ free1 ! $ move ! (7 ∷ 8 ∷ []) $ free1 ! $ move ! (5 ∷ 6 ∷ []) $ free1 ! $ free0 ! $
          move ! (3 ∷ 1 ∷ []) $ fjoin ! $ move ! (3 ∷ []) $ fsplit ! $ keep ! (3 ∷ 2 ∷ 0 ∷ []) $ by ! (exits g)))))))))

  module _ {M : Type 1} {𝓤 : Ura M} (𝓛 : Logic 𝓤) where
    open 𝓛 use {H}

    walks : (C : Calls 𝓤 H) (Λ : Loops 𝓤 H) → Walks 𝓛 ended stayed (WpFn 𝓤 H C Λ function) (clauses 𝓤)
    walks C Λ = walked 𝓛 ended stayed (clauses 𝓤) (WpFn 𝓤 H C Λ function) (λ κs. (shr_slice_vals, (uint_vals w64, tt))) (λ κs. (shr_slice_Tells (named 0) κs.0 (R k), (uint_Tells w64, tt)))
        (λ κs qs bounds a g are. needs 𝓤 (a.1.0 < length a.0.now) _
        (walk 𝓛 κs.0 qs.0 a.0.ref_ptr.0 a.0.ref_ptr.1 0 a.0.now a.1.0 C Λ are.0.0.1 are.1.0.1))

    meets_it : (𝓣 : Tables 𝓤 H) → Meets 𝓛 signature (WpFn 𝓤 H 𝓣.C 𝓣.Λ function) (closing 𝓛 ended (clauses 𝓤))
    meets_it 𝓣 = walk_Meets 𝓛 ended stayed (Goes-none_slice 𝓛 1 (0 ∷ []) tt (plain (λ _. R k)) yes, (Goes-none 𝓛 1 (λ _. usize) yes (λ κs x f. refl), tt)) (clauses 𝓤) (WpFn 𝓤 H 𝓣.C 𝓣.Λ function) (WpFn-mono 𝓤 H 𝓛.laws 𝓣 function) (walks 𝓣.C 𝓣.Λ)

    -- at the `ensures` E of a function
    pub row_at_meets : (E : Ensures 𝓤 ended (Asks 𝓤)) → Tells 𝓤 ended (Asks 𝓤) Says E → (𝓣 : Tables 𝓤 H)
        → Meets 𝓛 signature (WpFn 𝓤 H 𝓣.C 𝓣.Λ function) (closing 𝓛 ended (asking 𝓤 ended (Asks 𝓤) E))
    row_at_meets E h 𝓣 = says_so 𝓤 ended (Asks 𝓤) Says 𝓛 E h (WpFn 𝓤 H 𝓣.C 𝓣.Λ function) (WpFn-mono 𝓤 H 𝓛.laws 𝓣 function) (meets_it 𝓣)
