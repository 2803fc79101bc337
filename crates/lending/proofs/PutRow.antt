-- A row is put into a lent slice at an index, if a flag says so: a walk by hand of the MIR, for every kind of row. In one arm of the branch the slice is opened, the row is stored at its
-- place, and the slice is closed; the other arm leaves it.
-- Assumes nothing.
use types.Logic.{Logic}
use denote.Slice.{mut_slice_vals, mut_slice_at}
use denote.Ref.{MutBor}
use mathlib.Core.Path.{◌≡◌, refl, sym, ap, subst}
use Prim.Native.Nat.{ℕ, ◌*◌, ◌<◌, ◌^◌}
use mathlib.Core.Bool.{Bool, true, cond as if}
use mathlib.Core.List.{List, [], ◌∷◌}
use lib.ListN.{length, set, length-set}
use Rattle.lending.proofs.Walk.{Ura, full_share, Fn, Local, Body, named, mut, w64, ty_int, ty_bool, ty_ptr, ty_unit, ty_ref, local, value_local, skip, seq, assign, cond, return, place, field, deref, copy, int, opd_unit, rv_opd, op2, mul, unsigned, offset, Val, vunit, vbool, vint, vptr, SProp, ent, Lft, GName, Share, Fml, ftrue, flft, size, Env, Calls, Loops, Out, after_seq, at_return, Wp, WpFn, Tables, fact, Lfts, Item, ‵, ◌⊛◌, ⋆, runs, any_q, at_ret, Sq, ◌$◌, ◌∵◌, !, qed, by, move, drop, split, join, rewrite, fsplit, fjoin, feq_i, suffices, frame, done, whole, sub, store_raw, stop, hop, fld, from, load, lit, unit_lit, of_opd, bin, assigns, assigns_last, first, skips, branches, enter, params1, pass1, pass0, exec, WpFn-mono, owns, Is, shows, Nothing, Boolean, uint_vals, uint_Tells, bool_vals, bool_Tells, usize, SliceRefMutOf, slice_ty, slice_val, MutSlice, Room, mut_slice_Tells, pure_l, pure_i, place_is, elem_out, elem_put, opens_slice, closes_slice, Signature, plain, nothing, owned, Ended, Clauses, AtExit, closing, Args, Res, on_entry, Meets, says, needs, Stays, stay_slice, stay_dropped, walk_of, Goes-slice, Goes-dropped, ends_at, walked, walk_Meets, yes}
use types.Run.{returns}
use denote.Triple.Walked.{Walks}
use Rattle.lending.proofs.Arms.{is_true, is_false}
use Rattle.lending.proofs.Says.{Ensures, asking, saying, Tells, says_so}
use Rattle.lending.proofs.Kind.{Kind, R, by_val, ref, val, vals, tells, offset_fits, bound, silent, makes, lawful}
use Rattle.lending.proofs.Locals.{Slot, free, has, Blocks, env_of, Locals, inside, sets, frees_all, allocates}

module _ (k : Kind) where
  abbrev Row : Type 0
  Row = k.type.D

  -- the rows after it
  abbrev left : (put : Bool) (at : ℕ) → Row → List Row → List Row
  left put at row rows = if put (set rows at row) rows

  -- ---- the signature, the contract and the code, for a kind of row
  abbrev signature : Signature
  signature = record { lifetimes = 1; outlives = []; params = SliceRefMutOf (0 ∷ []) tt (plain (λ _. R k)) (λ _. tt) ∷ plain (λ _. Boolean) ∷ plain (λ _. usize) ∷ plain (λ _. R k) ∷ []; result = plain (λ _. Nothing) }

  abbrev ended : Ended
  ended = record { signature = signature; kept = (yes, (yes, (yes, (yes, tt)))) }

  abbrev Asks : {M : Type 1} (𝓤 : Ura M) (κs : Lfts 1) → Args signature κs → SProp 𝓤
  Asks 𝓤 κs a = fact 𝓤 (a.1.0 ≡ true → a.1.1.0 < length a.0.now)

  abbrev Says : (κs : Lfts 1) → Args signature κs → Res signature κs → AtExit ended κs → Type 0
  Says κs a r e = e.0.now ≡ left a.1.0 a.1.1.0 a.1.1.1.0 a.0.now

  abbrev clauses : {M : Type 1} (𝓤 : Ura M) → Clauses 𝓤 ended
  clauses 𝓤 = saying 𝓤 ended (Asks 𝓤) Says

  abbrev puts : Body
  puts = seq (assign (place 6 []) (op2 (mul unsigned) (copy (place 3 [])) (int w64 (size (by_val k))))) (seq (assign (place 7 []) (op2 offset (copy (place 1 (field 0 ∷ []))) (copy (place 6 [])))) (assign (place 7 (deref (by_val k) ∷ [])) (rv_opd (copy (place 4 [])))))

  abbrev t_3 : Body
  t_3 = seq (assign (place 0 []) (rv_opd opd_unit)) return

  abbrev t_1 : Body
  t_1 = seq (assign (place 5 []) (rv_opd (copy (place 2 [])))) (seq (cond (copy (place 5 [])) puts skip) t_3)

  abbrev locals : List Local
  locals = local ty_unit value_local ∷ local (slice_ty (ty_ref (named 0) mut (ref k))) value_local ∷ local ty_bool value_local ∷ local (ty_int w64) value_local ∷ local (by_val k) value_local ∷ local ty_bool value_local ∷ local (ty_int w64) value_local ∷ local ty_ptr value_local ∷ []

  abbrev function : Fn
  function = record { lifetimes = 1; outlives = []; ty_params = []; givens = 0; params = 4; body = t_1; locals = locals }

  abbrev stayed : Stays ended.signature.params ended.kept
  stayed = (stay_slice (0 ∷ []) tt (plain (λ _. R k)), (stay_dropped (plain (λ _. Boolean)) yes, (stay_dropped (plain (λ _. usize)) yes, (stay_dropped (plain (λ _. R k)) yes, tt))))

  module _ {M : Type 1} {𝓤 : Ura M} (𝓛 : Logic 𝓤) (κ : Lft) (q : Share) (b o : ℕ) (γ : GName) (ys : List Row) (y : Bool) (i : ℕ) (r : Row)
      (room : Room (R k) (length ys)) (i-fits : i < 2 ^ 64) (r-is : Is (R k) r (val k r ∷ [])) (fits : y ≡ true → i < length ys) where
    -- the slice at the list l
    open 𝓛 use {H}

    abbrev x : List Row → MutBor (List Row)
    x l = record { ref_ptr = (b, o); ghost_name = γ; now = l }

    abbrev a : MutBor (List Row) × (Bool × (ℕ × (Row × Unit {0})))
    a = (x ys, (y, (i, (r, tt))))

    -- the machine values
    abbrev s : Val
    s = slice_val (b, o) (length ys)

    abbrev at : List Val × (List Val × (List Val × (List Val × Unit {0})))
    at = (s ∷ [], (vbool y ∷ [], (vint w64 i ∷ [], (val k r ∷ [], tt))))

    abbrev Post : Val → SProp 𝓤
    Post = (walk_of 𝓛 ended stayed (clauses 𝓤)).post (((κ, tt), (q, tt), tt, a, at), tt)

    abbrev Own : List Row → Fml
    Own l = (MutSlice (named 0) κ (R k)).own_val (x l) (s ∷ [])

    -- at exit: the slice at zs, with the token
    exits : (zs : List Row) → length zs ≡ length ys → zs ≡ left y i r ys → ent 𝓤 (⋆ 𝓛 (‵ (Own zs) ∷ ‵ (flft κ q) ∷ [])) (Post vunit)
    exits zs len ez =
        qed 𝓛 (‵ (Own zs) ∷ ‵ (flft κ q) ∷ []) ∵
        suffices ! _ (ends_at 𝓛 ended stayed (clauses 𝓤) (((κ, tt), (q, tt), tt, a, at), tt) vunit tt (zs, (tt, (tt, (bound k r, tt)))) (len, (tt, (tt, (tt, tt))))) $
        says ! ez $ nothing ! $ move ! (2 ∷ 0 ∷ []) $ join ! $ frame ! $
        nothing ! $ nothing ! $ fjoin ! $ nothing ! $ fjoin ! $ nothing ! $ fjoin ! $ move ! (1 ∷ 0 ∷ []) $ fjoin ! $ frame ! $
        feq_i ! (List Val) (vunit ∷ []) (vunit ∷ []) refl $ done !

    module _ (C : Calls 𝓤 H) (Λ : Loops 𝓤 H) (bs : Blocks 𝓤 H locals) where
      abbrev En : Env 𝓤 H
      En = env_of 𝓤 H locals bs

      abbrev Params : List Slot → Item 𝓤
      Params ss = Locals H En (free ∷ has s ∷ has (vbool y) ∷ has (vint w64 i) ∷ has (val k r) ∷ has (vbool y) ∷ ss)

      abbrev Rest : Out → SProp 𝓤
      Rest = after_seq 𝓤 H (Wp 𝓤 H C Λ En t_3 (at_return 𝓤 H En Post)) (at_return 𝓤 H En Post)

      -- what follows the branch
      tail : (zs : List Row) {ss : List Slot} → length zs ≡ length ys → zs ≡ left y i r ys → Sq 𝓛 (Params ss ∷ ‵ (Own zs) ∷ ‵ (flft κ q) ∷ []) (runs C Λ En t_3 (at_ret En Post))
      tail zs len ez = assigns ! (of_opd ! (unit_lit !)) (from ! (stop !)) (sets ! 0 refl (tt, tt)) $ returns ! (inside ! 0 0 refl refl refl (whole !)) $ frees_all ! $ by ! (exits zs len ez)

      stores : y ≡ true → Sq 𝓛 (Params [] ∷ ‵ (Own ys) ∷ ‵ (flft κ q) ∷ []) (runs C Λ En puts (any_q Rest))
      stores yes =
          assigns ! (bin ! (load ! (from ! (stop !)) (inside ! 0 3 refl refl refl (whole !))) (lit ! k.small) (record { fits = place_fits })) (from ! (stop !)) (sets ! 6 refl (tt, record { fits = place_fits })) $
          assigns ! (bin ! (load ! (from ! (fld ! refl (stop !))) (inside ! 0 1 refl refl refl (sub ! 0 refl (whole !)))) (load ! (from ! (stop !)) (inside ! 0 6 refl refl refl (whole !))) tt) (from ! (stop !)) (sets ! 7 refl (tt, tt)) $
          rewrite ! 0 (λ (p : ℕ). Params (has (vint w64 (i * size (by_val k))) ∷ has (vptr b p) ∷ [])) (sym (place_is (size (by_val k)) o i)) refl $
          move ! (1 ∷ 2 ∷ []) $ fsplit ! $ pure_l ! (mut_slice_at (R k) (x ys) (s ∷ [])) (λ p. fsplit ! $ opens_slice ! tt (R k) ys b o $
          elem_out ! (R k) (Is (R k)) (shows 𝓛 (R k)) (vals k) (tells k) full_share ys i r b o less (λ _.
          -- [rows[at]; what it owns; the others; …; …; …; the locals at 6]
          assigns_last ! (of_opd ! (load ! (from ! (stop !)) (inside ! 6 4 refl refl refl (whole !)))) (from ! (hop ! (inside ! 6 7 refl refl refl (whole !)) (stop !))) (store_raw ! 0 refl ((lawful k 𝓛).typed r _ r-is).0) $
          exec ! C Λ En t_3 (at_ret En Post) $
          move ! (1 ∷ []) $ drop ! $ owned ! (R k) (Is (R k)) (makes k 𝓛) r _ r-is $ move ! (1 ∷ 0 ∷ []) $ elem_put ! (R k) full_share ys i r (val k r ∷ []) b o less $
          closes_slice ! tt (R k) ys zs len b o $
          fjoin ! $ pure_i ! (mut_slice_at (R k) (x zs) (s ∷ [])) (tt, (tt, tt)) (ap (λ (m : ℕ). slice_val (b, o) m ∷ []) (sym len), subst (Room (R k)) (sym len) room) $ fjoin ! $
          -- [what rows owns; the token; the locals]
          move ! (2 ∷ 0 ∷ 1 ∷ []) $ tail zs len (rw yes)))
        where
          less : i < length ys
          less = fits yes

          zs : List Row
          zs = set ys i r

          len : length zs ≡ length ys
          len = length-set ys i r

          place_fits : i * size (by_val k) < 2 ^ 64
          place_fits = offset_fits k i (length ys) less room

    walk : (C : Calls 𝓤 H) (Λ : Loops 𝓤 H) → ent 𝓤 (on_entry 𝓛 signature (κ, tt) (q, tt) a at) (WpFn 𝓤 H C Λ function (s ∷ vbool y ∷ vint w64 i ∷ val k r ∷ []) Post)
    walk C Λ =
        qed 𝓛 ((‵ (flft κ q) ⊛ ‵ ftrue) ∷ ‵ (owns (MutSlice (named 0) κ (R k) ∷ Boolean ∷ usize ∷ R k ∷ []) a at) ∷ []) ∵ enter ! C Λ function (s ∷ vbool y ∷ vint w64 i ∷ val k r ∷ []) _ $
        allocates ! (λ bs. params1 ! $
        pass1 ! (sets ! 1 refl (tt, (tt, (record { fits = room.0 }, tt)))) $ pass1 ! (sets ! 2 refl (tt, tt)) $ pass1 ! (sets ! 3 refl (tt, record { fits = i-fits })) $
        pass1 ! (sets ! 4 refl ((lawful k 𝓛).typed r _ r-is).0) $ pass0 ! $
        -- [the locals; the token; what the parameters own]
        move ! (2 ∷ []) $ fsplit ! $ move ! (1 ∷ []) $ drop ! $ move ! (2 ∷ []) $ split ! $ move ! (1 ∷ []) $ drop ! $ move ! (2 ∷ 1 ∷ 0 ∷ []) $
        assigns ! (of_opd ! (load ! (from ! (stop !)) (inside ! 0 2 refl refl refl (whole !)))) (from ! (stop !)) (sets ! 5 refl (tt, tt)) $
        first ! $ branches ! (load ! (from ! (stop !)) (inside ! 0 5 refl refl refl (whole !)))
        (λ held. stores C Λ bs (is_true y held))
        (λ failed. skips ! $ exec ! C Λ (En C Λ bs) t_3 (at_ret (En C Λ bs) Post) $ tail C Λ bs ys refl (rw (is_false y failed))))

  module _ {M : Type 1} {𝓤 : Ura M} (𝓛 : Logic 𝓤) where
    open 𝓛 use {H}

    walks : (C : Calls 𝓤 H) (Λ : Loops 𝓤 H) → Walks 𝓛 ended stayed (WpFn 𝓤 H C Λ function) (clauses 𝓤)
    walks C Λ = walked 𝓛 ended stayed (clauses 𝓤) (WpFn 𝓤 H C Λ function) (λ κs. (mut_slice_vals, (bool_vals, (uint_vals w64, (vals k, tt)))))
        (λ κs. (mut_slice_Tells (named 0) κs.0 (R k), (bool_Tells, (uint_Tells w64, (tells k, tt)))))
        (λ κs qs bounds a g are. needs 𝓤 (a.1.0 ≡ true → a.1.1.0 < length a.0.now) _ (λ fits.
        walk 𝓛 κs.0 qs.0 a.0.ref_ptr.0 a.0.ref_ptr.1 a.0.ghost_name a.0.now a.1.0 a.1.1.0 a.1.1.1.0 are.0.0.1 are.1.1.0.1 are.1.1.1.0 fits C Λ))

    meets_it : (𝓣 : Tables 𝓤 H) → Meets 𝓛 signature (WpFn 𝓤 H 𝓣.C 𝓣.Λ function) (closing 𝓛 ended (clauses 𝓤))
    meets_it 𝓣 =
        walk_Meets 𝓛 ended stayed
        (Goes-slice 𝓛 1 0 tt (plain (λ _. R k)), (Goes-dropped 𝓛 1 (plain (λ _. Boolean)) yes (λ κs x f. refl), (Goes-dropped 𝓛 1 (plain (λ _. usize)) yes (λ κs x f. refl), (Goes-dropped 𝓛 1 (plain (λ _. R k)) yes (λ κs. silent k), tt))))
        (clauses 𝓤) (WpFn 𝓤 H 𝓣.C 𝓣.Λ function) (WpFn-mono 𝓤 H 𝓛.laws 𝓣 function) (walks 𝓣.C 𝓣.Λ)

    -- at the `ensures` E of a function
    pub put_row_meets : (E : Ensures 𝓤 ended (Asks 𝓤)) → Tells 𝓤 ended (Asks 𝓤) Says E → (𝓣 : Tables 𝓤 H)
        → Meets 𝓛 signature (WpFn 𝓤 H 𝓣.C 𝓣.Λ function) (closing 𝓛 ended (asking 𝓤 ended (Asks 𝓤) E))
    put_row_meets E h 𝓣 = says_so 𝓤 ended (Asks 𝓤) Says 𝓛 E h (WpFn 𝓤 H 𝓣.C 𝓣.Λ function) (WpFn-mono 𝓤 H 𝓛.laws 𝓣 function) (meets_it 𝓣)
