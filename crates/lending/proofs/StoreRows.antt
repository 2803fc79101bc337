-- The rows of a table are stored over those of a lent slice, as many as there are: a walk by hand of the MIR of the loop, for every kind of row and of table and every count N of a table's rows. The table's rows are a local array (`LocalRows.antt`), and the slice is open throughout the loop: a turn reads a row of the one and writes it over a row of the other.
--     Whole            how many rows may be lent, at most N
--     Said             what the contract says of the lent rows, before and after, and the table's: it holds where those after are the first of the table's
--     Upto             the loop's state: how many rows are stored, the rows, and the facts of both
--     more, writes     a turn that stores one row: it is read, and written
--     ends, closes     the turn that leaves the loop, and the rest of the body
-- Assumes nothing.
use types.Logic.{Logic}
use denote.Slice.{mut_slice_vals, mut_slice_at}
use denote.Ref.{MutBor}
use mathlib.Core.Path.{◌≡◌, refl, sym, ◌∙◌, ap, subst}
use Prim.Native.Nat.{ℕ, ◌+◌, ◌-◌, ◌*◌, ◌≤◌, ◌<◌, ◌^◌, zero-le}
use native.Mathlib.Nat.{lt_of_le_of_lt, lt_of_lt_of_le}
use native.Mathlib.Numerals.{add-one-le, add-one-dec}
use mathlib.Core.WellFounded.InvImage
use mathlib.Core.WellFounded.{WellFounded}
use mathlib.Core.Bool.{Bool, true, false, not}
use mathlib.Core.List.{List, [], ◌∷◌, ◌++◌}
use lib.ListN.{length, get_or, set, take, drop as dropped, length-set}
use lib.WfN.{lt-wf_rel}
use lib.Dec.{T, ltb, ltb→lt, nltb→le, lit<}
use Rattle.lending.proofs.Walk.{Ura, full_share, Name, Ty, Fn, Body, named, mut, w64, ty_int, ty_bool, ty_ptr, ty_unit, ty_ref, local, value_local, memory_slot, skip, seq, assign, block, loop, cond, exit, return, call, place, field, deref, copy, int, opd_unit, rv_opd, op2, lt, add, mul, unsigned, offset, addr_of, Val, vunit, vbool, vint, vptr, SProp, ent, emp, id⊢, ex_e, snd∗, Lft, GName, Share, Fml, ftrue, fat, froom, fdies, flft, fobs, fauth, fobor, size, Out, Env, after_seq, after_block, after_turn, Calls, Loops, Wp, at_return, WpFn, Tables, sem, fact, Lfts, Item, ‵, raw, ◌⊛◌, some, later, ⋆, runs, any_q, at_ret, Sq, ◌$◌, ◌∵◌, !, qed, by, move, keep, drop, use0, use1, use2, split, join, pick, await, rewrite, fsplit, fjoin, feq_i, suffices, frame, done, whole, sub, look_in, look, look_raw, store, store_raw, init, forget, stop, hop, fld, from, load, lit, unit_lit, no_more, and_then, of_opd, bin, addr, assigns, assigns_last, land, first, blocks, stays, leaves_loop, enter, alloc1, alloc0, params1, pass1, pass0, free1, free0, exec, Below, again, loops, FmC, fm_of, WpFn-mono, owns, Is, shows, Nothing, SliceRefMutOf, ArrayOf, slice_ty, slice_val, MutSlice, heres, Room, coded_holeys, mut_slice_Tells, pure_l, pure_i, Held, place_is, elem_out, elem_back, elem_put, opens_slice, closes_slice, Signature, plain, nothing, owned, peeks, heard, calls_at, Ended, Clauses, AtExit, closing, ensured, lasts, Args, Res, on_entry, Meets, triple_of, Contract, Triple, says, needs, Stays, stay_slice, stay_none, walk_of, Goes-slice, Goes-none, ends_at, walked, walk_Meets, yes}
use types.Run.{returns}
use denote.Index.{row}
use denote.Triple.Walked.{Walks}
use Rattle.lending.proofs.Says.{Ensures, asking, saying, Tells, says_so}
use Rattle.lending.proofs.Kind.{Kind, R, by_val, ref, val, vals, tells, offset_fits, bound, silent, makes, lawful}
use Rattle.lending.proofs.LocalRows.{Rows, by_vals, rows_val, rows_val_is, rows_long, rows_makes, rows_lawful, rows_apart, rows_whole}
use Rattle.lending.proofs.Written.{written, all_over}

module _ (k : Kind) (d : k.type.D) (t : Kind) (rows : t.type.D → List k.type.D) (N : ℕ) (Whole : ℕ → Type 0) (most : (n : ℕ) → Whole n → n ≤ N) (Said : (before after : List k.type.D) → t.type.D → Type 0)
    (meant : (ys zs : List k.type.D) (tab : t.type.D) → Whole (length ys) → length (rows tab) ≡ N → zs ≡ take (length ys) (rows tab) → Said ys zs tab) (#rows-of : Name) where
  abbrev Row : Type 0
  Row = k.type.D

  abbrev Table : Type 0
  Table = t.type.D

  -- ---- the signature, the contract and the code, for a kind of row and of table
  abbrev signature : Signature
  signature = record { lifetimes = 1; outlives = []; params = SliceRefMutOf (0 ∷ []) tt (plain (λ _. R k)) (λ _. tt) ∷ plain (λ _. R t) ∷ []; result = plain (λ _. Nothing) }

  abbrev ended : Ended
  ended = record { signature = signature; kept = (yes, (yes, tt)) }

  abbrev Asks : {M : Type 1} (𝓤 : Ura M) (κs : Lfts 1) → Args signature κs → SProp 𝓤
  Asks 𝓤 κs a = fact 𝓤 (Whole (length a.0.now))

  abbrev Says : (κs : Lfts 1) → Args signature κs → Res signature κs → AtExit ended κs → Type 0
  Says κs a r e = Said a.0.now e.0.now a.1.0

  abbrev clauses : {M : Type 1} (𝓤 : Ura M) → Clauses 𝓤 ended
  clauses 𝓤 = saying 𝓤 ended (Asks 𝓤) Says

  -- and of the covered function that it calls
  abbrev rows_of_ended : Ended
  rows_of_ended = record { signature = record { lifetimes = 0; outlives = []; params = plain (λ _. R t) ∷ []; result = ArrayOf (plain (λ _. R k)) (λ _. tt) N }; kept = (yes, tt) }

  abbrev rows_of_clauses : {M : Type 1} (𝓤 : Ura M) → Clauses 𝓤 rows_of_ended
  rows_of_clauses 𝓤 κs a = record { ghost = Unit {0}; requires = λ g. emp 𝓤; ensures = λ g r e. fact 𝓤 (r ≡ rows a.0) }

  abbrev write : Body
  write = seq (assign (place 11 []) (op2 (mul unsigned) (copy (place 4 [])) (int w64 (size (by_val k))))) (seq (assign (place 12 []) (op2 offset (copy (place 1 (field 0 ∷ []))) (copy (place 11 []))))
      (seq (assign (place 12 (deref (by_val k) ∷ [])) (rv_opd (copy (place 10 [])))) (assign (place 4 []) (op2 (add unsigned) (copy (place 4 [])) (int w64 1)))))

  abbrev turn : Body
  turn = seq (assign (place 6 []) (rv_opd (copy (place 1 (field 1 ∷ []))))) (seq (assign (place 7 []) (op2 (lt unsigned) (copy (place 4 [])) (copy (place 6 [])))) (seq (cond (copy (place 7 [])) skip (exit 1))
      (seq (assign (place 6 []) (op2 (mul unsigned) (copy (place 4 [])) (int w64 (size (by_val k))))) (seq (assign (place 8 []) (addr_of (place 3 []))) (seq (assign (place 9 []) (op2 offset (copy (place 8 [])) (copy (place 6 []))))
      (seq (assign (place 10 []) (rv_opd (copy (place 9 (deref (by_val k) ∷ []))))) write))))))

  abbrev t_3 : Body
  t_3 = seq (assign (place 0 []) (rv_opd opd_unit)) return

  abbrev t_2 : Body
  t_2 = seq (assign (place 3 []) (rv_opd (copy (place 5 [])))) (seq (assign (place 4 []) (rv_opd (int w64 0))) (seq (block (loop turn)) t_3))

  abbrev function : Fn
  function = record {
    lifetimes = 1;
    outlives = [];
    ty_params = [];
    givens = 0;
    params = 2;
    body = seq (call #rows-of (copy (place 2 []) ∷ []) (place 5 [])) t_2;
    locals = local ty_unit value_local ∷ local (slice_ty (ty_ref (named 0) mut (ref k))) value_local ∷ local (by_val t) value_local ∷ local (by_vals k N) memory_slot ∷ local (ty_int w64) value_local ∷ local (by_vals k N) value_local ∷ local (ty_int w64) value_local
        ∷ local ty_bool value_local ∷ local ty_ptr value_local ∷ local ty_ptr value_local ∷ local (by_val k) value_local ∷ local (ty_int w64) value_local ∷ local ty_ptr value_local ∷ [];
  }

  abbrev stayed : Stays ended.signature.params ended.kept
  stayed = (stay_slice (0 ∷ []) tt (plain (λ _. R k)), (stay_none (λ _. R t) yes, tt))

  module _ {M : Type 1} {𝓤 : Ura M} (𝓛 : Logic 𝓤) where
    -- the contract that the proof cites
    abbrev RowsOf : Contract 𝓤
    RowsOf = triple_of 𝓛 rows_of_ended.signature (closing 𝓛 rows_of_ended (rows_of_clauses 𝓤))

  module _ {M : Type 1} {𝓤 : Ura M} (𝓛 : Logic 𝓤) (κ : Lft) (q : Share) (b o : ℕ) (γ : GName) (ys : List Row) (tab : Table)
      (room : Room (R k) (length ys)) (t-is : Is (R t) tab (vals t tab)) (ny : Whole (length ys)) where
    -- the slice at the list l
    open 𝓛 use {H}

    abbrev x : List Row → MutBor (List Row)
    x l = record { ref_ptr = (b, o); ghost_name = γ; now = l }

    abbrev Arg : Type 0
    Arg = MutBor (List Row) × (Table × Unit {0})

    abbrev a : Arg
    a = (x ys, (tab, tt))

    -- the machine values
    abbrev s : Val
    s = slice_val (b, o) (length ys)

    abbrev tm : Val
    tm = val t tab

    abbrev at : List Val × (List Val × Unit {0})
    at = (s ∷ [], (tm ∷ [], tt))

    abbrev Post : Val → SProp 𝓤
    Post = (walk_of 𝓛 ended stayed (clauses 𝓤)).post (((κ, tt), (q, tt), tt, a, at), tt)

    abbrev Own : List Row → Fml
    Own l = (MutSlice (named 0) κ (R k)).own_val (x l) (s ∷ [])

    -- at exit: the slice at zs, with the token
    exits : (zs : List Row) → length zs ≡ length ys → Said ys zs tab → ent 𝓤 (⋆ 𝓛 (‵ (Own zs) ∷ ‵ (flft κ q) ∷ [])) (Post vunit)
    exits zs len ez =
        qed 𝓛 (‵ (Own zs) ∷ ‵ (flft κ q) ∷ []) ∵
        suffices ! _ (ends_at 𝓛 ended stayed (clauses 𝓤) (((κ, tt), (q, tt), tt, a, at), tt) vunit tt (zs, (bound t tab, tt)) (len, (tt, tt))) $ says ! ez $
        nothing ! $ move ! (2 ∷ 0 ∷ []) $ join ! $ frame ! $
        nothing ! $ owned ! (R t) (Is (R t)) (makes t 𝓛) tab _ t-is $ fjoin ! $ move ! (1 ∷ 0 ∷ []) $ fjoin ! $ frame ! $
        feq_i ! (List Val) (vunit ∷ []) (vunit ∷ []) refl $ done !

    -- the call of `log_rows_of`
    abbrev to_rows_of : (RowsOf 𝓛).Ghost
    to_rows_of = ((tt, tt, tt, (tab, tt), (tm ∷ [], tt)), tt)

    goes_rows_of : ent 𝓤 (emp 𝓤) ((RowsOf 𝓛).pre to_rows_of)
    goes_rows_of = qed 𝓛 [] ∵ nothing ! $ owned ! (R t) (Is (R t)) (makes t 𝓛) tab _ t-is $ fjoin ! $ nothing ! $ join ! $ frame ! $ done !

    rows_said : (bs : List Row) → ent 𝓤 (ensured 𝓛 rows_of_ended (rows_of_clauses 𝓤) tt (tab, tt) tt bs) (fact 𝓤 (bs ≡ rows tab))
    rows_said bs = ex_e 𝓤 _ (λ ws. snd∗ 𝓤 (sem 𝓛 (lasts rows_of_ended tt (tab, tt) ws)) (fact 𝓤 (bs ≡ rows tab)))

    -- ---- the loop, over the table's rows bs
    module _ (𝓣 : Tables 𝓤 H) (bs : List Row) (eb : bs ≡ rows tab) (isb : Is (Rows k N) bs (rows_val k N bs ∷ [])) where
      nb : length bs ≡ N
      nb = rows_long k N bs _ isb

      abbrev Upto : Type 0
      Upto = (i : ℕ) × ((zs : List Row) × ((i ≤ length ys) × ((length zs ≡ length ys) × (zs ≡ take i bs ++ dropped i ys))))

      abbrev Nearer : Upto → Upto → Type 0
      Nearer y z = length ys - y.0 < length ys - z.0

      Nearer-wf : WellFounded Nearer
      Nearer-wf = InvImage.wf (λ (z : Upto). length ys - z.0) lt-wf_rel.wf

      place_fits : (i : ℕ) → i < length ys → i * size (by_val k) < 2 ^ 64
      place_fits i less = offset_fits k i (length ys) less room

      among : (i : ℕ) → i < length ys → i < length bs
      among i less = subst (λ (m : ℕ). i < m) (sym nb) (lt_of_lt_of_le less (most (length ys) ny))

      abbrev C : Calls 𝓤 H
      C = 𝓣.C

      abbrev Λ : Loops 𝓤 H
      Λ = 𝓣.Λ

      module _ (l₀ l₁ l₂ l₃ l₄ l₅ l₆ l₇ l₈ l₉ l₁₀ l₁₁ l₁₂ : ℕ) where
        abbrev arr : Ty
        arr = by_vals k N

        abbrev slice : Ty
        slice = slice_ty (ty_ref (named 0) mut (ref k))

        abbrev word : Ty
        word = ty_int w64

        abbrev En : Env 𝓤 H
        En = (ty_unit, l₀) ∷ (slice, l₁) ∷ (by_val t, l₂) ∷ (arr, l₃) ∷ (word, l₄) ∷ (arr, l₅) ∷ (word, l₆) ∷ (ty_bool, l₇) ∷ (ty_ptr, l₈) ∷ (ty_ptr, l₉) ∷ (by_val k, l₁₀) ∷ (word, l₁₁) ∷ (ty_ptr, l₁₂) ∷ []

        -- a local that has room, and one that holds a value, before the others
        abbrev free : Ty → ℕ → List (Item 𝓤) → List (Item 𝓤)
        free τ l Γ = ‵ (froom τ l 0) ∷ ‵ (fdies τ l) ∷ Γ

        abbrev cell : Ty → ℕ → Val → List (Item 𝓤) → List (Item 𝓤)
        cell τ l w Γ = ‵ (fat full_share τ l 0 w) ∷ ‵ (fdies τ l) ∷ Γ

        -- _2 at 20, _1 at 22, _0 at 24
        abbrev Params : List (Item 𝓤) → List (Item 𝓤)
        Params Γ = cell (by_val t) l₂ tm (cell slice l₁ s (free ty_unit l₀ Γ))

        -- the slice's rows, at 26, and what it is closed with
        abbrev Opened : List Row → List (Item 𝓤)
        Opened zs = ‵ (row (R k) full_share zs b o) ∷ ‵ (fobor κ q (Held (R k) (length ys) b o γ)) ∷ ‵ (fobs γ ((coded_holeys (R k)).code (heres (R k) ys))) ∷ ‵ (fauth γ ((coded_holeys (R k)).code (heres (R k) ys))) ∷ []

        -- _7 at 10, _6 at 12, _5 at 14, _4 at 16; the array's rows, side by side, at 18
        abbrev Mid : Upto → List (Item 𝓤)
        Mid z = free ty_bool l₇ (free word l₆ (free arr l₅ (cell word l₄ (vint w64 z.0) (‵ (row (R k) full_share bs l₃ 0) ∷ ‵ (fdies arr l₃) ∷ Params (Opened z.1.0)))))

        -- _12 at 0, _11 at 2, _10 at 4, _9 at 6, _8 at 8
        abbrev At : Upto → List (Item 𝓤)
        At z = free ty_ptr l₁₂ (free word l₁₁ (free (by_val k) l₁₀ (free ty_ptr l₉ (free ty_ptr l₈ (Mid z)))))

        -- once the row r is read
        abbrev Read-at : Upto → Row → List (Item 𝓤)
        Read-at z r = free ty_ptr l₁₂ (free word l₁₁ (cell (by_val k) l₁₀ (val k r) (free ty_ptr l₉ (free ty_ptr l₈ (Mid z)))))

        -- once the loop is left, with the slice closed and the array whole: _12 at 2, … _0 at 26
        abbrev Closed-at : Upto → List (Item 𝓤)
        Closed-at z = ‵ (Own z.1.0) ∷ ‵ (flft κ q) ∷ free ty_ptr l₁₂ (free word l₁₁ (free (by_val k) l₁₀ (free ty_ptr l₉ (free ty_ptr l₈ (cell ty_bool l₇ (vbool false) (cell word l₆ (vint w64 (length ys)) (free arr l₅ (cell word l₄ (vint w64 z.0) (cell arr l₃ (rows_val k N bs) (Params []))))))))))

        -- once `log_rows_of` has returned
        abbrev Held-at : List (Item 𝓤)
        Held-at = ‵ (Own ys) ∷ ‵ (flft κ q) ∷ free ty_ptr l₁₂ (free word l₁₁ (free (by_val k) l₁₀ (free ty_ptr l₉ (free ty_ptr l₈ (free ty_bool l₇ (free word l₆ (cell arr l₅ (rows_val k N bs) (free word l₄ (free arr l₃ (Params []))))))))))

        abbrev Turned : Upto → Out → SProp 𝓤
        Turned z = after_turn 𝓤 H (Below 𝓛 Nearer At z) (after_block 𝓤 H (after_seq 𝓤 H (Wp 𝓤 H C Λ En t_3 (at_return 𝓤 H En Post)) (at_return 𝓤 H En Post)))

        -- the row that was read is written over the slice's
        writes : (z : Upto) → Is (R k) (get_or bs z.0 d) (val k (get_or bs z.0 d) ∷ []) → z.0 < length ys → Sq 𝓛 (Read-at z (get_or bs z.0 d)) (runs C Λ En write (any_q (Turned z)))
        unfolding after_turn
        writes z isr less =
            assigns ! (bin ! (load ! (from ! (stop !)) (look ! 16 refl)) (lit ! k.small) (record { fits = place_fits i less })) (from ! (stop !)) (init ! 2 refl (tt, record { fits = place_fits i less })) $
            assigns ! (bin ! (load ! (from ! (fld ! refl (stop !))) (look_in ! 22 (sub ! 0 refl (whole !)))) (load ! (from ! (stop !)) (look ! 2 refl)) tt) (from ! (stop !)) (init ! 0 refl (tt, tt)) $
            rewrite ! 0 (λ (p : ℕ). ‵ (fat full_share ty_ptr l₁₂ 0 (vptr b p))) (sym (place_is (size (by_val k)) o i)) refl $
            move ! (26 ∷ []) $ elem_out ! (R k) (Is (R k)) (shows 𝓛 (R k)) (vals k) (tells k) full_share zs i d b o within (λ _.
            -- [rows[i]; what it owns; the others; _12 at 3; … _10 at 7; …]
            assigns ! (of_opd ! (load ! (from ! (stop !)) (look ! 7 refl))) (from ! (hop ! (look ! 3 refl) (stop !))) (store_raw ! 0 refl ((lawful k 𝓛).typed r _ isr).0) $
            move ! (1 ∷ []) $ drop ! $ owned ! (R k) (Is (R k)) (makes k 𝓛) r _ isr $ move ! (1 ∷ 0 ∷ []) $ elem_put ! (R k) full_share zs i r (val k r ∷ []) b o within $
            -- [the slice's rows; _12 at 1; … _4 at 17; …]
            assigns_last ! (bin ! (load ! (from ! (stop !)) (look ! 17 refl)) (lit ! tt) (record { fits = fits })) (from ! (stop !)) (store ! 17 refl (tt, record { fits = fits })) $
            forget ! 1 refl $ forget ! 3 refl $ forget ! 5 refl $
            keep ! (1 ∷ 2 ∷ 3 ∷ 4 ∷ 5 ∷ 6 ∷ 7 ∷ 8 ∷ 9 ∷ 10 ∷ 11 ∷ 12 ∷ 13 ∷ 14 ∷ 15 ∷ 16 ∷ 17 ∷ 18 ∷ 19 ∷ 20 ∷ 21 ∷ 22 ∷ 23 ∷ 24 ∷ 25 ∷ 26 ∷ 0 ∷ 27 ∷ 28 ∷ 29 ∷ []) $
            again ! Nearer At z (i + 1, (set zs i r, (add-one-le less, (length-set zs i r ∙ len, written bs ys zs i r d (among i less) less z.1.1.1.1 refl)))) (add-one-dec (length ys) i less))
          where
            i : ℕ
            i = z.0

            zs : List Row
            zs = z.1.0

            r : Row
            r = get_or bs i d

            len : length zs ≡ length ys
            len = z.1.1.1.0

            within : i < length zs
            within = subst (λ (m : ℕ). i < m) (sym len) less

            fits : i + 1 < 2 ^ 64
            fits = lt_of_le_of_lt (add-one-le less) room.0

        -- a turn that stores one row
        more : (z : Upto) → ltb z.0 (length ys) ≡ true → z.0 < length ys → Sq 𝓛 (At z) (runs C Λ En turn (any_q (Turned z)))
        more z e less =
            assigns ! (of_opd ! (load ! (from ! (fld ! refl (stop !))) (look_in ! 22 (sub ! 1 refl (whole !))))) (from ! (stop !)) (init ! 12 refl (tt, record { fits = room.0 })) $
            assigns ! (bin ! (load ! (from ! (stop !)) (look ! 16 refl)) (load ! (from ! (stop !)) (look ! 12 refl)) tt) (from ! (stop !)) (init ! 10 refl (tt, tt)) $
            rewrite ! 10 (λ (y : Bool). ‵ (fat full_share ty_bool l₇ 0 (vbool y))) e refl $ stays ! (load ! (from ! (stop !)) (look ! 10 refl)) $
            assigns ! (bin ! (load ! (from ! (stop !)) (look ! 16 refl)) (lit ! k.small) (record { fits = place_fits i less })) (from ! (stop !)) (store ! 12 refl (tt, record { fits = place_fits i less })) $
            assigns ! (addr ! (from ! (stop !))) (from ! (stop !)) (init ! 8 refl (tt, tt)) $
            assigns ! (bin ! (load ! (from ! (stop !)) (look ! 8 refl)) (load ! (from ! (stop !)) (look ! 12 refl)) tt) (from ! (stop !)) (init ! 6 refl (tt, tt)) $
            rewrite ! 6 (λ (p : ℕ). ‵ (fat full_share ty_ptr l₉ 0 (vptr l₃ p))) (sym (place_is (size (by_val k)) 0 i)) refl $
            move ! (18 ∷ []) $ elem_out ! (R k) (Is (R k)) (shows 𝓛 (R k)) (vals k) (tells k) full_share bs i d l₃ 0 within (λ isr.
            -- [held[i]; what it owns; the others; _12 at 3; … _10 at 7; _9 at 9; …]
            assigns ! (of_opd ! (load ! (from ! (hop ! (look ! 9 refl) (stop !))) (look_raw ! 0 refl))) (from ! (stop !)) (init ! 7 refl ((lawful k 𝓛).typed r _ isr).0) $
            elem_back ! (R k) full_share bs i d (val k r ∷ []) l₃ 0 within $
            -- [the array's rows; _12 at 1; …]
            forget ! 7 refl $ forget ! 9 refl $ forget ! 11 refl $ forget ! 13 refl $
            keep ! (1 ∷ 2 ∷ 3 ∷ 4 ∷ 5 ∷ 6 ∷ 7 ∷ 8 ∷ 9 ∷ 10 ∷ 11 ∷ 12 ∷ 13 ∷ 14 ∷ 15 ∷ 16 ∷ 17 ∷ 18 ∷ 0 ∷ 19 ∷ 20 ∷ 21 ∷ 22 ∷ 23 ∷ 24 ∷ 25 ∷ 26 ∷ 27 ∷ 28 ∷ 29 ∷ []) $
            writes z isr less)
          where
            i : ℕ
            i = z.0

            r : Row
            r = get_or bs i d

            within : i < length bs
            within = among i less

        -- the return
        closes : (z : Upto) → length ys ≤ z.0 → Sq 𝓛 (Closed-at z) (runs C Λ En t_3 (at_ret En Post))
        closes z over =
            assigns ! (of_opd ! (unit_lit !)) (from ! (stop !)) (init ! 26 refl (tt, tt)) $
            returns ! (look ! 26 refl) $ forget ! 12 refl $ forget ! 14 refl $ forget ! 18 refl $ forget ! 20 refl $ forget ! 22 refl $ forget ! 24 refl $ forget ! 26 refl $
            move ! (26 ∷ 27 ∷ []) $ free1 ! $ move ! (24 ∷ 25 ∷ []) $ free1 ! $ move ! (22 ∷ 23 ∷ []) $ free1 ! $ move ! (20 ∷ 21 ∷ []) $ free1 ! $ move ! (18 ∷ 19 ∷ []) $ free1 ! $ move ! (16 ∷ 17 ∷ []) $ free1 ! $ move ! (14 ∷ 15 ∷ []) $ free1 ! $
            move ! (12 ∷ 13 ∷ []) $ free1 ! $ move ! (10 ∷ 11 ∷ []) $ free1 ! $ move ! (8 ∷ 9 ∷ []) $ free1 ! $ move ! (6 ∷ 7 ∷ []) $ free1 ! $ move ! (4 ∷ 5 ∷ []) $ free1 ! $ move ! (2 ∷ 3 ∷ []) $ free1 ! $ free0 ! $
            by ! (exits z.1.0 z.1.1.1.0 (meant ys z.1.0 tab ny (ap length (sym eb) ∙ nb) (all_over bs ys z.1.0 z.0 z.1.1.0 over z.1.1.1.1 ∙ ap (take (length ys)) eb)))

        -- the turn that leaves the loop
        ends : (z : Upto) → ltb z.0 (length ys) ≡ false → length ys ≤ z.0 → Sq 𝓛 (At z) (runs C Λ En turn (any_q (Turned z)))
        unfolding after_turn
        ends z e over =
            assigns ! (of_opd ! (load ! (from ! (fld ! refl (stop !))) (look_in ! 22 (sub ! 1 refl (whole !))))) (from ! (stop !)) (init ! 12 refl (tt, record { fits = room.0 })) $
            assigns ! (bin ! (load ! (from ! (stop !)) (look ! 16 refl)) (load ! (from ! (stop !)) (look ! 12 refl)) tt) (from ! (stop !)) (init ! 10 refl (tt, tt)) $
            rewrite ! 10 (λ (y : Bool). ‵ (fat full_share ty_bool l₇ 0 (vbool y))) e refl $ leaves_loop ! (load ! (from ! (stop !)) (look ! 10 refl)) $ exec ! C Λ En t_3 (at_ret En Post) $
            move ! (18 ∷ []) $ use1 𝓛 (‵ (fat full_share arr l₃ 0 (rows_val k N bs)) ⊛ ‵ ((Rows k N).own_val bs (rows_val k N bs ∷ []))) (rows_whole k N 𝓛 bs l₃ nb) $ split ! $ move ! (1 ∷ []) $ drop ! $
            -- [the array; _12 at 1; … _4 at 17; …; the slice's rows at 26; …]
            move ! (26 ∷ 27 ∷ 28 ∷ 29 ∷ []) $ closes_slice ! tt (R k) ys zs len b o $
            fjoin ! $ pure_i ! (mut_slice_at (R k) (x zs) (s ∷ [])) (tt, (tt, tt)) (ap (λ (m : ℕ). slice_val (b, o) m ∷ []) (sym len), subst (Room (R k)) (sym len) room) $ fjoin ! $
            -- [what rows owns; the token; the array; _12 at 3; …]
            keep ! (0 ∷ 1 ∷ 3 ∷ 4 ∷ 5 ∷ 6 ∷ 7 ∷ 8 ∷ 9 ∷ 10 ∷ 11 ∷ 12 ∷ 13 ∷ 14 ∷ 15 ∷ 16 ∷ 17 ∷ 18 ∷ 19 ∷ 20 ∷ 2 ∷ 21 ∷ 22 ∷ 23 ∷ 24 ∷ 25 ∷ 26 ∷ 27 ∷ []) $ closes z over
          where
            zs : List Row
            zs = z.1.0

            len : length zs ≡ length ys
            len = z.1.1.1.0

        turns : (z : Upto) → Sq 𝓛 (At z) (runs C Λ En turn (any_q (Turned z)))
        turns z = on (ltb z.0 (length ys)) refl
          where
            on : (y : Bool) → ltb z.0 (length ys) ≡ y → Sq 𝓛 (At z) (runs C Λ En turn (any_q (Turned z)))
            on true e = more z e (ltb→lt z.0 (length ys) (subst T (sym e) tt))
            on false e = ends z e (nltb→le z.0 (length ys) (subst (λ (y : Bool). T (not y)) (sym e) tt))

        -- what follows the call of `log_rows_of`
        goes_on : Sq 𝓛 Held-at (runs C Λ En t_2 (at_ret En Post))
        goes_on =
            assigns ! (of_opd ! (load ! (from ! (stop !)) (look ! 16 refl))) (from ! (stop !)) (init ! 20 refl ((rows_lawful k N 𝓛).typed bs _ isb).0) $
            assigns ! (of_opd ! (lit ! tt)) (from ! (stop !)) (init ! 18 refl (tt, record { fits = lit< tt })) $ forget ! 16 refl $
            owned ! (Rows k N) (Is (Rows k N)) (rows_makes k N 𝓛) bs _ isb $ move ! (21 ∷ 0 ∷ []) $ use2 𝓛 (‵ (row (R k) full_share bs l₃ 0)) (rows_apart k N 𝓛 bs (rows_val k N bs) l₃) $
            move ! (1 ∷ 2 ∷ []) $ fsplit ! $ pure_l ! (mut_slice_at (R k) (x ys) (s ∷ [])) (λ p. fsplit ! $ opens_slice ! tt (R k) ys b o $
            -- [the slice's rows; …; …; …; the array's rows at 4; _12 at 5; … _4 at 21; …]
            keep ! (5 ∷ 6 ∷ 7 ∷ 8 ∷ 9 ∷ 10 ∷ 11 ∷ 12 ∷ 13 ∷ 14 ∷ 15 ∷ 16 ∷ 17 ∷ 18 ∷ 19 ∷ 20 ∷ 21 ∷ 22 ∷ 4 ∷ 23 ∷ 24 ∷ 25 ∷ 26 ∷ 27 ∷ 28 ∷ 29 ∷ 0 ∷ 1 ∷ 2 ∷ 3 ∷ []) $
            first ! $ blocks ! $ loops ! 𝓣 Nearer Nearer-wf At turns (0, (ys, (zero-le, (refl, refl)))))

    module _ (𝓣 : Tables 𝓤 H) (fm : FmC 𝓤 H 𝓛.laws 𝓣.C) (known-rows-of : Triple 𝓤 (𝓣.C #rows-of) (RowsOf 𝓛)) where
      walk : ent 𝓤 (on_entry 𝓛 signature (κ, tt) (q, tt) a at) (WpFn 𝓤 H 𝓣.C 𝓣.Λ function (s ∷ tm ∷ []) Post)
      walk =
          qed 𝓛 ((‵ (flft κ q) ⊛ ‵ ftrue) ∷ ‵ (owns (MutSlice (named 0) κ (R k) ∷ (R t) ∷ []) a at) ∷ []) ∵ enter ! 𝓣.C 𝓣.Λ function (s ∷ tm ∷ []) _ $
          alloc1 ! (λ l₀. alloc1 ! (λ l₁. alloc1 ! (λ l₂. alloc1 ! (λ l₃. alloc1 ! (λ l₄. alloc1 ! (λ l₅. alloc1 ! (λ l₆. alloc1 ! (λ l₇. alloc1 ! (λ l₈. alloc1 ! (λ l₉. alloc1 ! (λ l₁₀. alloc1 ! (λ l₁₁. alloc1 ! (λ l₁₂. alloc0 ! $ params1 ! $
          pass1 ! (init ! 22 refl (tt, (tt, (record { fits = room.0 }, tt)))) $ pass1 ! (init ! 20 refl ((lawful t 𝓛).typed tab _ t-is).0) $ pass0 ! $
          move ! (27 ∷ []) $ fsplit ! $ move ! (1 ∷ []) $ drop ! $ move ! (27 ∷ []) $ split ! $ move ! (1 ∷ []) $ drop ! $ move ! (1 ∷ 0 ∷ []) $
          -- [what rows owns; the token; _12 at 2; … _0 at 26]
          use0 𝓛 (raw ((RowsOf 𝓛).pre to_rows_of)) goes_rows_of $
          calls_at ! fm (RowsOf 𝓛) known-rows-of to_rows_of (and_then ! (load ! (from ! (stop !)) (look ! 23 refl)) (no_more !)) (λ w.
          use1 𝓛 (later (some (λ (bs : List Row). (‵ ftrue ⊛ ‵ ((Rows k N).own_val bs (w ∷ []))) ⊛ raw (ensured 𝓛 rows_of_ended (rows_of_clauses 𝓤) tt (tab, tt) tt bs)))) (id⊢ 𝓤 _) $ await ! tt $ pick ! (λ bs.
          split ! $ move ! (1 ∷ []) $ use1 𝓛 (raw (fact 𝓤 (bs ≡ rows tab))) (rows_said bs) $ heard ! (bs ≡ rows tab) (λ eb. split ! $ drop ! $
          peeks ! (Rows k N) (Is (Rows k N)) (shows 𝓛 (Rows k N)) bs (w ∷ []) (λ isb.
          land ! (from ! (stop !)) (init ! 17 refl ((rows_lawful k N 𝓛).typed bs _ isb).0) $
          rewrite ! 17 (λ (z : Val). ‵ (fat full_share (by_vals k N) l₅ 0 z)) (rows_val_is k N bs w isb) refl $ drop ! $
          goes_on 𝓣 bs eb (subst (λ (z : Val). Is (Rows k N) bs (z ∷ [])) (rows_val_is k N bs w isb) isb) l₀ l₁ l₂ l₃ l₄ l₅ l₆ l₇ l₈ l₉ l₁₀ l₁₁ l₁₂)))))))))))))))))

  module _ {M : Type 1} {𝓤 : Ura M} (𝓛 : Logic 𝓤) where
    open 𝓛 use {H}

    walks : (𝓣 : Tables 𝓤 H) → Triple 𝓤 (𝓣.C #rows-of) (RowsOf 𝓛) → Walks 𝓛 ended stayed (WpFn 𝓤 H 𝓣.C 𝓣.Λ function) (clauses 𝓤)
    walks 𝓣 kr = walked 𝓛 ended stayed (clauses 𝓤) (WpFn 𝓤 H 𝓣.C 𝓣.Λ function) (λ κs. (mut_slice_vals, (vals t, tt))) (λ κs. (mut_slice_Tells (named 0) κs.0 (R k), (tells t, tt)))
        (λ κs qs bounds a g are. needs 𝓤 (Whole (length a.0.now)) _ (λ ny.
        walk 𝓛 κs.0 qs.0 a.0.ref_ptr.0 a.0.ref_ptr.1 a.0.ghost_name a.0.now a.1.0 are.0.0.1 are.1.0 ny 𝓣 (fm_of 𝓤 H 𝓛.laws 𝓣) kr))

    meets_it : (𝓣 : Tables 𝓤 H) → Triple 𝓤 (𝓣.C #rows-of) (RowsOf 𝓛) → Meets 𝓛 signature (WpFn 𝓤 H 𝓣.C 𝓣.Λ function) (closing 𝓛 ended (clauses 𝓤))
    meets_it 𝓣 kr = walk_Meets 𝓛 ended stayed (Goes-slice 𝓛 1 0 tt (plain (λ _. R k)), (Goes-none 𝓛 1 (λ _. R t) yes (λ κs. silent t), tt)) (clauses 𝓤) (WpFn 𝓤 H 𝓣.C 𝓣.Λ function) (WpFn-mono 𝓤 H 𝓛.laws 𝓣 function) (walks 𝓣 kr)

    -- at the `ensures` E of a function
    pub store_rows_meets : (E : Ensures 𝓤 ended (Asks 𝓤)) → Tells 𝓤 ended (Asks 𝓤) Says E → (𝓣 : Tables 𝓤 H) → Triple 𝓤 (𝓣.C #rows-of) (RowsOf 𝓛)
        → Meets 𝓛 signature (WpFn 𝓤 H 𝓣.C 𝓣.Λ function) (closing 𝓛 ended (asking 𝓤 ended (Asks 𝓤) E))
    store_rows_meets E h 𝓣 kr = says_so 𝓤 ended (Asks 𝓤) Says 𝓛 E h (WpFn 𝓤 H 𝓣.C 𝓣.Λ function) (WpFn-mono 𝓤 H 𝓛.laws 𝓣 function) (meets_it 𝓣 kr)
