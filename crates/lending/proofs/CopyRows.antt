-- The rows of a lent slice are copied over the front of N blank rows, and a table is made of these: a walk by hand of the MIR of the loop, for every kind of row and of table and every N. A turn calls the function that reads a row, and writes the row into a local array (`LocalRows.antt`), of which a covered function makes the table.
--     Whole            how many rows may be lent, at most N
--     Said             what the contract says of the lent rows and the table's: it holds where the table's are the lent ones and the blank ones after them
--     Upto             the loop's state: how many rows are copied, the rows of the array, and the facts of both
--     more, writes     a turn that copies one row: it is read, and written
--     ends, closes     the turn that leaves the loop, and the rest of the body
-- Assumes nothing.
use types.Logic.{Logic}
use denote.Slice.{shr_slice_vals}
use denote.Ref.{Bor}
use mathlib.Core.Path.{◌≡◌, refl, sym, ◌∙◌, ap, subst}
use Prim.Native.Nat.{ℕ, ◌+◌, ◌-◌, ◌*◌, ◌≤◌, ◌<◌, ◌^◌, zero-le}
use native.Mathlib.Nat.{lt_of_le_of_lt, lt_of_lt_of_le, lt_trans}
use native.Mathlib.Numerals.{add-one-le, add-one-dec}
use mathlib.Core.WellFounded.InvImage
use mathlib.Core.WellFounded.{WellFounded}
use mathlib.Core.Bool.{Bool, true, false, not}
use mathlib.Core.List.{List, [], ◌∷◌, ◌++◌}
use lib.ListN.{length, get_or, set, take, drop as dropped, length-set}
use lib.WfN.{lt-wf_rel}
use lib.Dec.{T, ltb, ltb→lt, nltb→le, lit<}
use Rattle.lending.proofs.Walk.{Ura, full_share, Name, Ty, Fn, Body, named, imm, w64, ty_int, ty_bool, ty_ptr, ty_ref, local, value_local, memory_slot, skip, seq, assign, block, loop, cond, exit, return, call, place, deref, copy, int, rv_opd, op2, lt, add, mul, unsigned, offset, addr_of, field, Val, vbool, vint, vptr, SProp, ent, emp, id⊢, ex_e, snd∗, Lft, Share, Fml, ftrue, fat, froom, fdies, flft, size, Out, Env, after_seq, after_block, after_turn, Calls, Loops, Wp, at_return, WpFn, Tables, sem, fact, Lfts, Item, ‵, raw, ◌⊛◌, some, later, ⋆, runs, any_q, at_ret, Sq, ◌$◌, ◌∵◌, !, qed, by, move, keep, drop, use0, use1, use2, split, join, pick, await, rewrite, fsplit, fjoin, suffices, frame, done, look, fld, store, store_raw, init, forget, stop, hop, from, load, lit, no_more, and_then, of_opd, bin, addr, assigns, assigns_last, land, first, blocks, stays, leaves_loop, enter, alloc1, alloc0, params1, pass1, pass0, free1, free0, exec, Below, again, loops, whole, sub, look_in, FmC, fm_of, WpFn-mono, owns, Is, shows, uint_Makes, usize, SliceRefOf, ArrayOf, slice_ty, slice_val, ShrSlice, Room, shr_slice_Tells, shr_slice_Lawful, shr_slice_copy, place_is, elem_out, elem_put, Signature, plain, nothing, owned, peeks, heard, only, calls_at, Ended, Clauses, AtExit, closing, ensured, lasts, Args, Res, on_entry, Meets, triple_of, Contract, Triple, says, needs, Stays, stay_none_slice, walk_of, Goes-none_slice, ends_at, walked, walk_Meets, yes}
use types.Run.{returns}
use denote.Index.{row}
use denote.Triple.Walked.{Walks}
use Rattle.lending.proofs.Says.{Ensures, asking, saying, Tells, says_so}
use Rattle.lending.proofs.Kind.{Kind, R, by_val, ref, val, vals, tells, offset_fits, row_laws, makes, lawful}
use Rattle.lending.proofs.LocalRows.{Rows, by_vals, rows_val, rows_val_is, rows_long, rows_makes, rows_lawful, rows_apart, rows_whole}
use Rattle.lending.proofs.Written.{written, all_written}
use Rattle.lending.proofs.RowAt as Ra

module _ (k : Kind) (d : k.type.D) (t : Kind) (rows : t.type.D → List k.type.D) (N : ℕ) (blank : List k.type.D) (nb : length blank ≡ N) (Whole : ℕ → Type 0) (most : (n : ℕ) → Whole n → n ≤ N)
    (Said : List k.type.D → List k.type.D → Type 0) (meant : (ys zs : List k.type.D) → Whole (length ys) → zs ≡ ys ++ dropped (length ys) blank → Said ys zs) (#blank #row-at #table : Name) where
  abbrev Row : Type 0
  Row = k.type.D

  abbrev Table : Type 0
  Table = t.type.D

  -- ---- the signature, the contract and the code, for a kind of row and of table
  abbrev signature : Signature
  signature = record { lifetimes = 1; outlives = []; params = SliceRefOf (0 ∷ []) tt (plain (λ _. R k)) (λ _. tt) ∷ []; result = plain (λ _. R t) }

  abbrev ended : Ended
  ended = record { signature = signature; kept = (yes, tt) }

  abbrev Asks : {M : Type 1} (𝓤 : Ura M) (κs : Lfts 1) → Args signature κs → SProp 𝓤
  Asks 𝓤 κs a = fact 𝓤 (Whole (length a.0.now))

  abbrev Says : (κs : Lfts 1) → Args signature κs → Res signature κs → AtExit ended κs → Type 0
  Says κs a r e = Said a.0.now (rows r)

  abbrev clauses : {M : Type 1} (𝓤 : Ura M) → Clauses 𝓤 ended
  clauses 𝓤 = saying 𝓤 ended (Asks 𝓤) Says

  -- and of the two covered functions that it calls
  abbrev blank_ended : Ended
  blank_ended = record { signature = record { lifetimes = 0; outlives = []; params = []; result = ArrayOf (plain (λ _. R k)) (λ _. tt) N }; kept = tt }

  abbrev blank_clauses : {M : Type 1} (𝓤 : Ura M) → Clauses 𝓤 blank_ended
  blank_clauses 𝓤 κs a = record { ghost = Unit {0}; requires = λ g. emp 𝓤; ensures = λ g r e. fact 𝓤 (r ≡ blank) }

  abbrev table_ended : Ended
  table_ended = record { signature = record { lifetimes = 0; outlives = []; params = ArrayOf (plain (λ _. R k)) (λ _. tt) N ∷ []; result = plain (λ _. R t) }; kept = (yes, tt) }

  abbrev table_clauses : {M : Type 1} (𝓤 : Ura M) → Clauses 𝓤 table_ended
  table_clauses 𝓤 κs a = record { ghost = Unit {0}; requires = λ g. emp 𝓤; ensures = λ g r e. fact 𝓤 (rows r ≡ a.0) }

  abbrev write : Body
  write = seq (assign (place 5 []) (op2 (mul unsigned) (copy (place 3 [])) (int w64 (size (by_val k))))) (seq (assign (place 8 []) (addr_of (place 2 []))) (seq (assign (place 9 []) (op2 offset (copy (place 8 [])) (copy (place 5 []))))
      (seq (assign (place 9 (deref (by_val k) ∷ [])) (rv_opd (copy (place 7 [])))) (assign (place 3 []) (op2 (add unsigned) (copy (place 3 [])) (int w64 1))))))

  abbrev turn : Body
  turn = seq (assign (place 5 []) (rv_opd (copy (place 1 (field 1 ∷ []))))) (seq (assign (place 6 []) (op2 (lt unsigned) (copy (place 3 [])) (copy (place 5 []))))
      (seq (cond (copy (place 6 [])) skip (exit 1)) (seq (call #row-at (copy (place 1 []) ∷ copy (place 3 []) ∷ []) (place 7 [])) write)))

  abbrev t_4 : Body
  t_4 = seq (assign (place 4 []) (rv_opd (copy (place 2 [])))) (seq (call #table (copy (place 4 []) ∷ []) (place 0 [])) return)

  abbrev t_2 : Body
  t_2 = seq (assign (place 2 []) (rv_opd (copy (place 4 [])))) (seq (assign (place 3 []) (rv_opd (int w64 0))) (seq (block (loop turn)) t_4))

  abbrev function : Fn
  function = record {
    lifetimes = 1;
    outlives = [];
    ty_params = [];
    givens = 0;
    params = 1;
    body = seq (call #blank [] (place 4 [])) t_2;
    locals = local (by_val t) value_local ∷ local (slice_ty (ty_ref (named 0) imm (ref k))) value_local ∷ local (by_vals k N) memory_slot ∷ local (ty_int w64) value_local ∷ local (by_vals k N) value_local ∷ local (ty_int w64) value_local ∷ local ty_bool value_local
        ∷ local (by_val k) value_local ∷ local ty_ptr value_local ∷ local ty_ptr value_local ∷ [];
  }

  abbrev stayed : Stays ended.signature.params ended.kept
  stayed = (stay_none_slice (0 ∷ []) tt (plain (λ _. R k)) yes, tt)

  -- whatever a type relates to a row or a table is its machine value
  row_val_is : (r : Row) (w : Val) → Is (R k) r (w ∷ []) → w ≡ val k r
  row_val_is r w p = ap only (tells k r (w ∷ []) p)

  table_val_is : (tab : Table) (w : Val) → Is (R t) tab (w ∷ []) → w ≡ val t tab
  table_val_is tab w p = ap only (tells t tab (w ∷ []) p)

  module _ {M : Type 1} {𝓤 : Ura M} (𝓛 : Logic 𝓤) where
    -- the contracts that the proof cites
    abbrev Blank : Contract 𝓤
    Blank = triple_of 𝓛 blank_ended.signature (closing 𝓛 blank_ended (blank_clauses 𝓤))

    abbrev RowAt : Contract 𝓤
    RowAt = triple_of 𝓛 (Ra.signature k d) (closing 𝓛 (Ra.ended k d) (Ra.clauses k d 𝓤))

    abbrev TableOf : Contract 𝓤
    TableOf = triple_of 𝓛 table_ended.signature (closing 𝓛 table_ended (table_clauses 𝓤))

  module _ {M : Type 1} {𝓤 : Ura M} (𝓛 : Logic 𝓤) (κ : Lft) (q : Share) (s : Bor (List Row)) (ny : Whole (length s.now)) (room : Room (R k) (length s.now)) where
    open 𝓛 use {H}

    abbrev ys : List Row
    ys = s.now

    few : length ys ≤ N
    few = most (length ys) ny

    -- the machine value that s has
    abbrev v : Val
    v = slice_val s.ref_ptr (length ys)

    abbrev Post : Val → SProp 𝓤
    Post = (walk_of 𝓛 ended stayed (clauses 𝓤)).post (((κ, tt), (q, tt), tt, (s, tt), (v ∷ [], tt)), tt)

    abbrev Own : Fml
    Own = (ShrSlice (named 0) κ (R k)).own_val s (v ∷ [])

    exits : (tab : Table) → rows tab ≡ ys ++ dropped (length ys) blank → Is (R t) tab (val t tab ∷ []) → ent 𝓤 (⋆ 𝓛 ((‵ (flft κ q) ⊛ ‵ ftrue) ∷ ‵ Own ∷ [])) (Post (val t tab))
    exits tab e is =
        qed 𝓛 ((‵ (flft κ q) ⊛ ‵ ftrue) ∷ ‵ Own ∷ []) ∵
        suffices ! _ (ends_at 𝓛 ended stayed (clauses 𝓤) (((κ, tt), (q, tt), tt, (s, tt), (v ∷ [], tt)), tt) (val t tab) tab (tt, tt) (tt, tt)) $ says ! (meant ys (rows tab) ny e) $
        frame ! $ nothing ! $ move ! (1 ∷ 0 ∷ []) $ fjoin ! $ frame ! $ owned ! (R t) (Is (R t)) (makes t 𝓛) tab _ is $ done !

    -- the call of `blank_log`
    abbrev to_blank : (Blank 𝓛).Ghost
    to_blank = ((tt, tt, tt, tt, tt), tt)

    goes_blank : ent 𝓤 (emp 𝓤) ((Blank 𝓛).pre to_blank)
    goes_blank = qed 𝓛 [] ∵ nothing ! $ nothing ! $ join ! $ frame ! $ done !

    blank_said : (bs : List Row) → ent 𝓤 (ensured 𝓛 blank_ended (blank_clauses 𝓤) tt tt tt bs) (fact 𝓤 (bs ≡ blank))
    blank_said bs = ex_e 𝓤 _ (λ ws. snd∗ 𝓤 (sem 𝓛 (lasts blank_ended tt tt ws)) (fact 𝓤 (bs ≡ blank)))

    -- the call of `log_row_at`
    abbrev to_row_at : ℕ → (RowAt 𝓛).Ghost
    to_row_at i = (((κ, tt), (q, tt), tt, (s, (i, tt)), (v ∷ [], (vint w64 i ∷ [], tt))), tt)

    goes_row_at : (i : ℕ) → i < length ys → ent 𝓤 (⋆ 𝓛 ((‵ (flft κ q) ⊛ ‵ ftrue) ∷ ‵ Own ∷ [])) ((RowAt 𝓛).pre (to_row_at i))
    goes_row_at i less =
        qed 𝓛 ((‵ (flft κ q) ⊛ ‵ ftrue) ∷ ‵ Own ∷ []) ∵ says ! less $ frame ! $
        nothing ! $ owned ! usize (Is usize) (uint_Makes 𝓛 w64) i _ (refl, lt_trans less room.0) $ fjoin ! $ move ! (1 ∷ 0 ∷ []) $ fjoin ! $ done !

    row_said : (i : ℕ) (r : Row) → ent 𝓤 (ensured 𝓛 (Ra.ended k d) (Ra.clauses k d 𝓤) (κ, tt) (s, (i, tt)) tt r) (fact 𝓤 (r ≡ get_or ys i d))
    row_said i r = ex_e 𝓤 _ (λ ws. snd∗ 𝓤 (sem 𝓛 (lasts (Ra.ended k d) (κ, tt) (s, (i, tt)) ws)) (fact 𝓤 (r ≡ get_or ys i d)))

    -- the call of `log_table`
    abbrev to_table : List Row → (TableOf 𝓛).Ghost
    to_table acc = ((tt, tt, tt, (acc, tt), (rows_val k N acc ∷ [], tt)), tt)

    goes_table : (acc : List Row) → ent 𝓤 (sem 𝓛 ((Rows k N).own_val acc (rows_val k N acc ∷ []))) ((TableOf 𝓛).pre (to_table acc))
    goes_table acc = qed 𝓛 (‵ ((Rows k N).own_val acc (rows_val k N acc ∷ [])) ∷ []) ∵ nothing ! $ move ! (1 ∷ 0 ∷ []) $ fjoin ! $ nothing ! $ join ! $ frame ! $ done !

    table_said : (acc : List Row) (tab : Table) → ent 𝓤 (ensured 𝓛 table_ended (table_clauses 𝓤) tt (acc, tt) tt tab) (fact 𝓤 (rows tab ≡ acc))
    table_said acc tab = ex_e 𝓤 _ (λ ws. snd∗ 𝓤 (sem 𝓛 (lasts table_ended tt (acc, tt) ws)) (fact 𝓤 (rows tab ≡ acc)))

    -- ---- the loop
    abbrev Upto : Type 0
    Upto = (i : ℕ) × ((acc : List Row) × ((i ≤ length ys) × ((length acc ≡ N) × (acc ≡ take i ys ++ dropped i blank))))

    abbrev Nearer : Upto → Upto → Type 0
    Nearer y x = length ys - y.0 < length ys - x.0

    Nearer-wf : WellFounded Nearer
    Nearer-wf = InvImage.wf (λ (x : Upto). length ys - x.0) lt-wf_rel.wf

    module _ (𝓣 : Tables 𝓤 H) (fm : FmC 𝓤 H 𝓛.laws 𝓣.C) (known-row-at : Triple 𝓤 (𝓣.C #row-at) (RowAt 𝓛)) (known-table : Triple 𝓤 (𝓣.C #table) (TableOf 𝓛)) (l₀ l₁ l₂ l₃ l₄ l₅ l₆ l₇ l₈ l₉ : ℕ) where
      abbrev C : Calls 𝓤 H
      C = 𝓣.C

      abbrev Λ : Loops 𝓤 H
      Λ = 𝓣.Λ

      abbrev arr : Ty
      arr = by_vals k N

      abbrev slice : Ty
      slice = slice_ty (ty_ref (named 0) imm (ref k))

      abbrev word : Ty
      word = ty_int w64

      abbrev En : Env 𝓤 H
      En = (by_val t, l₀) ∷ (slice, l₁) ∷ (arr, l₂) ∷ (word, l₃) ∷ (arr, l₄) ∷ (word, l₅) ∷ (ty_bool, l₆) ∷ (by_val k, l₇) ∷ (ty_ptr, l₈) ∷ (ty_ptr, l₉) ∷ []

      -- a local that has room, and one that holds a value, before the others
      abbrev free : Ty → ℕ → List (Item 𝓤) → List (Item 𝓤)
      free τ l Γ = ‵ (froom τ l 0) ∷ ‵ (fdies τ l) ∷ Γ

      abbrev cell : Ty → ℕ → Val → List (Item 𝓤) → List (Item 𝓤)
      cell τ l w Γ = ‵ (fat full_share τ l 0 w) ∷ ‵ (fdies τ l) ∷ Γ

      -- _1 at 16, _0 at 18; the token at 20, what rows owns at 21
      abbrev Params : List (Item 𝓤)
      Params = cell slice l₁ v (free (by_val t) l₀ ((‵ (flft κ q) ⊛ ‵ ftrue) ∷ ‵ Own ∷ []))

      -- _9 at 0, _8 at 2, _7 at 4, _6 at 6, _5 at 8, _4 at 10, _3 at 12; the array's rows, side by side, at 14
      abbrev At : Upto → List (Item 𝓤)
      At x = free ty_ptr l₉ (free ty_ptr l₈ (free (by_val k) l₇ (free ty_bool l₆ (free word l₅ (free arr l₄ (cell word l₃ (vint w64 x.0) (‵ (row (R k) full_share x.1.0 l₂ 0) ∷ ‵ (fdies arr l₂) ∷ Params)))))))

      -- once `log_row_at` has returned r
      abbrev Read-at : Upto → Row → List (Item 𝓤)
      Read-at x r = free ty_ptr l₉ (free ty_ptr l₈ (cell (by_val k) l₇ (val k r) (cell ty_bool l₆ (vbool true) (cell word l₅ (vint w64 (length ys)) (free arr l₄ (cell word l₃ (vint w64 x.0) (‵ (row (R k) full_share x.1.0 l₂ 0) ∷ ‵ (fdies arr l₂) ∷ Params)))))))

      -- once the loop is left, with the array whole
      abbrev Whole-at : Upto → List (Item 𝓤)
      Whole-at x = free ty_ptr l₉ (free ty_ptr l₈ (free (by_val k) l₇ (cell ty_bool l₆ (vbool false) (cell word l₅ (vint w64 (length ys)) (free arr l₄ (cell word l₃ (vint w64 x.0) (cell arr l₂ (rows_val k N x.1.0) Params)))))))

      -- once `blank_log` has returned
      abbrev Blank-at : List Row → List (Item 𝓤)
      Blank-at bs = free ty_ptr l₉ (free ty_ptr l₈ (free (by_val k) l₇ (free ty_bool l₆ (free word l₅ (cell arr l₄ (rows_val k N bs) (free word l₃ (free arr l₂ Params)))))))

      abbrev Turned : Upto → Out → SProp 𝓤
      Turned x = after_turn 𝓤 H (Below 𝓛 Nearer At x) (after_block 𝓤 H (after_seq 𝓤 H (Wp 𝓤 H C Λ En t_4 (at_return 𝓤 H En Post)) (at_return 𝓤 H En Post)))

      -- the row that was read is written into the array
      writes : (x : Upto) (r : Row) → r ≡ get_or ys x.0 d → Is (R k) r (val k r ∷ []) → x.0 < length ys → Sq 𝓛 (Read-at x r) (runs C Λ En write (any_q (Turned x)))
      unfolding after_turn
      writes x r er isr less =
          assigns ! (bin ! (load ! (from ! (stop !)) (look ! 12 refl)) (lit ! k.small) (record { fits = place_fits })) (from ! (stop !)) (store ! 8 refl (tt, record { fits = place_fits })) $
          assigns ! (addr ! (from ! (stop !))) (from ! (stop !)) (init ! 2 refl (tt, tt)) $
          assigns ! (bin ! (load ! (from ! (stop !)) (look ! 2 refl)) (load ! (from ! (stop !)) (look ! 8 refl)) tt) (from ! (stop !)) (init ! 0 refl (tt, tt)) $
          rewrite ! 0 (λ (p : ℕ). ‵ (fat full_share ty_ptr l₉ 0 (vptr l₂ p))) (sym (place_is (size (by_val k)) 0 i)) refl $
          move ! (14 ∷ []) $ elem_out ! (R k) (Is (R k)) (shows 𝓛 (R k)) (vals k) (tells k) full_share acc i d l₂ 0 within (λ _.
          -- [held[i]; what it owns; the others; _9 at 3; … _7 at 7; … _3 at 15; …]
          assigns ! (of_opd ! (load ! (from ! (stop !)) (look ! 7 refl))) (from ! (hop ! (look ! 3 refl) (stop !))) (store_raw ! 0 refl ((lawful k 𝓛).typed r _ isr).0) $
          move ! (1 ∷ []) $ drop ! $ owned ! (R k) (Is (R k)) (makes k 𝓛) r _ isr $ move ! (1 ∷ 0 ∷ []) $ elem_put ! (R k) full_share acc i r (val k r ∷ []) l₂ 0 within $
          -- [the array's rows; _9 at 1; … _3 at 13; …]
          assigns_last ! (bin ! (load ! (from ! (stop !)) (look ! 13 refl)) (lit ! tt) (record { fits = fits })) (from ! (stop !)) (store ! 13 refl (tt, record { fits = fits })) $
          forget ! 1 refl $ forget ! 3 refl $ forget ! 5 refl $ forget ! 7 refl $ forget ! 9 refl $
          keep ! (1 ∷ 2 ∷ 3 ∷ 4 ∷ 5 ∷ 6 ∷ 7 ∷ 8 ∷ 9 ∷ 10 ∷ 11 ∷ 12 ∷ 13 ∷ 14 ∷ 0 ∷ 15 ∷ 16 ∷ 17 ∷ 18 ∷ 19 ∷ 20 ∷ 21 ∷ []) $
          again ! Nearer At x (i + 1, (set acc i r, (add-one-le less, (length-set acc i r ∙ len, written ys blank acc i r d less among x.1.1.1.1 er)))) (add-one-dec (length ys) i less))
        where
          i : ℕ
          i = x.0

          acc : List Row
          acc = x.1.0

          len : length acc ≡ N
          len = x.1.1.1.0

          within : i < length acc
          within = subst (λ (m : ℕ). i < m) (sym len) (lt_of_lt_of_le less few)

          among : i < length blank
          among = subst (λ (m : ℕ). i < m) (sym nb) (lt_of_lt_of_le less few)

          place_fits : i * size (by_val k) < 2 ^ 64
          place_fits = offset_fits k i (length ys) less room

          fits : i + 1 < 2 ^ 64
          fits = lt_of_le_of_lt (add-one-le less) room.0

      -- a turn that copies one row
      more : (x : Upto) → ltb x.0 (length ys) ≡ true → x.0 < length ys → Sq 𝓛 (At x) (runs C Λ En turn (any_q (Turned x)))
      more x e less =
          assigns ! (of_opd ! (load ! (from ! (fld ! refl (stop !))) (look_in ! 16 (sub ! 1 refl (whole !))))) (from ! (stop !)) (init ! 8 refl (tt, record { fits = room.0 })) $
          assigns ! (bin ! (load ! (from ! (stop !)) (look ! 12 refl)) (load ! (from ! (stop !)) (look ! 8 refl)) tt) (from ! (stop !)) (init ! 6 refl (tt, tt)) $
          rewrite ! 6 (λ (z : Bool). ‵ (fat full_share ty_bool l₆ 0 (vbool z))) e refl $ stays ! (load ! (from ! (stop !)) (look ! 6 refl)) $
          -- `log_row_at`: a copy of what rows owns is passed
          move ! (21 ∷ 20 ∷ []) $ use1 𝓛 (‵ Own ⊛ ‵ Own) ((shr_slice_copy 𝓛 (named 0) κ (R k) (row_laws k)).twice s (v ∷ [])) $ split ! $ move ! (2 ∷ 0 ∷ []) $
          use2 𝓛 (raw ((RowAt 𝓛).pre (to_row_at i))) (goes_row_at i less) $
          calls_at ! fm (RowAt 𝓛) known-row-at (to_row_at i) (and_then ! (load ! (from ! (stop !)) (look ! 18 refl)) (and_then ! (load ! (from ! (stop !)) (look ! 14 refl)) (no_more !))) (λ u.
          use1 𝓛 (later (some (λ (r : Row). ((‵ (flft κ q) ⊛ ‵ ftrue) ⊛ ‵ ((R k).own_val r (u ∷ []))) ⊛ raw (ensured 𝓛 (Ra.ended k d) (Ra.clauses k d 𝓤) (κ, tt) (s, (i, tt)) tt r)))) (id⊢ 𝓤 _) $ await ! tt $ pick ! (λ r.
          split ! $ move ! (1 ∷ []) $ use1 𝓛 (raw (fact 𝓤 (r ≡ get_or ys i d))) (row_said i r) $ heard ! (r ≡ get_or ys i d) (λ er. split ! $ move ! (1 ∷ []) $
          peeks ! (R k) (Is (R k)) (shows 𝓛 (R k)) r (u ∷ []) (λ isr.
          -- [what the row owns; the token; what rows owns; _9 at 3; … _7 at 7; …]
          land ! (from ! (stop !)) (init ! 7 refl ((lawful k 𝓛).typed r _ isr).0) $
          rewrite ! 7 (λ (z : Val). ‵ (fat full_share (by_val k) l₇ 0 z)) (row_val_is r u isr) refl $ drop ! $
          keep ! (2 ∷ 3 ∷ 4 ∷ 5 ∷ 6 ∷ 7 ∷ 8 ∷ 9 ∷ 10 ∷ 11 ∷ 12 ∷ 13 ∷ 14 ∷ 15 ∷ 16 ∷ 17 ∷ 18 ∷ 19 ∷ 20 ∷ 21 ∷ 0 ∷ 1 ∷ []) $
          writes x r er (subst (λ (z : Val). Is (R k) r (z ∷ [])) (row_val_is r u isr) isr) less))))
        where
          i : ℕ
          i = x.0

      -- the array that is whole is made a table, and returned
      closes : (x : Upto) → length ys ≤ x.0 → Is (Rows k N) x.1.0 (rows_val k N x.1.0 ∷ []) → Sq 𝓛 (Whole-at x) (runs C Λ En t_4 (at_ret En Post))
      closes x over isa =
          assigns ! (of_opd ! (load ! (from ! (stop !)) (look ! 14 refl))) (from ! (stop !)) (init ! 10 refl ((rows_lawful k N 𝓛).typed acc _ isa).0) $
          owned ! (Rows k N) (Is (Rows k N)) (rows_makes k N 𝓛) acc _ isa $ use1 𝓛 (raw ((TableOf 𝓛).pre (to_table acc))) (goes_table acc) $
          calls_at ! fm (TableOf 𝓛) known-table (to_table acc) (and_then ! (load ! (from ! (stop !)) (look ! 11 refl)) (no_more !)) (λ w.
          use1 𝓛 (later (some (λ (tab : Table). (‵ ftrue ⊛ ‵ ((R t).own_val tab (w ∷ []))) ⊛ raw (ensured 𝓛 table_ended (table_clauses 𝓤) tt (acc, tt) tt tab)))) (id⊢ 𝓤 _) $ await ! tt $ pick ! (λ tab.
          split ! $ move ! (1 ∷ []) $ use1 𝓛 (raw (fact 𝓤 (rows tab ≡ acc))) (table_said acc tab) $ heard ! (rows tab ≡ acc) (λ et. split ! $ drop ! $
          peeks ! (R t) (Is (R t)) (shows 𝓛 (R t)) tab (w ∷ []) (λ ist.
          land ! (from ! (stop !)) (init ! 19 refl ((lawful t 𝓛).typed tab _ ist).0) $
          rewrite ! 19 (λ (z : Val). ‵ (fat full_share (by_val t) l₀ 0 z)) (table_val_is tab w ist) refl $ drop ! $
          returns ! (look ! 18 refl) $ forget ! 6 refl $ forget ! 8 refl $ forget ! 10 refl $ forget ! 12 refl $ forget ! 14 refl $ forget ! 16 refl $ forget ! 18 refl $
          move ! (18 ∷ 19 ∷ []) $ free1 ! $ move ! (16 ∷ 17 ∷ []) $ free1 ! $ move ! (14 ∷ 15 ∷ []) $ free1 ! $ move ! (12 ∷ 13 ∷ []) $ free1 ! $ move ! (10 ∷ 11 ∷ []) $ free1 ! $ move ! (8 ∷ 9 ∷ []) $ free1 ! $ move ! (6 ∷ 7 ∷ []) $ free1 ! $
          move ! (4 ∷ 5 ∷ []) $ free1 ! $ move ! (2 ∷ 3 ∷ []) $ free1 ! $ free1 ! $ free0 ! $
          by ! (exits tab (et ∙ all_written ys blank acc x.0 x.1.1.0 over x.1.1.1.1) (subst (λ (z : Val). Is (R t) tab (z ∷ [])) (table_val_is tab w ist) ist))))))
        where
          acc : List Row
          acc = x.1.0

      -- the turn that leaves the loop
      ends : (x : Upto) → ltb x.0 (length ys) ≡ false → length ys ≤ x.0 → Sq 𝓛 (At x) (runs C Λ En turn (any_q (Turned x)))
      unfolding after_turn
      ends x e over =
          assigns ! (of_opd ! (load ! (from ! (fld ! refl (stop !))) (look_in ! 16 (sub ! 1 refl (whole !))))) (from ! (stop !)) (init ! 8 refl (tt, record { fits = room.0 })) $
          assigns ! (bin ! (load ! (from ! (stop !)) (look ! 12 refl)) (load ! (from ! (stop !)) (look ! 8 refl)) tt) (from ! (stop !)) (init ! 6 refl (tt, tt)) $
          rewrite ! 6 (λ (z : Bool). ‵ (fat full_share ty_bool l₆ 0 (vbool z))) e refl $ leaves_loop ! (load ! (from ! (stop !)) (look ! 6 refl)) $ exec ! C Λ En t_4 (at_ret En Post) $
          move ! (14 ∷ []) $ use1 𝓛 (‵ (fat full_share arr l₂ 0 (rows_val k N acc)) ⊛ ‵ ((Rows k N).own_val acc (rows_val k N acc ∷ []))) (rows_whole k N 𝓛 acc l₂ x.1.1.1.0) $ split ! $ move ! (1 ∷ []) $
          peeks ! (Rows k N) (Is (Rows k N)) (shows 𝓛 (Rows k N)) acc (rows_val k N acc ∷ []) (λ isa. drop ! $
          keep ! (1 ∷ 2 ∷ 3 ∷ 4 ∷ 5 ∷ 6 ∷ 7 ∷ 8 ∷ 9 ∷ 10 ∷ 11 ∷ 12 ∷ 13 ∷ 14 ∷ 0 ∷ 15 ∷ 16 ∷ 17 ∷ 18 ∷ 19 ∷ 20 ∷ 21 ∷ []) $ closes x over isa)
        where
          acc : List Row
          acc = x.1.0

      turns : (x : Upto) → Sq 𝓛 (At x) (runs C Λ En turn (any_q (Turned x)))
      turns x = on (ltb x.0 (length ys)) refl
        where
          on : (z : Bool) → ltb x.0 (length ys) ≡ z → Sq 𝓛 (At x) (runs C Λ En turn (any_q (Turned x)))
          on true e = more x e (ltb→lt x.0 (length ys) (subst T (sym e) tt))
          on false e = ends x e (nltb→le x.0 (length ys) (subst (λ (z : Bool). T (not z)) (sym e) tt))

      -- what follows the call of `blank_log`
      goes_on : (bs : List Row) → bs ≡ blank → Is (Rows k N) bs (rows_val k N bs ∷ []) → Sq 𝓛 (Blank-at bs) (runs C Λ En t_2 (at_ret En Post))
      goes_on bs eb isb =
          assigns ! (of_opd ! (load ! (from ! (stop !)) (look ! 10 refl))) (from ! (stop !)) (init ! 14 refl ((rows_lawful k N 𝓛).typed bs _ isb).0) $
          assigns ! (of_opd ! (lit ! tt)) (from ! (stop !)) (init ! 12 refl (tt, record { fits = lit< tt })) $ forget ! 10 refl $
          owned ! (Rows k N) (Is (Rows k N)) (rows_makes k N 𝓛) bs _ isb $ move ! (15 ∷ 0 ∷ []) $ use2 𝓛 (‵ (row (R k) full_share bs l₂ 0)) (rows_apart k N 𝓛 bs (rows_val k N bs) l₂) $
          keep ! (1 ∷ 2 ∷ 3 ∷ 4 ∷ 5 ∷ 6 ∷ 7 ∷ 8 ∷ 9 ∷ 10 ∷ 11 ∷ 12 ∷ 13 ∷ 14 ∷ 0 ∷ 15 ∷ 16 ∷ 17 ∷ 18 ∷ 19 ∷ 20 ∷ 21 ∷ []) $
          first ! $ blocks ! $ loops ! 𝓣 Nearer Nearer-wf At turns (0, (bs, (zero-le, (rows_long k N bs _ isb, eb))))

    module _ (𝓣 : Tables 𝓤 H) (fm : FmC 𝓤 H 𝓛.laws 𝓣.C) (known-blank : Triple 𝓤 (𝓣.C #blank) (Blank 𝓛)) (known-row-at : Triple 𝓤 (𝓣.C #row-at) (RowAt 𝓛)) (known-table : Triple 𝓤 (𝓣.C #table) (TableOf 𝓛)) where
      walk : Is (ShrSlice (named 0) κ (R k)) s (v ∷ []) → ent 𝓤 (on_entry 𝓛 signature (κ, tt) (q, tt) (s, tt) (v ∷ [], tt)) (WpFn 𝓤 H 𝓣.C 𝓣.Λ function (v ∷ []) Post)
      walk p =
          qed 𝓛 ((‵ (flft κ q) ⊛ ‵ ftrue) ∷ ‵ (owns (ShrSlice (named 0) κ (R k) ∷ []) (s, tt) (v ∷ [], tt)) ∷ []) ∵ enter ! 𝓣.C 𝓣.Λ function (v ∷ []) _ $
          alloc1 ! (λ l₀. alloc1 ! (λ l₁. alloc1 ! (λ l₂. alloc1 ! (λ l₃. alloc1 ! (λ l₄. alloc1 ! (λ l₅. alloc1 ! (λ l₆. alloc1 ! (λ l₇. alloc1 ! (λ l₈. alloc1 ! (λ l₉. alloc0 ! $ params1 ! $
          pass1 ! (init ! 16 refl ((shr_slice_Lawful 𝓛 (named 0) κ (R k)).typed s (v ∷ []) p).0) $ pass0 ! $
          move ! (21 ∷ []) $ fsplit ! $ keep ! (2 ∷ 3 ∷ 4 ∷ 5 ∷ 6 ∷ 7 ∷ 8 ∷ 9 ∷ 10 ∷ 11 ∷ 12 ∷ 13 ∷ 14 ∷ 15 ∷ 16 ∷ 17 ∷ 18 ∷ 19 ∷ 20 ∷ 21 ∷ 22 ∷ 0 ∷ []) $
          use0 𝓛 (raw ((Blank 𝓛).pre to_blank)) goes_blank $
          calls_at ! fm (Blank 𝓛) known-blank to_blank (no_more !) (λ w.
          use1 𝓛 (later (some (λ (bs : List Row). (‵ ftrue ⊛ ‵ ((Rows k N).own_val bs (w ∷ []))) ⊛ raw (ensured 𝓛 blank_ended (blank_clauses 𝓤) tt tt tt bs)))) (id⊢ 𝓤 _) $ await ! tt $ pick ! (λ bs.
          split ! $ move ! (1 ∷ []) $ use1 𝓛 (raw (fact 𝓤 (bs ≡ blank))) (blank_said bs) $ heard ! (bs ≡ blank) (λ eb. split ! $ drop ! $ peeks ! (Rows k N) (Is (Rows k N)) (shows 𝓛 (Rows k N)) bs (w ∷ []) (λ isb.
          land ! (from ! (stop !)) (init ! 11 refl ((rows_lawful k N 𝓛).typed bs _ isb).0) $
          rewrite ! 11 (λ (z : Val). ‵ (fat full_share (by_vals k N) l₄ 0 z)) (rows_val_is k N bs w isb) refl $ drop ! $
          goes_on 𝓣 fm known-row-at known-table l₀ l₁ l₂ l₃ l₄ l₅ l₆ l₇ l₈ l₉ bs eb (subst (λ (z : Val). Is (Rows k N) bs (z ∷ [])) (rows_val_is k N bs w isb) isb)))))))))))))))

  module _ {M : Type 1} {𝓤 : Ura M} (𝓛 : Logic 𝓤) where
    open 𝓛 use {H}

    walks : (𝓣 : Tables 𝓤 H) → Triple 𝓤 (𝓣.C #blank) (Blank 𝓛) → Triple 𝓤 (𝓣.C #row-at) (RowAt 𝓛) → Triple 𝓤 (𝓣.C #table) (TableOf 𝓛)
        → Walks 𝓛 ended stayed (WpFn 𝓤 H 𝓣.C 𝓣.Λ function) (clauses 𝓤)
    walks 𝓣 kb kr kt = walked 𝓛 ended stayed (clauses 𝓤) (WpFn 𝓤 H 𝓣.C 𝓣.Λ function) (λ κs. (shr_slice_vals, tt)) (λ κs. (shr_slice_Tells (named 0) κs.0 (R k), tt))
        (λ κs qs bounds a g are. needs 𝓤 (Whole (length a.0.now)) _ (λ ny. walk 𝓛 κs.0 qs.0 a.0 ny are.0.0.1 𝓣 (fm_of 𝓤 H 𝓛.laws 𝓣) kb kr kt are.0))

    meets_it : (𝓣 : Tables 𝓤 H) → Triple 𝓤 (𝓣.C #blank) (Blank 𝓛) → Triple 𝓤 (𝓣.C #row-at) (RowAt 𝓛) → Triple 𝓤 (𝓣.C #table) (TableOf 𝓛)
        → Meets 𝓛 signature (WpFn 𝓤 H 𝓣.C 𝓣.Λ function) (closing 𝓛 ended (clauses 𝓤))
    meets_it 𝓣 kb kr kt = walk_Meets 𝓛 ended stayed (Goes-none_slice 𝓛 1 (0 ∷ []) tt (plain (λ _. R k)) yes, tt) (clauses 𝓤) (WpFn 𝓤 H 𝓣.C 𝓣.Λ function) (WpFn-mono 𝓤 H 𝓛.laws 𝓣 function) (walks 𝓣 kb kr kt)

    -- at the `ensures` E of a function
    pub copy_rows_meets : (E : Ensures 𝓤 ended (Asks 𝓤)) → Tells 𝓤 ended (Asks 𝓤) Says E → (𝓣 : Tables 𝓤 H) → Triple 𝓤 (𝓣.C #blank) (Blank 𝓛) → Triple 𝓤 (𝓣.C #row-at) (RowAt 𝓛) → Triple 𝓤 (𝓣.C #table) (TableOf 𝓛)
        → Meets 𝓛 signature (WpFn 𝓤 H 𝓣.C 𝓣.Λ function) (closing 𝓛 ended (asking 𝓤 ended (Asks 𝓤) E))
    copy_rows_meets E h 𝓣 kb kr kt = says_so 𝓤 ended (Asks 𝓤) Says 𝓛 E h (WpFn 𝓤 H 𝓣.C 𝓣.Λ function) (WpFn-mono 𝓤 H 𝓛.laws 𝓣 function) (meets_it 𝓣 kb kr kt)
