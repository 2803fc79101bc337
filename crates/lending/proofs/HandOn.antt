-- A slice that is lent to a function is handed on to one that it calls. Each law walks a piece of the caller's MIR, from the statement that lends the slice on to the one after the call, for every kind of row and wherever its locals are.
--     v, shared_v      a slice's machine value, that is lent as `&mut` or as `&`
--     Gave             what is had of a slice that is given up: what says its last list, and the borrow
--     gives_up         a slice is given up as it is: its last list is the present one
--     Sees, sees       the slice, which is lent as `&` already, goes to a call with other values ps, and comes back (`Share.antt`)
--     Takes, gives     the slice is given up to a call, with other values ps, which says its last list
-- Assumes `Logic`.
use types.Logic.{Logic}
use denote.Ref.{Bor, MutBor}
use base.Fml.{fbor}
use types.SemTy.{Body as Borrowed, Arr}
use types.Hole.{Holey}
use denote.Memory.{mem as lying}
use Rattle.lending.proofs.Walk.{fsep}
use mathlib.Core.Path.{◌≡◌}
use Prim.Native.Nat.{ℕ}
use mathlib.Core.List.{List, [], ◌∷◌}
use lib.ListN.{length}
use lib.Dec.{T}
use Rattle.lending.proofs.Walk.{Ura, full_share, Name, Ty, Lifetime, Body, named, erased, mut, ty_unit, ty_ref, seq, assign, call, place, field, deref, copy, addr_of, aggregate, Val, vptr, WT, has_ty, SProp, ent, sep, emp, id⊢, ex_e, snd∗, Lft, GName, Share, Fml, ftrue, flft, fres, Env, Calls, Loops, sem, fact, Lfts, Item, Post, Seq, runs, ‵, raw, ◌⊛◌, some, later, ◌$◌, ◌∵◌, !, qed, move, keep, drop, use0, use1, use2, split, join, pick, await, fsplit, fjoin, feq_l, frame, done, Opds, stop, land, lft_new, lft_end, FmC, RattleType, Denots, Valss, owns, flat, Is, Tells, shows, Nothing, Nothing-Lawful, SliceRefOf, SliceRefMutOf, slice_ty, slice_val, MutSlice, ShrSlice, Room, finally, res-finally, coded_holeys, heres, types_at, plain, nothing, peeks, heard, calls_at, Ended, Clauses, closing, ensured, lasts, Kepts, Fins, triple_of, Contract, Triple, says, yes}
use mir.Syntax.{Opd as Operand}
use denote.Signature.{Slot as Param}
use Rattle.lending.proofs.Share.{SharedAgain, shares_again, share_back}
use Rattle.lending.proofs.Says.{saying}
use Rattle.lending.proofs.Kind.{Kind, R, ref, copied}
use Rattle.lending.proofs.Locals.{Slot, has, slot, put, Typed, Locals, spot, sets, stated, premise, relends, lands_as}

abbrev pub v : {X : Type 0} → MutBor (List X) → Val
v x = slice_val x.ref_ptr (length x.now)

abbrev pub shared_v : {X : Type 0} → Bor (List X) → Val
shared_v x = slice_val x.ref_ptr (length x.now)

abbrev pub Gave : (S : RattleType) → Lft → MutBor (List S.Denot) → List S.Denot → Fml
Gave S κ x ws = fsep (finally S x.ghost_name ws) (fbor κ (Borrowed (Arr (Holey (lying S)) (length x.now)) x.ref_ptr.0 x.ref_ptr.1 x.ghost_name))

module _ {M : Type 1} {𝓤 : Ura M} (𝓛 : Logic 𝓤) where
  pub gives_up : (S : RattleType) (j : ℕ) (κ : Lft) (x : MutBor (List S.Denot)) (u : Val) → ent 𝓤 (sem 𝓛 ((MutSlice (named j) κ S).own_val x (u ∷ []))) (sem 𝓛 (Gave S κ x x.now))
  gives_up S j κ x u =
      qed 𝓛 (‵ ((MutSlice (named j) κ S).own_val x (u ∷ [])) ∷ []) ∵ fsplit ! $ move ! (1 ∷ []) $ fsplit ! $
      use1 𝓛 (‵ (fres x.ghost_name ((coded_holeys S).code (heres S x.now)))) (𝓛.names.obs-res x.ghost_name ((coded_holeys S).code (heres S x.now))) $
      use1 𝓛 (‵ (finally S x.ghost_name x.now)) (res-finally 𝓛 (named j) κ S x.ghost_name x.now) $ keep ! (0 ∷ 1 ∷ []) $ fjoin ! $ done !

module _ (k : Kind) {M : Type 1} (𝓤 : Ura M) (ps : List (Param 1)) (ks : Kepts ps) (S : RattleType) (Asks : (κs : Lfts 1) → List k.type.D → Denots (types_at ps κs) → SProp 𝓤)
    (Said : (κs : Lfts 1) → List k.type.D → Denots (types_at ps κs) → S.Denot → Type 0) where
  abbrev seeing : Ended
  seeing = record { signature = record { lifetimes = 1; outlives = []; params = SliceRefOf (0 ∷ []) tt (plain (λ _. R k)) (λ _. tt) ∷ ps; result = plain (λ _. S) }; kept = (yes, ks) }

  abbrev see_clauses : Clauses 𝓤 seeing
  see_clauses = saying 𝓤 seeing (λ κs a. Asks κs a.0.now a.1) (λ κs a r e. Said κs a.0.now a.1 r)

  abbrev pub Sees : (𝓛 : Logic 𝓤) → Contract 𝓤
  Sees 𝓛 = triple_of 𝓛 seeing.signature (closing 𝓛 seeing see_clauses)

module _ (k : Kind) (ps : List (Param 1)) (ks : Kepts ps) (Asks : (κs : Lfts 1) → MutBor (List k.type.D) × Denots (types_at ps κs) → Type 0) (after : (κs : Lfts 1) → MutBor (List k.type.D) × Denots (types_at ps κs) → List k.type.D) where
  abbrev taking : Ended
  taking = record { signature = record { lifetimes = 1; outlives = []; params = SliceRefMutOf (0 ∷ []) tt (plain (λ _. R k)) (λ _. tt) ∷ ps; result = plain (λ _. Nothing) }; kept = (yes, ks) }

  abbrev take_clauses : {M : Type 1} (𝓤 : Ura M) → Clauses 𝓤 taking
  take_clauses 𝓤 = saying 𝓤 taking (λ κs a. fact 𝓤 (Asks κs a)) (λ κs a r e. e.0.now ≡ after κs a)

  abbrev pub Takes : {M : Type 1} {𝓤 : Ura M} (𝓛 : Logic 𝓤) → Contract 𝓤
  Takes {𝓤 = 𝓤} 𝓛 = triple_of 𝓛 taking.signature (closing 𝓛 taking (take_clauses 𝓤))

-- the slice of rows ys that is lent for κ, under the name γ
module _ (k : Kind) {M : Type 1} {𝓤 : Ura M} (𝓛 : Logic 𝓤) (ℓ : Lifetime) (κ : Lft) (q : Share) (γ : GName) (b o : ℕ) (ys : List k.type.D) (room : Room (R k) (length ys)) where
  open 𝓛 use {H, A}

  abbrev Row : Type 0
  Row = k.type.D

  abbrev x : GName → MutBor (List Row)
  x δ = record { ref_ptr = (b, o); ghost_name = δ; now = ys }

  abbrev shared : Bor (List Row)
  shared = record { ref_ptr = (b, o); now = ys }

  abbrev s : Val
  s = slice_val (b, o) (length ys)

  abbrev Own : Fml
  Own = (MutSlice ℓ κ (R k)).own_val (x γ) (s ∷ [])

  -- the locals once the slice in local j is lent on in local c
  abbrev lent : ℕ → ℕ → List Slot → List Slot
  lent a c ss = put c s (put a (vptr b o) ss)

  module _ (ps : List (Param 1)) (ks : Kepts ps) (S : RattleType) (Asks : (κs : Lfts 1) → List Row → Denots (types_at ps κs) → SProp 𝓤) (Said : (κs : Lfts 1) → List Row → Denots (types_at ps κs) → S.Denot → Type 0)
      (xs : (κs : Lfts 1) → Denots (types_at ps κs)) (vss : (κs : Lfts 1) → Valss (types_at ps κs)) where
    abbrev S' : Contract 𝓤
    S' = Sees k 𝓤 ps ks S Asks Said 𝓛

    abbrev seen : Ended
    seen = seeing k 𝓤 ps ks S Asks Said

    abbrev seen_clauses : Clauses 𝓤 seen
    seen_clauses = see_clauses k 𝓤 ps ks S Asks Said

    -- what is asked of the other values
    pub record Owed : Type 1 where
      pub asked : (κs : Lfts 1) → ent 𝓤 (emp 𝓤) (Asks κs ys (xs κs))
      pub owned : (κs : Lfts 1) → ent 𝓤 (emp 𝓤) (sem 𝓛 (owns (types_at ps κs) (xs κs) (vss κs)))

    abbrev loan : ℕ → Lfts 1
    loan ν = (ν ∷ [], tt)

    abbrev Shared : ℕ → Fml
    Shared ν = (ShrSlice (named 0) (ν ∷ []) (R k)).own_val shared (s ∷ [])

    abbrev to_see : ℕ → S'.Ghost
    to_see ν = ((loan ν, (full_share, tt), tt, (shared, xs (loan ν)), (s ∷ [], vss (loan ν))), tt)

    goes_see : Owed → (ν : ℕ) → ent 𝓤 (sep 𝓤 (A.lft (ν ∷ []) full_share) (sem 𝓛 (Shared ν))) (S'.pre (to_see ν))
    goes_see owed ν =
        qed 𝓛 (‵ (flft (ν ∷ []) full_share) ∷ ‵ (Shared ν) ∷ []) ∵ use0 𝓛 (raw (Asks (loan ν) ys (xs (loan ν)))) (owed.asked (loan ν)) $
        use0 𝓛 (‵ (owns (types_at ps (loan ν)) (xs (loan ν)) (vss (loan ν)))) (owed.owned (loan ν)) $ move ! (3 ∷ 0 ∷ []) $ fjoin ! $
        nothing ! $ move ! (3 ∷ 0 ∷ []) $ join ! $ move ! (0 ∷ 1 ∷ []) $ join ! $ frame ! $ done !

    see_said : (ν : ℕ) (y : S.Denot) → ent 𝓤 (ensured 𝓛 seen seen_clauses (loan ν) (shared, xs (loan ν)) tt y) (fact 𝓤 (Said (loan ν) ys (xs (loan ν)) y))
    see_said ν y = ex_e 𝓤 _ (λ ws. snd∗ 𝓤 (sem 𝓛 (lasts seen (loan ν) (shared, xs (loan ν)) ws)) (fact 𝓤 (Said (loan ν) ys (xs (loan ν)) y)))

    pub sees : {K : Type 0} → K → {Γ : List (Item 𝓤)} {E : Env 𝓤 H} {C : Calls 𝓤 H} {Λ : Loops 𝓤 H} {Q : Post 𝓤 H} {ss : List Slot} {d : ℕ} {#see : Name} {os : List Operand} {rest : Body}
        → FmC 𝓤 H 𝓛.laws C → Triple 𝓤 (C #see) S' → (τ : Ty) (mach : S.Denot → Val) → Tells S (Is S) (λ y. mach y ∷ []) → ((y : S.Denot) → Is S y (mach y ∷ []) → T (has_ty τ (mach y)) × WT (mach y)) → Typed 𝓤 H E d τ → Owed
        → ((P P' : Item 𝓤) (κs : Lfts 1) → Opds K 𝓛 (P ∷ P' ∷ Locals H E ss ∷ Γ) E os (flat (types_at seen.signature.params κs) (s ∷ [], vss κs)))
        → ((κs : Lfts 1) (y : S.Denot) → Said κs ys (xs κs) y → Is S y (mach y ∷ []) → Seq K 𝓛 (Locals H E (put d (mach y) ss) ∷ ‵ Own ∷ ‵ (flft κ q) ∷ Γ) (runs C Λ E rest Q))
        → Seq K 𝓛 (Locals H E ss ∷ ‵ Own ∷ ‵ (flft κ q) ∷ Γ) (runs C Λ E (seq (call #see os (place d [])) rest) Q)
    sees _ fm known τ mach tell typed nd owed read goes = stated (
        lft_new ! tt (λ ν. move ! (2 ∷ 3 ∷ 0 ∷ []) $ move ! (1 ∷ 2 ∷ []) $ join ! $ move ! (1 ∷ 0 ∷ []) $
        use2 𝓛 (later (‵ (Shared ν) ⊛ (‵ (SharedAgain (R k) κ (ν ∷ []) q γ b o ys) ⊛ ‵ (flft (ν ∷ []) full_share)))) (shares_again (R k) κ (ν ∷ []) q γ b o 𝓛 ℓ (named 0) ys (copied k 𝓛) room full_share) $
        await ! tt $ split ! $ move ! (1 ∷ []) $ split ! $ move ! (1 ∷ 2 ∷ []) $ use2 𝓛 (raw (S'.pre (to_see ν))) (goes_see owed ν) $
        -- [the precondition; what is kept; the locals; …]
        calls_at ! fm S' known (to_see ν) (record { go = (read (raw (S'.pre (to_see ν))) (‵ (SharedAgain (R k) κ (ν ∷ []) q γ b o ys)) (loan ν)).go }) (λ w.
        use1 𝓛 (later (some (λ (y : S.Denot). ((‵ (flft (ν ∷ []) full_share) ⊛ ‵ ftrue) ⊛ ‵ (S.own_val y (w ∷ []))) ⊛ raw (ensured 𝓛 seen seen_clauses (loan ν) (shared, xs (loan ν)) tt y)))) (id⊢ 𝓤 _) $
        await ! tt $ pick ! (λ y.
        split ! $ move ! (1 ∷ []) $ use1 𝓛 (raw (fact 𝓤 (Said (loan ν) ys (xs (loan ν)) y))) (see_said ν y) $ heard ! (Said (loan ν) ys (xs (loan ν)) y) (λ e. split ! $ split ! $
        -- [the loan's token; …; what the answer owns; what is kept; the locals; …]
        lft_end ! tt $ move ! (0 ∷ 3 ∷ []) $
        use2 𝓛 (later (‵ Own ⊛ ‵ (flft κ q))) (share_back (R k) κ (ν ∷ []) q γ b o 𝓛 ℓ (named 0) ys room) $ await ! tt $ split ! $
        move ! (2 ∷ []) $ drop ! $ move ! (2 ∷ 3 ∷ []) $ lands_as ! τ S mach tell typed y nd (λ is. premise (goes (loan ν) y e is)))))))

  module _ (ps : List (Param 1)) (ks : Kepts ps) (Asks : (κs : Lfts 1) → MutBor (List Row) × Denots (types_at ps κs) → Type 0) (after : (κs : Lfts 1) → MutBor (List Row) × Denots (types_at ps κs) → List Row)
      (xs : Denots (types_at ps (κ, tt))) (vss : Valss (types_at ps (κ, tt))) where
    abbrev G : Contract 𝓤
    G = Takes k ps ks Asks after 𝓛

    abbrev taken : Ended
    taken = taking k ps ks Asks after

    abbrev last : List Row
    last = after (κ, tt) (x γ, xs)

    abbrev to_take : G.Ghost
    to_take = (((κ, tt), (q, tt), tt, (x γ, xs), (s ∷ [], vss)), tt)

    goes_take : Asks (κ, tt) (x γ, xs) → ent 𝓤 (emp 𝓤) (sem 𝓛 (owns (types_at ps (κ, tt)) xs vss)) → ent 𝓤 (sep 𝓤 (A.lft κ q) (sem 𝓛 Own)) (G.pre to_take)
    goes_take asks owed =
        qed 𝓛 (‵ (flft κ q) ∷ ‵ Own ∷ []) ∵ says ! asks $ nothing ! $ move ! (1 ∷ 0 ∷ []) $ join ! $ frame ! $ use0 𝓛 (‵ (owns (types_at ps (κ, tt)) xs vss)) owed $ move ! (1 ∷ 0 ∷ []) $ fjoin ! $ done !

    pub gives : {K : Type 0} → K → {Γ : List (Item 𝓤)} {E : Env 𝓤 H} {C : Calls 𝓤 H} {Λ : Loops 𝓤 H} {Q : Post 𝓤 H} {ss : List Slot} {j a c d : ℕ} {τ : Ty} {#take : Name} {os : List Operand} {rest : Body}
        → FmC 𝓤 H 𝓛.laws C → Triple 𝓤 (C #take) G
        → Typed 𝓤 H E j (slice_ty (ty_ref ℓ mut (ref k))) → Typed 𝓤 H E a (ty_ref erased mut (ref k)) → Typed 𝓤 H E c (slice_ty (ty_ref erased mut (ref k))) → Typed 𝓤 H E d ty_unit
        → slot j ss ≡ has s → slot j (put a (vptr b o) ss) ≡ has s → Asks (κ, tt) (x γ, xs) → ent 𝓤 (emp 𝓤) (sem 𝓛 (owns (types_at ps (κ, tt)) xs vss))
        → ((P : Item 𝓤) → Opds K 𝓛 (P ∷ Locals H E (lent a c ss) ∷ Γ) E os (G.args to_take))
        → ((u : Val) (zs : List Row) → length zs ≡ length ys → zs ≡ last → Seq K 𝓛 (Locals H E (put d u (lent a c ss)) ∷ ‵ (Gave (R k) κ (x γ) zs) ∷ ‵ (flft κ q) ∷ Γ) (runs C Λ E rest Q))
        → Seq K 𝓛 (Locals H E ss ∷ ‵ Own ∷ ‵ (flft κ q) ∷ Γ)
        (runs C Λ E (seq (assign (place a []) (addr_of (place j (field 0 ∷ deref τ ∷ [])))) (seq (assign (place c []) (aggregate (copy (place a []) ∷ copy (place j (field 1 ∷ [])) ∷ []))) (seq (call #take os (place d [])) rest))) Q)
    gives _ {d = d} fm known nj na nc nd hj hj' asks owed read goes = stated (
        relends ! ℓ mut (ref k) nj na nc hj hj' room.0 $ move ! (2 ∷ 1 ∷ []) $ use2 𝓛 (raw (G.pre to_take)) (goes_take asks owed) $
        calls_at ! fm G known to_take (record { go = (read (raw (G.pre to_take))).go }) (λ u.
        use1 𝓛 (later (some (λ (z : Unit {0}). ((‵ (flft κ q) ⊛ ‵ ftrue) ⊛ ‵ (Nothing.own_val z (u ∷ []))) ⊛ raw (ensured 𝓛 taken (take_clauses k ps ks Asks after 𝓤) (κ, tt) (x γ, xs) tt z)))) (id⊢ 𝓤 _) $
        await ! tt $ pick ! (λ z. split ! $ move ! (1 ∷ []) $
        use1 𝓛 (some (λ (zs : List Row × Fins (κ, tt) ps ks xs). ‵ (lasts taken (κ, tt) (x γ, xs) zs) ⊛ raw (fact 𝓤 (zs.0 ≡ last)))) (id⊢ 𝓤 _) $
        pick ! (λ zs. split ! $ move ! (1 ∷ []) $ heard ! (zs.0 ≡ last) (λ ez. fsplit ! $ fsplit ! $ fsplit ! $ move ! (1 ∷ []) $ feq_l ! (λ len. fjoin ! $
        -- [the last list; …; what is returned; the locals; …]
        move ! (2 ∷ []) $ split ! $ split ! $ move ! (2 ∷ []) $ peeks ! Nothing (Is Nothing) (shows 𝓛 Nothing) z (u ∷ []) (λ isu. drop ! $
        -- [the token; …; the last list; …; the locals; …]
        move ! (4 ∷ 2 ∷ 0 ∷ []) $ land ! (spot ! nd (stop !)) (sets ! d nd ((Nothing-Lawful 𝓛).typed z _ isu).0) $
        move ! (3 ∷ []) $ drop ! $ move ! (3 ∷ []) $ drop ! $ premise (goes u zs.0 len ez))))))))
