-- Calls of covered functions on plain values. Each law walks a piece of the caller's MIR, wherever its locals are.
--     Answers, asks       any of them, by its parameters and what it says
--     Made, makes_one     one value of a declared type is made of another
--     Counted, counts     the counts of two slices are read, and a code is made of them
--     Tested, tests_one   a value of a declared type is tested
-- Assumes `Logic`.
use mathlib.Core.Path.{◌≡◌, refl}
use mathlib.Core.Bool.{Bool}
use Prim.Native.Nat.{ℕ, ◌<◌, ◌^◌}
use mathlib.Core.List.{List, [], ◌∷◌}
use lib.Dec.{T}
use Rattle.lending.proofs.Walk.{Ura, Name, Ty, Body, w8, w64, ty_bool, ty_int, seq, assign, call, place, field, copy, rv_opd, Val, vint, vbool, WT, has_ty, ent, emp, id⊢, ex_e, snd∗, ftrue, Env, Calls, Loops, sem, fact, Lfts, Item, Post, Seq, runs, ‵, raw, ◌⊛◌, some, later, ◌$◌, ◌∵◌, !, qed, move, drop, use0, use1, split, join, pick, await, fjoin, frame, done, whole, sub, Opds, stop, fld, load, no_more, and_then, of_opd, assigns, FmC, RattleType, Denots, Valss, owns, flat, Is, Tells, Boolean, uint_Makes, uint_Tells, uint_Lawful, bool_Tells, bool_Lawful, u8, usize, slice_ty, slice_val, types_at, plain, nothing, owned, heard, calls_at, Ended, Clauses, closing, ensured, lasts, Kepts, triple_of, Contract, Triple, yes}
use mir.Syntax.{Opd as Operand}
use types.Logic.{Logic}
use denote.Signature.{Slot as Param}
use Rattle.lending.proofs.Says.{saying}
use Rattle.lending.proofs.Kind.{Kind, R, by_val, val, vals, tells, makes, lawful}
use Rattle.lending.proofs.Locals.{Slot, has, slot, put, slot_put, Typed, Locals, spot, inside, sets, stated, premise, lands_as}

module _ (ps : List (Param 0)) (ks : Kepts ps) (S : RattleType) (Said : (κs : Lfts 0) → Denots (types_at ps κs) → S.Denot → Type 0) where
  abbrev answering : Ended
  answering = record { signature = record { lifetimes = 0; outlives = []; params = ps; result = plain (λ _. S) }; kept = ks }

  abbrev answer_clauses : {M : Type 1} (𝓤 : Ura M) → Clauses 𝓤 answering
  answer_clauses 𝓤 = saying 𝓤 answering (λ κs a. emp 𝓤) (λ κs a r e. Said κs a r)

  abbrev pub Answers : {M : Type 1} {𝓤 : Ura M} (𝓛 : Logic 𝓤) → Contract 𝓤
  Answers {𝓤 = 𝓤} 𝓛 = triple_of 𝓛 answering.signature (closing 𝓛 answering (answer_clauses 𝓤))

  module _ {M : Type 1} {𝓤 : Ura M} (𝓛 : Logic 𝓤) (xs : Denots (types_at ps tt)) (vss : Valss (types_at ps tt)) where
    open 𝓛 use {H}

    abbrev to_answer : (Answers 𝓛).Ghost
    to_answer = ((tt, tt, tt, xs, vss), tt)

    goes_answer : ent 𝓤 (emp 𝓤) (sem 𝓛 (owns (types_at ps tt) xs vss)) → ent 𝓤 (emp 𝓤) ((Answers 𝓛).pre to_answer)
    goes_answer owed = qed 𝓛 [] ∵ use0 𝓛 (‵ (owns (types_at ps tt) xs vss)) owed $ nothing ! $ join ! $ frame ! $ done !

    answer_said : (y : S.Denot) → ent 𝓤 (ensured 𝓛 answering (answer_clauses 𝓤) tt xs tt y) (fact 𝓤 (Said tt xs y))
    answer_said y = ex_e 𝓤 _ (λ ws. snd∗ 𝓤 (sem 𝓛 (lasts answering tt xs ws)) (fact 𝓤 (Said tt xs y)))

    pub asks : {K : Type 0} → K → {Γ : List (Item 𝓤)} {E : Env 𝓤 H} {C : Calls 𝓤 H} {Λ : Loops 𝓤 H} {Q : Post 𝓤 H} {ss : List Slot} {d : ℕ} {#ask : Name} {os : List Operand} {rest : Body}
        → FmC 𝓤 H 𝓛.laws C → Triple 𝓤 (C #ask) (Answers 𝓛) → (τ : Ty) (mach : S.Denot → Val) → Tells S (Is S) (λ y. mach y ∷ []) → ((y : S.Denot) → Is S y (mach y ∷ []) → T (has_ty τ (mach y)) × WT (mach y)) → Typed 𝓤 H E d τ
        → ent 𝓤 (emp 𝓤) (sem 𝓛 (owns (types_at ps tt) xs vss)) → ((P : Item 𝓤) → Opds K 𝓛 (P ∷ Locals H E ss ∷ Γ) E os (flat (types_at ps tt) vss))
        → ((y : S.Denot) → Said tt xs y → Is S y (mach y ∷ []) → Seq K 𝓛 (Locals H E (put d (mach y) ss) ∷ Γ) (runs C Λ E rest Q))
        → Seq K 𝓛 (Locals H E ss ∷ Γ) (runs C Λ E (seq (call #ask os (place d [])) rest) Q)
    asks _ fm known τ mach tell typed nd owed read goes = stated (
        use0 𝓛 (raw ((Answers 𝓛).pre to_answer)) (goes_answer owed) $
        calls_at ! fm (Answers 𝓛) known to_answer (record { go = (read (raw ((Answers 𝓛).pre to_answer))).go }) (λ w.
        use1 𝓛 (later (some (λ (y : S.Denot). (‵ ftrue ⊛ ‵ (S.own_val y (w ∷ []))) ⊛ raw (ensured 𝓛 answering (answer_clauses 𝓤) tt xs tt y)))) (id⊢ 𝓤 _) $
        await ! tt $ pick ! (λ y.
        split ! $ move ! (1 ∷ []) $ use1 𝓛 (raw (fact 𝓤 (Said tt xs y))) (answer_said y) $ heard ! (Said tt xs y) (λ e. split ! $ drop ! $
        lands_as ! τ S mach tell typed y nd (λ is. premise (goes y e is))))))

module _ (k t : Kind) (Says : k.type.D → t.type.D → Type 0) where
  abbrev pub Made : {M : Type 1} {𝓤 : Ura M} (𝓛 : Logic 𝓤) → Contract 𝓤
  Made = Answers (plain (λ _. R k) ∷ []) (yes, tt) (R t) (λ κs a y. Says a.0 y)

  module _ {M : Type 1} {𝓤 : Ura M} (𝓛 : Logic 𝓤) (x : k.type.D) (x-is : Is (R k) x (vals k x)) where
    open 𝓛 use {H}

    pub makes_one : {K : Type 0} → K → {Γ : List (Item 𝓤)} {E : Env 𝓤 H} {C : Calls 𝓤 H} {Λ : Loops 𝓤 H} {Q : Post 𝓤 H} {ss : List Slot} {j d : ℕ} {#make : Name} {rest : Body}
        → FmC 𝓤 H 𝓛.laws C → Triple 𝓤 (C #make) (Made 𝓛) → Typed 𝓤 H E j (by_val k) → Typed 𝓤 H E d (by_val t) → slot j ss ≡ has (val k x)
        → ((y : t.type.D) → Says x y → Is (R t) y (vals t y) → Seq K 𝓛 (Locals H E (put d (val t y) ss) ∷ Γ) (runs C Λ E rest Q))
        → Seq K 𝓛 (Locals H E ss ∷ Γ) (runs C Λ E (seq (call #make (copy (place j []) ∷ []) (place d [])) rest) Q)
    makes_one _ {j = j} fm known nj nd hj goes = stated (
        asks (plain (λ _. R k) ∷ []) (yes, tt) (R t) (λ κs a y. Says a.0 y) 𝓛 (x, tt) (vals k x, tt) ! fm known (by_val t) (val t) (tells t) (λ z is. ((lawful t 𝓛).typed z _ is).0) nd
        (qed 𝓛 [] ∵ nothing ! $ owned ! (R k) (Is (R k)) (makes k 𝓛) x _ x-is $ fjoin ! $ done !)
        (λ P. and_then ! (load ! (spot ! nj (stop !)) (inside ! 1 j refl nj hj (whole !))) (no_more !)) (λ y e is. premise (goes y e is)))

module _ (code : ℕ → ℕ → ℕ) where
  abbrev pub Counted : {M : Type 1} {𝓤 : Ura M} (𝓛 : Logic 𝓤) → Contract 𝓤
  Counted = Answers (plain (λ _. usize) ∷ plain (λ _. usize) ∷ []) (yes, (yes, tt)) u8 (λ κs a y. y ≡ code a.0 a.1.0)

  module _ {M : Type 1} {𝓤 : Ura M} (𝓛 : Logic 𝓤) (n m : ℕ) (fits : n < 2 ^ 64) (fits' : m < 2 ^ 64) where
    -- the locals once the counts are read
    open 𝓛 use {H}

    abbrev read : ℕ → ℕ → List Slot → List Slot
    read c c' ss = put c' (vint w64 m) (put c (vint w64 n) ss)

    pub counts : {K : Type 0} → K → {Γ : List (Item 𝓤)} {E : Env 𝓤 H} {C : Calls 𝓤 H} {Λ : Loops 𝓤 H} {Q : Post 𝓤 H} {ss : List Slot} {j j' c c' d : ℕ} {p p' : ℕ × ℕ} {#code : Name} {rest : Body} (ρ ρ' : Ty)
        → FmC 𝓤 H 𝓛.laws C → Triple 𝓤 (C #code) (Counted 𝓛)
        → Typed 𝓤 H E j (slice_ty ρ) → Typed 𝓤 H E j' (slice_ty ρ') → Typed 𝓤 H E c (ty_int w64) → Typed 𝓤 H E c' (ty_int w64) → Typed 𝓤 H E d (ty_int w8)
        → slot j ss ≡ has (slice_val p n) → slot j' (put c (vint w64 n) ss) ≡ has (slice_val p' m) → slot c (read c c' ss) ≡ has (vint w64 n)
        → ((y : ℕ) → y ≡ code n m → y < 2 ^ 8 → Seq K 𝓛 (Locals H E (put d (vint w8 y) (read c c' ss)) ∷ Γ) (runs C Λ E rest Q))
        → Seq K 𝓛 (Locals H E ss ∷ Γ)
        (runs C Λ E (seq (assign (place c []) (rv_opd (copy (place j (field 1 ∷ []))))) (seq (assign (place c' []) (rv_opd (copy (place j' (field 1 ∷ []))))) (seq (call #code (copy (place c []) ∷ copy (place c' []) ∷ []) (place d [])) rest))) Q)
    counts _ {j = j} {j' = j'} {c = c} {c' = c'} ρ ρ' fm known nj nj' nc nc' nd hj hj' hc goes = stated (
        assigns ! (of_opd ! (load ! (spot ! nj (fld ! refl (stop !))) (inside ! 0 j refl nj hj (sub ! 1 refl (whole !))))) (spot ! nc (stop !)) (sets ! c nc (tt, record { fits = fits })) $
        assigns ! (of_opd ! (load ! (spot ! nj' (fld ! refl (stop !))) (inside ! 0 j' refl nj' hj' (sub ! 1 refl (whole !))))) (spot ! nc' (stop !)) (sets ! c' nc' (tt, record { fits = fits' })) $
        asks (plain (λ _. usize) ∷ plain (λ _. usize) ∷ []) (yes, (yes, tt)) u8 (λ κs a y. y ≡ code a.0 a.1.0) 𝓛 (n, (m, tt)) (vint w64 n ∷ [], (vint w64 m ∷ [], tt)) !
        fm known (ty_int w8) (vint w8) (uint_Tells w8) (λ x is. ((uint_Lawful 𝓛 w8).typed x _ is).0) nd
        (qed 𝓛 [] ∵ nothing ! $ owned ! usize (Is usize) (uint_Makes 𝓛 w64) m _ (refl, fits') $ fjoin ! $ owned ! usize (Is usize) (uint_Makes 𝓛 w64) n _ (refl, fits) $ fjoin ! $ done !)
        (λ P. and_then ! (load ! (spot ! nc (stop !)) (inside ! 1 c refl nc hc (whole !))) (and_then ! (load ! (spot ! nc' (stop !)) (inside ! 1 c' refl nc' (slot_put c' (vint w64 m) _) (whole !))) (no_more !)))
        (λ y e is. premise (goes y e is.1)))

module _ (k : Kind) (test : k.type.D → Bool) where
  abbrev pub Tested : {M : Type 1} {𝓤 : Ura M} (𝓛 : Logic 𝓤) → Contract 𝓤
  Tested = Answers (plain (λ _. R k) ∷ []) (yes, tt) Boolean (λ κs a y. y ≡ test a.0)

  module _ {M : Type 1} {𝓤 : Ura M} (𝓛 : Logic 𝓤) (x : k.type.D) (x-is : Is (R k) x (vals k x)) where
    open 𝓛 use {H}

    pub tests_one : {K : Type 0} → K → {Γ : List (Item 𝓤)} {E : Env 𝓤 H} {C : Calls 𝓤 H} {Λ : Loops 𝓤 H} {Q : Post 𝓤 H} {ss : List Slot} {j d : ℕ} {#test : Name} {rest : Body}
        → FmC 𝓤 H 𝓛.laws C → Triple 𝓤 (C #test) (Tested 𝓛) → Typed 𝓤 H E j (by_val k) → Typed 𝓤 H E d ty_bool → slot j ss ≡ has (val k x)
        → ((y : Bool) → y ≡ test x → Seq K 𝓛 (Locals H E (put d (vbool y) ss) ∷ Γ) (runs C Λ E rest Q))
        → Seq K 𝓛 (Locals H E ss ∷ Γ) (runs C Λ E (seq (call #test (copy (place j []) ∷ []) (place d [])) rest) Q)
    tests_one _ {j = j} fm known nj nd hj goes = stated (
        asks (plain (λ _. R k) ∷ []) (yes, tt) Boolean (λ κs a y. y ≡ test a.0) 𝓛 (x, tt) (vals k x, tt) ! fm known ty_bool vbool bool_Tells (λ z is. ((bool_Lawful 𝓛).typed z _ is).0) nd
        (qed 𝓛 [] ∵ nothing ! $ owned ! (R k) (Is (R k)) (makes k 𝓛) x _ x-is $ fjoin ! $ done !)
        (λ P. and_then ! (load ! (spot ! nj (stop !)) (inside ! 1 j refl nj hj (whole !))) (no_more !)) (λ y e is. premise (goes y e)))
