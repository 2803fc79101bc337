-- A function's locals as one entry of a walk's context. A local is named by its number in the MIR and not by its place in the context, so that a law about a
-- piece of MIR holds in every function that has the piece.
--     Slot, slot, put     what a local holds, if anything; local i's; local i holding v. Past the end of the list the locals are free
--     Typed E i τ         local i of the environment E is of the type τ
--     Locals H E ss       the entry: the locals of E, holding ss
--     spot, inside, sets  a local's place is found; what it holds is read, whole or in part; it is written
--     LocalsBut H E j ss  the same without local j, whose memory is an entry of its own, as while the local is lent
--     inside_but          another local is read meanwhile
--     lifts_out, puts_back    local j is taken out of the locals, and put back as it was
--     allocates, frees_all    the locals are allocated, and freed, whatever they hold
--     keeps, trims        the first n locals as they are, and the others free; a turn of a loop ends so
--     relends             a reference to what the slice in local j refers to is made in local c, through the pointer in local a
--     lands_as            a call's result, of a type whose relation tells its machine value, is stored
-- Assumes `Logic`.
use mathlib.Core.Path.{◌≡◌, refl, sym, ◌∙◌, ap, subst}
use Prim.Native.Nat.{ℕ, zero, suc, ◌<◌, ◌^◌}
use mathlib.Core.List.{List, [], ◌∷◌}
use lib.ListN.{get_or}
use lib.Dec.{T}
use Rattle.lending.proofs.Walk.{Ura, full_share, Ty, Lifetime, Mutability, mut, erased, ty_ref, Local, Body, seq, assign, place, field, deref, copy, addr_of, aggregate, Val, vptr, WT, has_ty, SProp, ent, sep, wand, all, emp, guard, guard_i, via, mono_l, emp∗, snd∗, wand_i, apply∗, all_i, all_e, id⊢, Share, fat, Heap, Env, Spot, no_local, alloc, release, Calls, Loops, Item, ‵, raw, given, ◌⊛◌, mean, ⋆, nth, del, pull, unpull, pop, push, Post, Goal, runs, lands, allocs, frees, aim, Seq, Sq, step, ◌$◌, ◌∵◌, !, qed, by, move, drop, use1, use2, split, join, learn, check, assume, frame, each, done, Reads, Finds, Writes, stop, hop, fld, from, load, no_more, and_then, addr, assigns, land, Part, whole, sub, look_in, agg, RattleType, Is, Tells, shows, slice_ty, slice_val, peeks, only}
use mir.Syntax.{local as local_of, Step as PStep}
use types.Logic.{Logic}
use types.Kit.{Step}
use types.Run.{Walks}

pub data Slot : Type 0 where
  free : Slot
  has : Val → Slot

abbrev first_of_lem : List Slot → Slot
first_of_lem [] = free
first_of_lem (s ∷ ss) = s

abbrev rest_of : List Slot → List Slot
rest_of [] = []
rest_of (s ∷ ss) = ss

abbrev pub slot : ℕ → List Slot → Slot
slot zero ss = first_of_lem ss
slot (suc i) ss = slot i (rest_of ss)

abbrev pub put : ℕ → Val → List Slot → List Slot
put zero v ss = has v ∷ rest_of ss
put (suc i) v ss = first_of_lem ss ∷ put i v (rest_of ss)

abbrev pub keeps : ℕ → List Slot → List Slot
keeps zero ss = []
keeps (suc n) ss = first_of_lem ss ∷ keeps n (rest_of ss)

is_free : Slot → Type 0
is_free free = Unit {0}
is_free (has v) = ⊥

free_not : (v : Val) → free ≡ has v → ⊥
unfolding is_free
free_not v e = subst is_free e tt

pub slot_put : (i : ℕ) (v : Val) (ss : List Slot) → slot i (put i v ss) ≡ has v
slot_put zero v ss = refl
slot_put (suc i) v ss = slot_put i v (rest_of ss)

slot_none : (i : ℕ) → slot i [] ≡ free
slot_none zero = refl
slot_none (suc i) = slot_none i

put_same : (i : ℕ) (v : Val) (ss : List Slot) → slot i ss ≡ has v → put i v ss ≡ ss
put_same i v [] h = absurd (free_not v (sym (slot_none i) ∙ h))
put_same zero v (s ∷ ss) h = ap (λ (z : Slot). z ∷ ss) (sym h)
put_same (suc i) v (s ∷ ss) h = ap (λ (zs : List Slot). s ∷ zs) (put_same i v ss h)

-- ---- the entry
module _ {M : Type 1} (𝓤 : Ura M) (H : Heap 𝓤) where
  abbrev pub cell : Ty × ℕ → Slot → SProp 𝓤
  cell e free = H.room e.0 e.1 zero
  cell e (has v) = H.at full_share e.0 e.1 zero v

  unfoldable pub hold : Env 𝓤 H → List Slot → SProp 𝓤
  hold [] ss = emp 𝓤
  hold (e ∷ E) ss = sep 𝓤 (sep 𝓤 (cell e (first_of_lem ss)) (H.dies e.0 e.1)) (hold E (rest_of ss))

  -- the locals but local j
  unfoldable pub hold_but : Env 𝓤 H → ℕ → List Slot → SProp 𝓤
  hold_but [] j ss = emp 𝓤
  hold_but (e ∷ E) zero ss = sep 𝓤 (H.dies e.0 e.1) (hold E (rest_of ss))
  hold_but (e ∷ E) (suc j) ss = sep 𝓤 (sep 𝓤 (cell e (first_of_lem ss)) (H.dies e.0 e.1)) (hold_but E j (rest_of ss))

  abbrev pub Typed : Env 𝓤 H → ℕ → Ty → Type 0
  Typed [] i τ = ⊥
  Typed (e ∷ E) zero τ = e.0 ≡ τ
  Typed (e ∷ E) (suc i) τ = Typed E i τ

  abbrev pub block : Env 𝓤 H → ℕ → ℕ
  block E i = (get_or E i (no_local 𝓤 H)).1

  typed_is : (E : Env 𝓤 H) (i : ℕ) (τ : Ty) → Typed E i τ → (get_or E i (no_local 𝓤 H)).0 ≡ τ
  typed_is [] i τ n = absurd n
  typed_is (e ∷ E) zero τ n = n
  typed_is (e ∷ E) (suc i) τ n = typed_is E i τ n

  -- local i with any value gives the entry back
  abbrev Way : Env 𝓤 H → ℕ → List Slot → Ty → SProp 𝓤
  Way E i ss τ = all 𝓤 (λ (u : Val). wand 𝓤 (H.at full_share τ (block E i) zero u) (hold E (put i u ss)))

  -- a cell that holds v is in P, and can be put back
  abbrev Peek : SProp 𝓤 → Ty → ℕ → Val → Type 1
  Peek P τ b v = ent 𝓤 P (sep 𝓤 (H.at full_share τ b zero v) (wand 𝓤 (H.at full_share τ b zero v) P))

  -- the blocks that are allocated for a function's locals, and the environment that they make
  abbrev pub Blocks : List Local → Type 0
  Blocks [] = Unit {0}
  Blocks (l ∷ ls) = ℕ × Blocks ls

  abbrev pub env_of : (ls : List Local) → Blocks ls → Env 𝓤 H
  env_of [] bs = []
  env_of (local_of τ h ∷ ls) bs = (τ, bs.0) ∷ env_of ls bs.1

-- a fact that holds of any two: it shows antt the two, which it cannot find in `hold`
pub data Of (E : List (Ty × ℕ)) (ss : List Slot) : Type 0 where
  of : Of E ss

abbrev pub Locals : {M : Type 1} {𝓤 : Ura M} (H : Heap 𝓤) → Env 𝓤 H → List Slot → Item 𝓤
Locals {M} {𝓤} H E ss = given (Of E ss) (raw (hold 𝓤 H E ss))

pub data But (E : List (Ty × ℕ)) (j : ℕ) (ss : List Slot) : Type 0 where
  but : But E j ss

abbrev pub LocalsBut : {M : Type 1} {𝓤 : Ura M} (H : Heap 𝓤) → Env 𝓤 H → ℕ → List Slot → Item 𝓤
LocalsBut {M} {𝓤} H E j ss = given (But E j ss) (raw (hold_but 𝓤 H E j ss))

abbrev pub Apart : ℕ → ℕ → Type 0
Apart zero zero = ⊥
Apart zero (suc j) = Unit {0}
Apart (suc i) zero = Unit {0}
Apart (suc i) (suc j) = Apart i j

module _ {M : Type 1} {𝓤 : Ura M} (𝓛 : Logic 𝓤) where
  open 𝓛 use {H}

  roomy : (e : Ty × ℕ) (s : Slot) → ent 𝓤 (cell 𝓤 H e s) (H.room e.0 e.1 zero)
  roomy e free = id⊢ 𝓤 (H.room e.0 e.1 zero)
  roomy e (has v) = 𝓛.laws.at_room e.0 e.1 zero v

  back : (E : Env 𝓤 H) (i : ℕ) (ss : List Slot) (τ : Ty) (u : Val) → ent 𝓤 (sep 𝓤 (Way 𝓤 H E i ss τ) (H.at full_share τ (block 𝓤 H E i) zero u)) (hold 𝓤 H E (put i u ss))
  back E i ss τ u =
      qed 𝓛 (raw (Way 𝓤 H E i ss τ) ∷ ‵ (fat full_share τ (block 𝓤 H E i) zero u) ∷ []) ∵
      use1 𝓛 (raw (wand 𝓤 (H.at full_share τ (block 𝓤 H E i) zero u) (hold 𝓤 H E (put i u ss)))) (all_e 𝓤 (λ (z : Val). wand 𝓤 (H.at full_share τ (block 𝓤 H E i) zero z) (hold 𝓤 H E (put i z ss))) u) $
      move ! (1 ∷ 0 ∷ []) $ use2 𝓛 (raw (hold 𝓤 H E (put i u ss))) (apply∗ 𝓤 (H.at full_share τ (block 𝓤 H E i) zero u) (hold 𝓤 H E (put i u ss))) $ done !

  taken : (E : Env 𝓤 H) (i : ℕ) (ss : List Slot) (τ : Ty) → Typed 𝓤 H E i τ → ent 𝓤 (hold 𝓤 H E ss) (sep 𝓤 (cell 𝓤 H (τ, block 𝓤 H E i) (slot i ss)) (Way 𝓤 H E i ss τ))
  unfolding hold
  taken [] i ss τ n = absurd n
  taken (e ∷ E) zero ss τ n =
      subst (λ (σ : Ty). ent 𝓤 (hold 𝓤 H (e ∷ E) ss) (sep 𝓤 (cell 𝓤 H (σ, e.1) (first_of_lem ss)) (Way 𝓤 H (e ∷ E) zero ss σ))) n
      (qed 𝓛 ((raw (cell 𝓤 H e (first_of_lem ss)) ⊛ raw (H.dies e.0 e.1)) ∷ raw (hold 𝓤 H E (rest_of ss)) ∷ []) ∵ split ! $ frame ! $
      each ! (λ (u : Val). wand 𝓤 (H.at full_share e.0 e.1 zero u) (hold 𝓤 H (e ∷ E) (put zero u ss)))
      (λ u. assume {P = hold 𝓤 H (e ∷ E) (put zero u ss)} ! (‵ (fat full_share e.0 e.1 zero u)) $ join ! $ done !))
  taken (e ∷ E) (suc i) ss τ n =
      qed 𝓛 ((raw (cell 𝓤 H e (first_of_lem ss)) ⊛ raw (H.dies e.0 e.1)) ∷ raw (hold 𝓤 H E (rest_of ss)) ∷ []) ∵ move ! (1 ∷ []) $
      use1 𝓛 (raw (cell 𝓤 H (τ, block 𝓤 H E i) (slot i (rest_of ss))) ⊛ raw (Way 𝓤 H E i (rest_of ss) τ)) (taken E i (rest_of ss) τ n) $ split ! $ frame ! $
      each ! (λ (u : Val). wand 𝓤 (H.at full_share τ (block 𝓤 H E i) zero u) (hold 𝓤 H (e ∷ E) (put (suc i) u ss)))
      (λ u. assume {P = hold 𝓤 H (e ∷ E) (put (suc i) u ss)} ! (‵ (fat full_share τ (block 𝓤 H E i) zero u)) $
      -- [local i with u; the way back of the locals after the first; the first]
      move ! (1 ∷ 0 ∷ []) $ use2 𝓛 (raw (hold 𝓤 H E (put i u (rest_of ss)))) (back E i (rest_of ss) τ u) $ move ! (1 ∷ 0 ∷ []) $ done !)

  -- local j apart from the others, and among them again
  apart : (E : Env 𝓤 H) (j : ℕ) (ss : List Slot) (τ : Ty) → Typed 𝓤 H E j τ → ent 𝓤 (hold 𝓤 H E ss) (sep 𝓤 (cell 𝓤 H (τ, block 𝓤 H E j) (slot j ss)) (hold_but 𝓤 H E j ss))
  unfolding hold hold_but
  apart [] j ss τ n = absurd n
  apart (e ∷ E) zero ss τ n =
      subst (λ (σ : Ty). ent 𝓤 (hold 𝓤 H (e ∷ E) ss) (sep 𝓤 (cell 𝓤 H (σ, e.1) (first_of_lem ss)) (hold_but 𝓤 H (e ∷ E) zero ss))) n
      (qed 𝓛 ((raw (cell 𝓤 H e (first_of_lem ss)) ⊛ raw (H.dies e.0 e.1)) ∷ raw (hold 𝓤 H E (rest_of ss)) ∷ []) ∵ split ! $ frame ! $ done !)
  apart (e ∷ E) (suc j) ss τ n =
      qed 𝓛 ((raw (cell 𝓤 H e (first_of_lem ss)) ⊛ raw (H.dies e.0 e.1)) ∷ raw (hold 𝓤 H E (rest_of ss)) ∷ []) ∵ move ! (1 ∷ []) $
      use1 𝓛 (raw (cell 𝓤 H (τ, block 𝓤 H E j) (slot j (rest_of ss))) ⊛ raw (hold_but 𝓤 H E j (rest_of ss))) (apart E j (rest_of ss) τ n) $ split ! $ frame ! $ move ! (1 ∷ 0 ∷ []) $ done !

  together : (E : Env 𝓤 H) (j : ℕ) (ss : List Slot) (τ : Ty) → Typed 𝓤 H E j τ → ent 𝓤 (sep 𝓤 (hold_but 𝓤 H E j ss) (cell 𝓤 H (τ, block 𝓤 H E j) (slot j ss))) (hold 𝓤 H E ss)
  unfolding hold hold_but
  together [] j ss τ n = absurd n
  together (e ∷ E) zero ss τ n =
      subst (λ (σ : Ty). ent 𝓤 (sep 𝓤 (hold_but 𝓤 H (e ∷ E) zero ss) (cell 𝓤 H (σ, e.1) (first_of_lem ss))) (hold 𝓤 H (e ∷ E) ss)) n
      (qed 𝓛 ((raw (H.dies e.0 e.1) ⊛ raw (hold 𝓤 H E (rest_of ss))) ∷ raw (cell 𝓤 H e (first_of_lem ss)) ∷ []) ∵ split ! $ move ! (2 ∷ 0 ∷ []) $ join ! $ done !)
  together (e ∷ E) (suc j) ss τ n =
      qed 𝓛 (((raw (cell 𝓤 H e (first_of_lem ss)) ⊛ raw (H.dies e.0 e.1)) ⊛ raw (hold_but 𝓤 H E j (rest_of ss))) ∷ raw (cell 𝓤 H (τ, block 𝓤 H E j) (slot j (rest_of ss))) ∷ []) ∵ split ! $ frame ! $
      by ! (together E j (rest_of ss) τ n)

  peek : (E : Env 𝓤 H) (i : ℕ) (ss : List Slot) (τ : Ty) (v : Val) → Typed 𝓤 H E i τ → slot i ss ≡ has v → Peek 𝓤 H (hold 𝓤 H E ss) τ (block 𝓤 H E i) v
  peek E i ss τ v n h =
      qed 𝓛 (raw (hold 𝓤 H E ss) ∷ []) ∵
      use1 𝓛 (‵ (fat full_share τ (block 𝓤 H E i) zero v) ⊛ raw (Way 𝓤 H E i ss τ))
      (subst (λ (z : Slot). ent 𝓤 (hold 𝓤 H E ss) (sep 𝓤 (cell 𝓤 H (τ, block 𝓤 H E i) z) (Way 𝓤 H E i ss τ))) h (taken E i ss τ n)) $ split ! $ frame ! $
      assume {P = hold 𝓤 H E ss} ! (‵ (fat full_share τ (block 𝓤 H E i) zero v)) $ move ! (1 ∷ 0 ∷ []) $
      use2 𝓛 (raw (hold 𝓤 H E ss)) (subst (λ (zs : List Slot). ent 𝓤 (sep 𝓤 (Way 𝓤 H E i ss τ) (H.at full_share τ (block 𝓤 H E i) zero v)) (hold 𝓤 H E zs)) (put_same i v ss h) (back E i ss τ v)) $ done !

  beside : (X P : SProp 𝓤) {τ : Ty} {b : ℕ} {v : Val} → Peek 𝓤 H P τ b v → Peek 𝓤 H (sep 𝓤 X P) τ b v
  beside X P {τ} {b} {v} k =
      qed 𝓛 (raw X ∷ raw P ∷ []) ∵ move ! (1 ∷ []) $ use1 𝓛 (‵ (fat full_share τ b zero v) ⊛ raw (wand 𝓤 (H.at full_share τ b zero v) P)) k $ split ! $ frame ! $
      assume {P = sep 𝓤 X P} ! (‵ (fat full_share τ b zero v)) $ use2 𝓛 (raw P) (apply∗ 𝓤 (H.at full_share τ b zero v) P) $ move ! (1 ∷ 0 ∷ []) $ done !

  peek_but : (E : Env 𝓤 H) (i j : ℕ) (ss : List Slot) (τ : Ty) (v : Val) → Apart i j → Typed 𝓤 H E i τ → slot i ss ≡ has v → Peek 𝓤 H (hold_but 𝓤 H E j ss) τ (block 𝓤 H E i) v
  unfolding hold_but
  peek_but [] i j ss τ v d n h = absurd n
  peek_but (e ∷ E) zero zero ss τ v d n h = absurd d
  peek_but (e ∷ E) zero (suc j) ss τ v d n h =
      subst (λ (σ : Ty). Peek 𝓤 H (hold_but 𝓤 H (e ∷ E) (suc j) ss) σ e.1 v) n
      (qed 𝓛 ((raw (cell 𝓤 H e (first_of_lem ss)) ⊛ raw (H.dies e.0 e.1)) ∷ raw (hold_but 𝓤 H E j (rest_of ss)) ∷ []) ∵ split ! $
      use1 𝓛 (‵ (fat full_share e.0 e.1 zero v)) (subst (λ (z : Slot). ent 𝓤 (cell 𝓤 H e (first_of_lem ss)) (cell 𝓤 H e z)) h (id⊢ 𝓤 _)) $ frame ! $
      assume {P = hold_but 𝓤 H (e ∷ E) (suc j) ss} ! (‵ (fat full_share e.0 e.1 zero v)) $
      use1 𝓛 (raw (cell 𝓤 H e (first_of_lem ss))) (subst (λ (z : Slot). ent 𝓤 (cell 𝓤 H e z) (cell 𝓤 H e (first_of_lem ss))) h (id⊢ 𝓤 _)) $ join ! $ done !)
  peek_but (e ∷ E) (suc i) zero ss τ v d n h = beside (H.dies e.0 e.1) (hold 𝓤 H E (rest_of ss)) (peek E i (rest_of ss) τ v n h)
  peek_but (e ∷ E) (suc i) (suc j) ss τ v d n h =
      beside (sep 𝓤 (cell 𝓤 H e (first_of_lem ss)) (H.dies e.0 e.1)) (hold_but 𝓤 H E j (rest_of ss)) (peek_but E i j (rest_of ss) τ v d n h)

  released : (E : Env 𝓤 H) (ss : List Slot) (P : SProp 𝓤) → ent 𝓤 (sep 𝓤 (hold 𝓤 H E ss) P) (release 𝓤 H E P)
  unfolding hold
  released [] ss P = snd∗ 𝓤 (emp 𝓤) P
  released (e ∷ E) ss P =
      qed 𝓛 (((raw (cell 𝓤 H e (first_of_lem ss)) ⊛ raw (H.dies e.0 e.1)) ⊛ raw (hold 𝓤 H E (rest_of ss))) ∷ raw P ∷ []) ∵ split ! $
      use1 𝓛 (raw (H.room e.0 e.1 zero) ⊛ raw (H.dies e.0 e.1)) (mono_l 𝓤 (H.dies e.0 e.1) (roomy e (first_of_lem ss))) $ frame ! $ by ! (released E (rest_of ss) P)

  trimmed : (E : Env 𝓤 H) (n : ℕ) (ss : List Slot) → ent 𝓤 (hold 𝓤 H E ss) (hold 𝓤 H E (keeps n ss))
  unfolding hold
  trimmed [] n ss = id⊢ 𝓤 (emp 𝓤)
  trimmed (e ∷ E) zero ss =
      qed 𝓛 ((raw (cell 𝓤 H e (first_of_lem ss)) ⊛ raw (H.dies e.0 e.1)) ∷ raw (hold 𝓤 H E (rest_of ss)) ∷ []) ∵
      use1 𝓛 (raw (H.room e.0 e.1 zero) ⊛ raw (H.dies e.0 e.1)) (mono_l 𝓤 (H.dies e.0 e.1) (roomy e (first_of_lem ss))) $ frame ! $ by ! (trimmed E zero (rest_of ss))
  trimmed (e ∷ E) (suc n) ss =
      qed 𝓛 ((raw (cell 𝓤 H e (first_of_lem ss)) ⊛ raw (H.dies e.0 e.1)) ∷ raw (hold 𝓤 H E (rest_of ss)) ∷ []) ∵ frame ! $ by ! (trimmed E n (rest_of ss))

  allocated : (ls : List Local) (P : SProp 𝓤) (K : Env 𝓤 H → SProp 𝓤) → ((bs : Blocks 𝓤 H ls) → ent 𝓤 (sep 𝓤 (hold 𝓤 H (env_of 𝓤 H ls bs) []) P) (K (env_of 𝓤 H ls bs)))
      → ent 𝓤 P (alloc 𝓤 H ls K)
  unfolding hold
  allocated [] P K k = via 𝓤 (sep 𝓤 (emp 𝓤) P) (emp∗ 𝓤 P) (k tt)
  allocated (local_of τ h ∷ ls) P K k =
      all_i 𝓤 (λ (b : ℕ). wand 𝓤 (sep 𝓤 (H.room τ b zero) (H.dies τ b)) (alloc 𝓤 H ls (λ E. K ((τ, b) ∷ E)))) (λ (b : ℕ). wand_i 𝓤 P (sep 𝓤 (H.room τ b zero) (H.dies τ b)) (alloc 𝓤 H ls (λ E. K ((τ, b) ∷ E)))
      (allocated ls (sep 𝓤 P (sep 𝓤 (H.room τ b zero) (H.dies τ b))) (λ E. K ((τ, b) ∷ E)) (λ bs.
      qed 𝓛 (raw (hold 𝓤 H (env_of 𝓤 H ls bs) []) ∷ raw P ∷ (raw (H.room τ b zero) ⊛ raw (H.dies τ b)) ∷ []) ∵ move ! (2 ∷ 0 ∷ []) $ join ! $ by ! (k (b, bs)))))

-- ---- the rules
module _ {M : Type 1} {𝓤 : Ura M} {𝓛 : Logic 𝓤} {K : Type 0} {Γ : List (Item 𝓤)} where
  -- a cell of entry n is read
  open 𝓛 use {H}

  reads_in : K → (n : ℕ) {Φ : Type 0} {P : SProp 𝓤} {τ τ' : Ty} {v v' : Val} {s : Share} {l b o : ℕ} {way : Val → Item 𝓤}
      → nth 𝓛 n Γ ≡ given Φ (raw P) → Φ → Peek 𝓤 H P τ l v → Part K 𝓛 (‵ (fat full_share τ l zero v)) s τ' b o v' way → Reads K 𝓛 Γ τ' b o v'
  reads_in t n {Φ} {P} {τ} {v = v} {l = l} at_n φ peeked p = record { go = λ Kt g. via 𝓤 (⋆ 𝓛 Δ) out ((look_in {Γ = Δ} t 0 p).go Kt (via 𝓤 (⋆ 𝓛 Γ) again g)) }
    where
      Back : SProp 𝓤
      Back = wand 𝓤 (H.at full_share τ l zero v) P

      Δ : List (Item 𝓤)
      Δ = ‵ (fat full_share τ l zero v) ∷ raw Back ∷ raw (⋆ 𝓛 (del 𝓛 n Γ)) ∷ []

      out : ent 𝓤 (⋆ 𝓛 Γ) (⋆ 𝓛 Δ)
      out = via 𝓤 (sep 𝓤 (mean 𝓛 (nth 𝓛 n Γ)) (⋆ 𝓛 (del 𝓛 n Γ))) (pull 𝓛 n Γ)
          (subst (λ (j : Item 𝓤). ent 𝓤 (sep 𝓤 (mean 𝓛 j) (⋆ 𝓛 (del 𝓛 n Γ))) (⋆ 𝓛 Δ)) (sym at_n)
          (qed 𝓛 (given Φ (raw P) ∷ raw (⋆ 𝓛 (del 𝓛 n Γ)) ∷ []) ∵ learn ! (λ _. use1 𝓛 (‵ (fat full_share τ l zero v) ⊛ raw Back) peeked $ split ! $ done !)))

      again : ent 𝓤 (⋆ 𝓛 Δ) (⋆ 𝓛 Γ)
      again = via 𝓤 (sep 𝓤 (mean 𝓛 (nth 𝓛 n Γ)) (⋆ 𝓛 (del 𝓛 n Γ)))
          (subst (λ (j : Item 𝓤). ent 𝓤 (⋆ 𝓛 Δ) (sep 𝓤 (mean 𝓛 j) (⋆ 𝓛 (del 𝓛 n Γ)))) (sym at_n)
          (qed 𝓛 Δ ∵ use2 𝓛 (given Φ (raw P)) (via 𝓤 P (apply∗ 𝓤 (H.at full_share τ l zero v) P) (guard_i 𝓤 Φ P φ)) $ done !))
          (unpull 𝓛 n Γ)

module _ {M : Type 1} {𝓤 : Ura M} {𝓛 : Logic 𝓤} {K : Type 0} {E : Env 𝓤 𝓛.H} {Γ : List (Item 𝓤)} where
  open 𝓛 use {H}

  pub spot : K → {i : ℕ} {st : List PStep} {τ : Ty} {sp : Spot 𝓤 H} → Typed 𝓤 H E i τ → Walks K 𝓛 Γ E (τ, block 𝓤 H E i, zero) st sp → Finds K 𝓛 Γ E (place i st) sp
  spot t {i} {st} {τ} {sp} n w = from t (subst (λ (σ : Ty). Walks K 𝓛 Γ E (σ, block 𝓤 H E i, zero) st sp) (sym (typed_is 𝓤 H E i τ n)) w)

  -- within what local i holds a cell is read: the locals are entry n
  pub inside : K → (n i : ℕ) {ss : List Slot} {τ τ' : Ty} {v v' : Val} {s : Share} {b o : ℕ} {way : Val → Item 𝓤}
      → nth 𝓛 n Γ ≡ Locals H E ss → Typed 𝓤 H E i τ → slot i ss ≡ has v → Part K 𝓛 (‵ (fat full_share τ (block 𝓤 H E i) zero v)) s τ' b o v' way → Reads K 𝓛 Γ τ' b o v'
  inside t n i {ss} {τ} {v = v} at_n ty h p = reads_in t n at_n of (peek 𝓛 E i ss τ v ty h) p

  -- and while local j is out
  pub inside_but : K → (n i : ℕ) {j : ℕ} {ss : List Slot} {τ τ' : Ty} {v v' : Val} {s : Share} {b o : ℕ} {way : Val → Item 𝓤}
      → nth 𝓛 n Γ ≡ LocalsBut H E j ss → Apart i j → Typed 𝓤 H E i τ → slot i ss ≡ has v → Part K 𝓛 (‵ (fat full_share τ (block 𝓤 H E i) zero v)) s τ' b o v' way → Reads K 𝓛 Γ τ' b o v'
  inside_but t n i {j} {ss} {τ} {v = v} at_n d ty h p = reads_in t n at_n but (peek_but 𝓛 E i j ss τ v d ty h) p

module _ {M : Type 1} {𝓤 : Ura M} {𝓛 : Logic 𝓤} {K : Type 0} {E : Env 𝓤 𝓛.H} {ss : List Slot} where
  open 𝓛 use {H}

  module _ {Γ : List (Item 𝓤)} where
    pub sets : K → (i : ℕ) {τ : Ty} {v : Val} → Typed 𝓤 H E i τ → T (has_ty τ v) × WT v → Writes K 𝓛 (Locals H E ss ∷ Γ) τ (block 𝓤 H E i) zero v (Locals H E (put i v ss) ∷ Γ)
    sets t i {τ} {v} n wt = record {
      go = λ P h.
          via 𝓤 (sep 𝓤 (guard 𝓤 (Of E ss) (hold 𝓤 H E ss)) (⋆ 𝓛 Γ)) (pop 𝓛 (Locals H E ss) Γ) (qed 𝓛 (Locals H E ss ∷ raw (⋆ 𝓛 Γ) ∷ []) ∵ check ! wt $ learn ! (λ _.
          use1 𝓛 (raw (cell 𝓤 H (τ, block 𝓤 H E i) (slot i ss)) ⊛ raw (Way 𝓤 H E i ss τ)) (taken 𝓛 E i ss τ n) $ split ! $
          use1 𝓛 (raw (H.room τ (block 𝓤 H E i) zero)) (roomy 𝓛 (τ, block 𝓤 H E i) (slot i ss)) $ frame ! $ assume {P = P} ! (‵ (fat full_share τ (block 𝓤 H E i) zero v)) $
          move ! (1 ∷ 0 ∷ []) $ use2 𝓛 (Locals H E (put i v ss)) (via 𝓤 (hold 𝓤 H E (put i v ss)) (back 𝓛 E i ss τ v) (guard_i 𝓤 (Of E (put i v ss)) (hold 𝓤 H E (put i v ss)) of)) $
          by ! (via 𝓤 (⋆ 𝓛 (Locals H E (put i v ss) ∷ Γ)) (push 𝓛 (Locals H E (put i v ss)) Γ) h)));
    }

    pub lifts_out : K → (j : ℕ) (τ : Ty) {g : Goal 𝓤 H} → Typed 𝓤 H E j τ → Step K 𝓛 (raw (cell 𝓤 H (τ, block 𝓤 H E j) (slot j ss)) ∷ LocalsBut H E j ss ∷ Γ) g (Locals H E ss ∷ Γ) g
    lifts_out t j τ n = step (λ s. learn t (λ _. use1 𝓛 (raw (cell 𝓤 H (τ, block 𝓤 H E j) (slot j ss)) ⊛ raw (hold_but 𝓤 H E j ss)) (apart 𝓛 E j ss τ n) $ split t $
        move t (1 ∷ []) $ use1 𝓛 (LocalsBut H E j ss) (guard_i 𝓤 (But E j ss) (hold_but 𝓤 H E j ss) but) $ move t (1 ∷ 0 ∷ []) $ s))

    pub puts_back : K → (j : ℕ) (τ : Ty) {g : Goal 𝓤 H} → Typed 𝓤 H E j τ → Step K 𝓛 (Locals H E ss ∷ Γ) g (LocalsBut H E j ss ∷ raw (cell 𝓤 H (τ, block 𝓤 H E j) (slot j ss)) ∷ Γ) g
    puts_back t j τ n = step (λ s. learn t (λ _. use2 𝓛 (Locals H E ss) (via 𝓤 (hold 𝓤 H E ss) (together 𝓛 E j ss τ n) (guard_i 𝓤 (Of E ss) (hold 𝓤 H E ss) of)) $ s))

    pub trims : K → (n : ℕ) {g : Goal 𝓤 H} → Step K 𝓛 (Locals H E (keeps n ss) ∷ Γ) g (Locals H E ss ∷ Γ) g
    trims t n = step (λ s. learn t (λ _. use1 𝓛 (Locals H E (keeps n ss)) (via 𝓤 (hold 𝓤 H E (keeps n ss)) (trimmed 𝓛 E n ss) (guard_i 𝓤 (Of E (keeps n ss)) (hold 𝓤 H E (keeps n ss)) of)) $ s))

    pub frees_all : K → {g : Goal 𝓤 H} → Step K 𝓛 Γ g (Locals H E ss ∷ Γ) (frees E g)
    frees_all t {g} = step (λ s. record {
      prf = via 𝓤 (sep 𝓤 (guard 𝓤 (Of E ss) (hold 𝓤 H E ss)) (⋆ 𝓛 Γ)) (pop 𝓛 (Locals H E ss) Γ) (qed 𝓛 (Locals H E ss ∷ raw (⋆ 𝓛 Γ) ∷ []) ∵ learn ! (λ _.
          move ! (1 ∷ []) $ use1 𝓛 (raw (aim 𝓤 H g)) s.prf $ move ! (1 ∷ 0 ∷ []) $ by ! (released 𝓛 E ss (aim 𝓤 H g))));
    })

pub allocates : {M : Type 1} {𝓤 : Ura M} {𝓛 : Logic 𝓤} {K : Type 0} {Γ : List (Item 𝓤)} → K → {ls : List Local} {Kt : Env 𝓤 𝓛.H → Goal 𝓤 𝓛.H}
    → ((bs : Blocks 𝓤 𝓛.H ls) → Seq K 𝓛 (Locals 𝓛.H (env_of 𝓤 𝓛.H ls bs) [] ∷ Γ) (Kt (env_of 𝓤 𝓛.H ls bs))) → Seq K 𝓛 Γ (allocs ls Kt)
allocates {𝓤 = 𝓤} {𝓛 = 𝓛} {Γ = Γ} t {ls} {Kt} k = record {
  prf = allocated 𝓛 ls (⋆ 𝓛 Γ) (λ E. aim 𝓤 𝓛.H (Kt E)) (λ bs. qed 𝓛 (raw (hold 𝓤 𝓛.H (env_of 𝓤 𝓛.H ls bs) []) ∷ raw (⋆ 𝓛 Γ) ∷ []) ∵
      use1 𝓛 (Locals 𝓛.H (env_of 𝓤 𝓛.H ls bs) []) (guard_i 𝓤 (Of (env_of 𝓤 𝓛.H ls bs) []) (hold 𝓤 𝓛.H (env_of 𝓤 𝓛.H ls bs) []) of) $
      by ! (via 𝓤 (⋆ 𝓛 (Locals 𝓛.H (env_of 𝓤 𝓛.H ls bs) [] ∷ Γ)) (push 𝓛 (Locals 𝓛.H (env_of 𝓤 𝓛.H ls bs) []) Γ) (k bs).prf));
}

-- a rule is stated at any marker of `Kit`'s, so that `!` serves at its uses, and proved at `Go`
module _ {M : Type 1} {𝓤 : Ura M} {𝓛 : Logic 𝓤} {K : Type 0} {Γ : List (Item 𝓤)} {G : Goal 𝓤 𝓛.H} where
  abbrev pub stated : Sq 𝓛 Γ G → Seq K 𝓛 Γ G
  stated s = record { prf = s.prf }

  abbrev pub premise : Seq K 𝓛 Γ G → Sq 𝓛 Γ G
  premise s = record { prf = s.prf }

module _ {M : Type 1} {𝓤 : Ura M} {𝓛 : Logic 𝓤} {K : Type 0} {Γ : List (Item 𝓤)} {E : Env 𝓤 𝓛.H} {C : Calls 𝓤 𝓛.H} {Λ : Loops 𝓤 𝓛.H} {q : Post 𝓤 𝓛.H} {ss : List Slot} {rest : Body} where
  open 𝓛 use {H}

  pub relends : K → {j a c : ℕ} {τ : Ty} {b o n : ℕ} (ℓ : Lifetime) (m : Mutability) (ρ : Ty)
      → Typed 𝓤 H E j (slice_ty (ty_ref ℓ mut ρ)) → Typed 𝓤 H E a (ty_ref erased m ρ) → Typed 𝓤 H E c (slice_ty (ty_ref erased m ρ))
      → slot j ss ≡ has (slice_val (b, o) n) → slot j (put a (vptr b o) ss) ≡ has (slice_val (b, o) n) → n < 2 ^ 64
      → Step K 𝓛 (Locals H E (put c (slice_val (b, o) n) (put a (vptr b o) ss)) ∷ Γ) (runs C Λ E rest q) (Locals H E ss ∷ Γ)
      (runs C Λ E (seq (assign (place a []) (addr_of (place j (field 0 ∷ deref τ ∷ [])))) (seq (assign (place c []) (aggregate (copy (place a []) ∷ copy (place j (field 1 ∷ [])) ∷ []))) rest)) q)
  relends t {j} {a} {c} {τ} {b} {o} {n} ℓ m ρ nj na nc hj hj' fits = step (λ s. stated (
      assigns ! (addr ! (spot ! nj (fld ! refl (hop ! (inside ! 0 j refl nj hj (sub ! 0 refl (whole !))) (stop !))))) (spot ! na (stop !)) (sets ! a na (tt, tt)) $
      assigns ! (agg ! (and_then ! (load ! (spot ! na (stop !)) (inside ! 0 a refl na (slot_put a (vptr b o) ss) (whole !))) (and_then ! (load ! (spot ! nj (fld ! refl (stop !))) (inside ! 0 j refl nj hj' (sub ! 1 refl (whole !)))) (no_more !))))
      (spot ! nc (stop !)) (sets ! c nc (tt, (tt, (record { fits = fits }, tt)))) $ premise s))

  pub lands_as : K → {d : ℕ} (τ : Ty) (S : RattleType) (val : S.Denot → Val) → Tells S (Is S) (λ x. val x ∷ []) → ((x : S.Denot) → Is S x (val x ∷ []) → T (has_ty τ (val x)) × WT (val x)) → (x : S.Denot) {w : Val} → Typed 𝓤 H E d τ
      → (Is S x (val x ∷ []) → Seq K 𝓛 (Locals H E (put d (val x) ss) ∷ Γ) (runs C Λ E rest q)) → Seq K 𝓛 (‵ (S.own_val x (w ∷ [])) ∷ Locals H E ss ∷ Γ) (lands C Λ E (place d []) w rest q)
  lands_as t {d} τ S val tells typed x {w} n goes = stated (
      peeks ! S (Is S) (shows 𝓛 S) x (w ∷ []) (λ is. drop ! $
      subst (λ (u : Val). Sq 𝓛 (Locals H E ss ∷ Γ) (lands C Λ E (place d []) u rest q)) (sym (ap only (tells x (w ∷ []) is)))
      (let is' = subst (λ (us : List Val). Is S x us) (tells x (w ∷ []) is) is in
      land ! (spot ! n (stop !)) (sets ! d n (typed x is')) $ premise (goes is'))))
