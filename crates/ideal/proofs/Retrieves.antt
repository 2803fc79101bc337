-- What a retrieve says of history. Assumes nothing.
use Prim.Native.Nat.{ℕ, suc, ◌+◌, ◌≤◌, ◌<◌}
use mathlib.Core.Path.{◌≡◌, refl, sym, ap, ◌∙◌}
use mathlib.Core.Logic.{◌↔◌}
use mathlib.Core.Bool.{Bool, true, false, ◌&&◌, cond}
use mathlib.Core.List.{List}
use mathlib.Core.Option.{Option, none, some}
use native.Mathlib.Omega.{arith}
use lib.ListN.{length, get_or-eq_default}
use lib.Dec.{ltb}
use borrow.Author.Tests.{eqb-true, eqb-false, eq-eqb, ne_eqb, ltb-true, ltb-false, lt-ltb, le-ltb}
use Rattle.record.specs.declared.Handle.{Handle}
use Rattle.record.specs.Call.{Call, protect, retrieve}
use Rattle.record.specs.Read.{whole, read}
use Rattle.ideal.specs.State.{Escrowed, State, caller, own_part, writes, any, same_bytes}
use Rattle.ideal.specs.Step.{is_escrowed, found, has_handle, absent, value_in, idle, beyond, tests, first_holding, refusal, move, apply, effect, number}
use Rattle.ideal.specs.Tables.{tables}
use Rattle.ideal.specs.Soundness.{same_handle}
use Rattle.ideal.specs.Box.{Element, call_on, element_at, tables_before, answer_at}
use Rattle.ideal.specs.Refusals.{own_bytes}
use Rattle.ideal.specs.Accuracy.{ProtectsAt, Sized, Runs, HeldBefore, HandsOut, RetrieveAt, with_own_bytes, RetrieveIsAccurate}
use Rattle.lists.proofs.Bools.{by_cases, and_left}
use Rattle.lists.proofs.Lists.{same_bytes_lem, same_bytes_refl}
use Rattle.ideal.specs.Valid.{Valid}
use Rattle.ideal.proofs.Unique.{finds, found_any}
use Rattle.ideal.proofs.Entries.{escrow_of_lem}
use Rattle.ideal.proofs.OwnHeap.{own_written, written_stands}
use Rattle.ideal.proofs.Runs.{state_before, valid_before, tables_before_lem, running_before, caller_before, own_before, sized_at, code_at, accepted_at_lem, accepts_at, Accepted, number_at_lem, state_after}
use Rattle.ideal.proofs.Does.{busy, protect_passed}
use Rattle.ideal.proofs.Escrows.{is_held, held_since}
use Rattle.ideal.proofs.GivenUp.{is_named_lem}
use Rattle.ideal.proofs.Checks.{same_cond}

-- ---- what a retrieve finds

-- the running program finds v from the source under the handle
pub record Finds (s : State) (source : ℕ) (h : Handle) (v : List ℕ) : Type 0 where
  pub entry : Escrowed
  pub is : found s source h ≡ some entry
  pub value : entry.value ≡ v

like : (h : Handle) (i r : ℕ) (a b : Escrowed) → is_escrowed h i r a ≡ true → is_escrowed h i r b ≡ true
    → same_handle a b ≡ true
unfolding is_escrowed same_handle has_handle
like h i r a b x y =
    let m = is_named_lem h i r a (and_left _ _ x) in
    let n = is_named_lem h i r b (and_left _ _ y) in
    eq-eqb _ _ (n.handle ∙ sym m.handle)

held_found : (s : State) (i : ℕ) (h : Handle) (v : List ℕ) → Valid s
    → (any (is_held h i (caller s) v) s.escrow ≡ true) ↔ Finds s i h v
unfolding found is_held is_escrowed
held_found s i h v valid = (to, from)
  where
    p : Escrowed → Bool
    p = is_escrowed h i (caller s)

    q : Escrowed → Bool
    q = λ e. same_bytes e.value v

    to : any (λ e. p e && q e) s.escrow ≡ true → Finds s i h v
    to x =
        let r = finds same_handle p q (like h i (caller s)) s.escrow (escrow_of_lem valid).apart x in
        record { entry = r.element; is = r.is; value = same_bytes_lem _ _ r.passes }

    from : Finds s i h v → any (λ e. p e && q e) s.escrow ≡ true
    from f = found_any p q s.escrow f.entry f.is (rw f.value (same_bytes_refl v))

-- it is found where an earlier accepted protect escrowed it for the running program, which has not released it since
pub found_since : (es : List Element) (k i : ℕ) (h : Handle) (v : List ℕ)
    → Finds (state_before es k) i h v ↔ HeldBefore call_on es k i h v
found_since es k i h v =
    let held = held_found (state_before es k) i h v (valid_before es k) in
    let since = held_since es h i (caller (state_before es k)) v k in
    rw (caller_before es k) (λ f. since.0 (held.1 f), λ x. held.0 (since.1 x))

-- ---- the call at an index

-- who protects has an identity, and so has whom it is for
pub record Named (i r : ℕ) : Type 0 where
  pub source : i ≡ 0 → ⊥
  pub recipient : r ≡ 0 → ⊥

pub protects_named : (es : List Element) (k i r : ℕ) (h : Handle) (v : List ℕ) → ProtectsAt call_on es i r h v k → Named i r
protects_named es k i r h v l =
    let a = accepted_at_lem es k (protect r l.offset l.size l.draw) l.used l.reads l.accepts in
    let w = protect_passed (state_before es k) r l.offset l.size l.draw (valid_before es k) a.passes in
    record { source = λ e. (valid_before es k).live w.runs (sym (caller_before es k) ∙ l.by ∙ e); recipient = w.named }

idle_caller : (s : State) → Valid s → idle s ≡ true → caller s ≡ 0
unfolding idle
idle_caller s valid e =
    let n = eqb-true s.running 16 e in
    get_or-eq_default s.identities 0 (omega (arith, valid.places))

-- a program runs, and the source is named
pub record Ready (s : State) (i : ℕ) : Type 0 where
  pub runs : idle s ≡ false
  pub named : i ≡ 0 → ⊥

-- it then finds nothing, or something
pub data Sought (s : State) (i : ℕ) (h : Handle) : Type 0 where
  nothing : found s i h ≡ none → Sought s i h
  something : (v : List ℕ) → Finds s i h v → Sought s i h

pub sought : (s : State) (i : ℕ) (h : Handle) → Sought s i h
sought s i h = at (found s i h) refl
  where
    at : (f : Option Escrowed) → found s i h ≡ f → Sought s i h
    at none e = nothing e
    at (some x) e = something x.value (record { entry = x; is = e; value = refl })

module _ (es : List Element) (k i : ℕ) (h : Handle) where
  pub ready : (v : List ℕ) → HeldBefore call_on es k i h v → Ready (state_before es k) i
  ready v x =
      let s = state_before es k in
      let n = protects_named es x.index i _ h v x.there in
      record {
        runs = by_cases (idle s)
            (λ t. absurd (n.recipient (caller_before es k ∙ idle_caller s (valid_before es k) t))) (λ f. f);
        named = n.source;
      }

  pub nowhere : ((v : List ℕ) → HeldBefore call_on es k i h v → ⊥) → found (state_before es k) i h ≡ none
  nowhere n =
      elim (sought (state_before es k) i h) [
        | nothing e ↦ e
        | something v f ↦ absurd (n v ((found_since es k i h v).0 f))
      ]

  pub unheld : found (state_before es k) i h ≡ none → (v : List ℕ) → HeldBefore call_on es k i h v → ⊥
  unheld e v x =
      let f = (found_since es k i h v).1 x in
      let q : some f.entry ≡ none = sym f.is ∙ e in
      let y : ◌≡◌ {A = ℕ} 0 1 = cc in
      omega arith

  pub is_ready : Runs call_on es k → (i ≡ 0 → ⊥) → Ready (state_before es k) i
  unfolding idle
  is_ready r n = record { runs = ne_eqb (state_before es k).running 16 (λ e. r (running_before es k ∙ e)); named = n }

  pub runs_there : Ready (state_before es k) i → Runs call_on es k
  unfolding idle
  runs_there r e = eqb-false (state_before es k).running 16 r.runs (sym (running_before es k) ∙ e)

module _ (s : State) (i o : ℕ) (h : Handle) where
  was_ready : (n : ℕ) → refusal s (retrieve i o h) ≡ n → (n ≡ 4 → ⊥) → (n ≡ 9 → ⊥) → Ready s i
  unfolding refusal tests first_holding
  was_ready n e four nine =
      let r : idle s ≡ false = by_cases (idle s) (λ t. absurd (four (sym e ∙ rw t))) (λ f. f) in
      record { runs = r; named = λ z. nine (sym e ∙ rw (r, eq-eqb i 0 z)) }

  absent_refusal : Ready s i → found s i h ≡ none → refusal s (retrieve i o h) ≡ 10
  unfolding refusal tests first_holding absent
  absent_refusal r e = rw (r.runs, ne_eqb i 0 r.named, e)

  module _ (v : List ℕ) (f : Finds s i h v) where
    found_refusal : Ready s i → refusal s (retrieve i o h) ≡ cond (ltb 256 (o + length v)) 11 0
    unfolding refusal tests first_holding absent value_in beyond
    found_refusal r = rw (r.runs, ne_eqb i 0 r.named, f.is, f.value)

    retrieve_effect : effect s (retrieve i o h) ≡ apply s (writes s.running o v)
    unfolding effect move value_in
    retrieve_effect = rw (f.is, f.value)

    retrieve_number : number s (retrieve i o h) ≡ length v
    unfolding number value_in
    retrieve_number = rw (f.is, f.value)

module _ (es : List Element) (k i o : ℕ) (h : Handle) (used : ℕ)
    (reads : read (element_at es k).bytes ≡ whole (retrieve i o h) used) where
  abbrev s : State
  s = state_before es k

  abbrev c : Call
  c = retrieve i o h

  hands : (v : List ℕ) → Accepted s (element_at es k) c used → Ready s i → Finds s i h v → o + length v ≤ 256
      → HandsOut call_on es o v k
  unfolding apply
  hands v a r f fits =
      let w = busy s (valid_before es k) r.runs in
      let q : state_before es (suc k) ≡ apply s (writes s.running o v) = state_after es k c used a ∙ retrieve_effect s i o h v f in
      let w' : (state_before es (suc k)).running < 16 = rw q w in
      record {
        accepts = (accepts_at es k c used a, number_at_lem es k c used a ∙ retrieve_number s i o h v f);
        stands =
            own_before es (suc k) o (length v) w' fits ∙ ap (λ x. own_part x o (length v)) q
            ∙ written_stands s (valid_before es k) w o v fits;
        alters =
            tables_before_lem es (suc k) ∙ ap tables q ∙ own_written s (valid_before es k) w o v fits
            ∙ ap (λ x. with_own_bytes x o v) (sym (tables_before_lem es k));
      }

  accept : (v : List ℕ) → Sized call_on es k → Ready s i → Finds s i h v → o + length v ≤ 256
      → Accepted s (element_at es k) c used
  accept v z r f fits =
      record { sized = z; reads = reads; passes = found_refusal s i o h v f r ∙ rw (le-ltb 256 (o + length v) fits) }

  -- what an accepted retrieve found
  record Got : Type 0 where
    value : List ℕ
    finds : Finds s i h value
    fits : o + length value ≤ 256

  got : Ready s i → refusal s c ≡ 0 → Got
  got r p =
      elim (sought s i h) [
        | nothing e ↦ let q = sym (absent_refusal s i o h r e) ∙ p in absurd (omega arith)
        | something v f ↦ let q = sym (found_refusal s i o h v f r) ∙ p in
            record { value = v; finds = f; fits = ltb-false 256 _ (same_cond 10 _ false q) }
      ]

  there : (v : List ℕ) → HandsOut call_on es o v k
      → Sized call_on es k × HeldBefore call_on es k i h v × (o + length v ≤ 256)
  there v x =
      let a = accepted_at_lem es k c used reads x.accepts.0 in
      let r = was_ready s i o h 0 a.passes (λ e. omega arith) (λ e. omega arith) in
      let g = got r a.passes in
      let u = hands g.value a r g.finds g.fits in
      let n : length g.value ≡ length v = sym u.accepts.1 ∙ x.accepts.1 in
      let q : g.value ≡ v = sym u.stands ∙ ap (own_bytes (tables_before call_on es (suc k)) o) n ∙ x.stands in
      (a.sized, rw q at ((found_since es k i h g.value).0 g.finds), rw n at g.fits)

  back : (v : List ℕ) → Sized call_on es k × HeldBefore call_on es k i h v × (o + length v ≤ 256)
      → HandsOut call_on es o v k
  back v x =
      let f = (found_since es k i h v).1 x.1 in
      let r = ready es k i h v x.1 in
      hands v (accept v x.0 r f x.2) r f x.2

  one_value : (v w : List ℕ) → HeldBefore call_on es k i h v → HeldBefore call_on es k i h w → v ≡ w
  one_value v w x y =
      let f = (found_since es k i h v).1 x in
      let g = (found_since es k i h w).1 y in
      let q : some f.entry ≡ some g.entry = sym f.is ∙ g.is in
      let e : f.entry ≡ g.entry = cc in
      sym f.value ∙ ap (λ r. r.value) e ∙ g.value

  -- what 10 says
  record NotThere : Type 0 where
    ready : Ready s i
    nothing : found s i h ≡ none

  ten : refusal s c ≡ 10 → NotThere
  ten p =
      let r = was_ready s i o h 10 p (λ e. omega arith) (λ e. omega arith) in
      elim (sought s i h) [
        | nothing e ↦ record { ready = r; nothing = e }
        | something v f ↦ let q = sym (found_refusal s i o h v f r) ∙ p in
            absurd (by_cases (ltb 256 (o + length v)) (λ t. let n = rw t at q in omega arith)
            (λ t. let n = rw t at q in omega arith))
      ]

  not_there : ((answer_at call_on es k).code ≡ 10)
      ↔ (Sized call_on es k × Runs call_on es k × (i ≡ 0 → ⊥) × ((v : List ℕ) → HeldBefore call_on es k i h v → ⊥))
  not_there = (
    λ p. let z = sized_at es k (λ e. let n = sym p ∙ e in omega arith) in
        let t = ten (sym (code_at es k c used reads z) ∙ p) in
        (z, runs_there es k i h t.ready, t.ready.named, unheld es k i h t.nothing),
    λ p. code_at es k c used reads p.0 ∙ absent_refusal s i o h (is_ready es k i h p.1 p.2) (nowhere es k i h p.3),
  )

  too_far : (v : List ℕ) → HeldBefore call_on es k i h v
      → ((answer_at call_on es k).code ≡ 11) ↔ (Sized call_on es k × (256 < o + length v))
  too_far v x =
      let q = found_refusal s i o h v ((found_since es k i h v).1 x) (ready es k i h v x) in (
        λ p. let z = sized_at es k (λ e. let n = sym p ∙ e in omega arith) in
            (z, ltb-true 256 _ (same_cond 10 _ true (sym q ∙ sym (code_at es k c used reads z) ∙ p))),
        λ p. code_at es k c used reads p.0 ∙ q ∙ rw (lt-ltb 256 (o + length v) p.1),
      )

  pub retrieve_at : RetrieveAt call_on es k i o h
  retrieve_at =
      record { hands_out = λ v. (there v, back v); one_value = one_value; not_there = not_there; too_far = too_far }

  pub record Handed : Type 0 where
    pub value : List ℕ
    pub is : HandsOut call_on es o value k

  -- an accepted retrieve hands out a value
  pub handed : (answer_at call_on es k).code ≡ 0 → Handed
  handed e =
      let a = accepted_at_lem es k c used reads e in
      let r = was_ready s i o h 0 a.passes (λ z. omega arith) (λ z. omega arith) in
      let g = got r a.passes in
      record { value = g.value; is = hands g.value a r g.finds g.fits }

pub retrieve_is_accurate : RetrieveIsAccurate call_on
retrieve_is_accurate = retrieve_at
