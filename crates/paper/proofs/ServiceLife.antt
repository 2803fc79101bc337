-- Heaps are apart, a hand over keeps a heap, an exit clears it: the statements of specs/ServiceLife.antt. Assumes nothing.
use Prim.Native.Nat.{ℕ, zero, suc, ◌+◌, ◌≤◌, ◌<◌}
use mathlib.Core.Path.{◌≡◌, refl, sym, ap, ◌∙◌, subst}
use mathlib.Core.Bool.{true, false, ◌&&◌}
use mathlib.Core.List.{List, [], ◌∷◌}
use native.Mathlib.Omega.{arith}
use lib.ListN.{length, get_or, set, replicate, length-replicate, get_or-replicate}
use lib.Seq.{get_or-set_same, get_or-set_other, ext_get_or}
use lib.Dec.{eqb, ltb}
use borrow.Author.Tests.{eqb-true, eqb-false, lt-ltb, ltb-true, ltb-false, le-ltb, ne_eqb, not-true, not-false}
use Rattle.record.specs.Call.{Call, exit, heap_read, hand_over}
use Rattle.record.specs.Layout.{stands}
use Rattle.record.specs.Read.{whole, read}
use Rattle.record.specs.Write.{filled}
use Rattle.ideal.specs.State.{State, Move, cleared, identity_at, heap_at, part, own_part}
use Rattle.ideal.specs.Step.{idle, vacant, beyond, first_holding, accepted, shown, refusal, tests, move, apply, effect}
use Rattle.ideal.specs.Tables.{Tables, taken_map, box_record, tables, state_of}
use Rattle.ideal.specs.Soundness.{sizes_right, sound}
use Rattle.ideal.specs.Box.{Element, laid, unsound, call_on, element_at, tables_before, box_by}
use Rattle.ideal.specs.Layouts.{Sound}
use Rattle.ideal.specs.Refusals.{one_of}
use Rattle.ideal.specs.OneCall.{with_places_in, leaves}
use Rattle.ideal.specs.Valid.{Valid}
use Rattle.paper.specs.ServiceLife.{heap_of, WritesOwnHeap, RunsAt, WritesAt, HandsOver, HandOverKeeps, ExitClears, TenantReadsZeros}
use Rattle.lists.proofs.Bools.{by_cases, and_left, and_right}
use Rattle.ideal.proofs.Passing.{failed, passed}
use Rattle.ideal.proofs.Does.{busy, Does, does_nothing, does_take, does_activate, does_empty, does_write, does_share, does_log, does_escrow, does_release, does}
use Rattle.ideal.proofs.Laid.{step_element, valid_sound, tables_state, call_is}
use Rattle.ideal.proofs.Kept.{valid_step}
use Rattle.ideal.proofs.Memory.{part_at, taken_at}
use Rattle.ideal.proofs.Table.{part_length}
use Rattle.ideal.proofs.Hosted.{heap_is}
use Rattle.ideal.proofs.Facts.{output_size_lem}
use Rattle.ideal.proofs.Numbers.{refusals_alter_nothing}
use Rattle.ideal.proofs.OneCalls.{accepted_calls}
use Rattle.ideal.proofs.Runs.{state_before, valid_before, tables_before_lem, running_before, stays, moves, moved, code_of_call, accepted_call, accepted_at_lem, accepts_at, answer_at_lem, state_next, state_after}

-- ---- what an accepted call's move does to the heap of place p

data Touch (s : State) (c : Call) (m : Move) (p : ℕ) : Type 0 where
  keeps : heap_at (apply s m) p ≡ heap_at s p → Touch s c m p
  clears : s.running ≡ p → heap_at (apply s m) p ≡ cleared → Touch s c m p
  writes : s.running ≡ p → one_of (5 ∷ 12 ∷ []) (filled c).kind ≡ true → Touch s c m p

-- the running heap with something in it
others_kept : (s : State) (h : List ℕ) (p : ℕ) → eqb p s.running ≡ false → get_or (set s.heaps s.running h) p [] ≡ heap_at s p
others_kept s h p e = get_or-set_other s.heaps s.running p h [] (eqb-false p s.running e)

own_set : (s : State) (h : List ℕ) → Valid s → s.running < 16 → get_or (set s.heaps s.running h) s.running [] ≡ h
own_set s h v l = get_or-set_same s.heaps s.running h [] (omega (arith, v.heaps))

module _ {s : State} (p : ℕ) (v : Valid s) where
  touch_of : {c : Call} {m : Move} → Does s c m → Touch s c m p
  unfolding apply
  touch_of does_nothing = keeps refl
  touch_of (does_take h z n) = keeps refl
  touch_of (does_activate h n) = keeps refl
  touch_of (does_empty h) =
      by_cases (eqb p s.running)
      (λ e. let q = eqb-true p s.running e in clears (sym q) (rw q (own_set s cleared v h)))
      (λ e. keeps (others_kept s cleared p e))
  touch_of (does_write w h f) =
      by_cases (eqb p s.running) (λ e. writes (sym (eqb-true p s.running e)) w) (λ e. keeps (others_kept s _ p e))
  touch_of (does_share f) = keeps refl
  touch_of (does_log a) = keeps refl
  touch_of (does_escrow a) = keeps refl
  touch_of (does_release a) = keeps refl

touch : (s : State) (p : ℕ) → Valid s → (c : Call) → refusal s c ≡ 0 → Touch s c (move s c) p
touch s p v c r = touch_of p v (does s c v r)

-- ---- a call of a list

-- what the call at an index does to the heap of place p
data TouchAt (es : List Element) (p k : ℕ) : Type 0 where
  keeps : heap_of (tables_before call_on es (suc k)) p ≡ heap_of (tables_before call_on es k) p → TouchAt es p k
  clears : RunsAt call_on es p k → heap_of (tables_before call_on es (suc k)) p ≡ cleared → TouchAt es p k
  writes : WritesAt call_on es p k → TouchAt es p k

module _ (es : List Element) (p : ℕ) (b : p < 16) where
  heap_before : (k : ℕ) → heap_of (tables_before call_on es k) p ≡ heap_at (state_before es k) p
  heap_before k = ap (λ t. heap_of t p) (tables_before_lem es k) ∙ heap_is (state_before es k) (valid_before es k) p b

  touch_at : (k : ℕ) → TouchAt es p k
  unfolding effect
  touch_at k =
      elim (moved (state_before es k) (element_at es k)) [
        | stays q ↦ keeps (heap_before (suc k) ∙ ap (λ s. heap_at s p) (state_next es k ∙ q) ∙ sym (heap_before k))
        | moves c used a ↦ let after = heap_before (suc k) ∙ ap (λ s. heap_at s p) (state_after es k c used a) in
            elim (touch (state_before es k) p (valid_before es k) c a.passes) [
              | keeps q ↦ keeps (after ∙ q ∙ sym (heap_before k))
              | clears e q ↦ clears (running_before es k ∙ e) (after ∙ q)
              | writes e q ↦ writes
                  (record {
                    call = c;
                    used = used;
                    accepts = (a.reads, accepts_at es k c used a);
                    kind = q;
                    by = running_before es k ∙ e;
                  })
            ]
      ]

  -- while p doesn't run
  away : (k m : ℕ) → k ≤ m → ((j : ℕ) → k ≤ j → j < m → RunsAt call_on es p j → ⊥)
      → heap_of (tables_before call_on es m) p ≡ heap_of (tables_before call_on es k) p
  away k zero l h = let e : k ≡ 0 = omega arith in rw e
  away k (suc m) l h =
      by_cases (eqb k (suc m)) (λ e. rw (eqb-true k (suc m) e))
      (λ e. let n = eqb-false k (suc m) e in
      let rest = away k m (omega arith) (λ j x y. h j x (omega arith)) in
      elim (touch_at m) [
        | keeps q ↦ q ∙ rest
        | clears r q ↦ absurd (h m (omega arith) (omega arith) r)
        | writes w ↦ absurd (h m (omega arith) (omega arith) w.by)
      ])

  -- from where the heap is clear, while p writes nothing there
  clear_until : (k m : ℕ) → k < m → heap_of (tables_before call_on es (suc k)) p ≡ cleared
      → ((j : ℕ) → k < j → j < m → WritesAt call_on es p j → ⊥) → heap_of (tables_before call_on es m) p ≡ cleared
  clear_until k zero l c h = absurd (omega arith)
  clear_until k (suc m) l c h =
      by_cases (eqb k m) (λ e. rw (← eqb-true k m e) c)
      (λ e. let n = eqb-false k m e in
      let rest = clear_until k m (omega arith) c (λ j x y. h j x (omega arith)) in
      elim (touch_at m) [
        | keeps q ↦ q ∙ rest
        | clears r q ↦ q
        | writes w ↦ absurd (h m (omega arith) (omega arith) w)
      ])

-- the place that runs where a call is accepted that only a service can make
runs_below : (es : List Element) (p k : ℕ) → RunsAt call_on es p k → idle (state_before es k) ≡ false → p < 16
runs_below es p k r i = let l = busy (state_before es k) (valid_before es k) i in let e = running_before es k in omega arith

-- ---- a hand over

-- a call on a sound box that its tests let pass is accepted
passes_code : (t : Tables) (e : Element) (c : Call) (used : ℕ) → Sound t e.output_size → read e.bytes ≡ whole c used
    → refusal (state_of t) c ≡ 0 → (call_on t e).answer.code ≡ 0
unfolding laid
passes_code t e c used h y r =
    let n = e.output_size in
    ap (λ x. (call_on x e).answer.code) (sym (tables_state t n h))
    ∙ ap (λ x. x.answer.code) (call_is (state_of t) e (valid_sound t n h))
    ∙ code_of_call (state_of t) e c used y (output_size_lem t n h.sizes) ∙ r

-- the running place is 16, or taken
to_itself_passes : (s : State) → Valid s → refusal s (hand_over s.running) ≡ 0
unfolding refusal tests first_holding vacant
to_itself_passes s v =
    let low = le-ltb 16 s.running v.runs in
    by_cases (ltb s.running 16)
    (λ h. rw (low, h, ne_eqb _ 0 (v.live (ltb-true _ _ h))))
    (λ h. rw (low, h))

-- a taken place has an identity
taken_there : (t : Tables) (n p : ℕ) → Sound t n → stands t.box.taken p ≡ true → identity_at (state_of t) p ≡ 0 → ⊥
unfolding tables box_record state_of
taken_there t n p h e =
    let ids = t.box.identities in
    let map : taken_map ids ≡ t.box.taken = ap (λ x. x.box.taken) (tables_state t n h) in
    eqb-false (get_or ids p 0) 0 (not-true _ (sym (taken_at ids p) ∙ rw map e))

to_taken_passes : (s : State) (p : ℕ) → p < 16 → (identity_at s p ≡ 0 → ⊥) → refusal s (hand_over p) ≡ 0
unfolding refusal tests first_holding vacant
to_taken_passes s p low n = rw (le-ltb 16 p (omega arith), lt-ltb p 16 low, ne_eqb (identity_at s p) 0 n)

pub hands_over : HandsOver call_on
hands_over =
    record {
      runs = λ t e p used y z. unfold leaves in (accepted_calls t e (hand_over p) used y z).leaves;
      starts = λ t e p used h y low taken.
          passes_code t e (hand_over p) used h y (to_taken_passes (state_of t) p low (taken_there t e.output_size p h taken));
      yields = λ t e used h y. passes_code t e (hand_over 16) used h y (unfold refusal tests first_holding in refl);
      to_itself = λ t e used h y.
          let n = e.output_size in
          let c = hand_over t.box.running in
          let z = passes_code t e c used h y (unfold state_of in to_itself_passes (state_of t) (valid_sound t n h)) in
          (z, unfold leaves with_places_in in (accepted_calls t e c used y z).leaves);
      refused = λ t e p used y f. (refusals_alter_nothing t e f).tables;
    }

pub hand_over_keeps : HandOverKeeps call_on
unfolding refusal tests effect move apply
hand_over_keeps es p q k m used b l y r h =
    let a = accepted_at_lem es k (hand_over q) used y.0 y.1 in
    away es p b (suc k) m l (λ j x z. h j x z)
    ∙ heap_before es p b (suc k) ∙ ap (λ s. heap_at s p) (state_after es k (hand_over q) used a) ∙ sym (heap_before es p b k)

pub exit_clears : ExitClears call_on
unfolding refusal tests effect move apply
exit_clears es p k m used l y r h =
    let s = state_before es k in
    let a = accepted_at_lem es k exit used y.0 y.1 in
    let i = failed 3 _ _ a.passes in
    let b = runs_below es p k r i in
    let e : s.running ≡ p = sym (running_before es k) ∙ r in
    let c : heap_at (effect s exit) p ≡ cleared = rw (← e) (own_set s cleared (valid_before es k) (busy s (valid_before es k) i)) in
    clear_until es p b k m l (heap_before es p b (suc k) ∙ ap (λ x. heap_at x p) (state_after es k exit used a) ∙ c) h

zeros_part : (o n : ℕ) → o + n ≤ 256 → part cleared o n ≡ replicate n 0
unfolding cleared
zeros_part o n f =
    let zeros : List ℕ = replicate 256 0 in
    let l : length zeros ≡ 256 = length-replicate {A = ℕ} 256 0 in
    let c = part_length zeros o n (omega arith) in
    ext_get_or 0 _ (replicate n 0) (c ∙ sym (length-replicate {A = ℕ} n 0))
    (λ x b. part_at zeros o n x (omega arith) ∙ get_or-replicate {A = ℕ} 256 (o + x) 0 0 (omega arith)
    ∙ sym (get_or-replicate {A = ℕ} n x 0 0 (omega arith)))

pub tenant_reads_zeros : TenantReadsZeros call_on
unfolding refusal tests beyond accepted shown own_part
tenant_reads_zeros es p k m o n used₁ used₂ l y r h z =
    let s = state_before es m in
    let c = heap_read p o n in
    let a = accepted_at_lem es m c used₂ z.0 z.1 in
    let r₁ = passed 5 _ _ (passed 3 _ _ a.passes) in
    let e : p ≡ s.running = eqb-true p s.running (not-false _ (failed 7 _ _ r₁)) in
    let b = busy s (valid_before es m) (failed 3 _ _ a.passes) in
    let f = ltb-false 256 (o + n) (failed 10 _ _ (passed 7 _ _ r₁)) in
    let own : heap_at s s.running ≡ cleared =
    rw (← e) (sym (heap_before es p (omega arith) m) ∙ exit_clears es p k m used₁ l y r h) in
    ap (λ x. x.shown) (answer_at_lem es m)
    ∙ ap (λ x. x.answer.shown) (accepted_call s (element_at es m) c used₂ a.reads a.sized a.passes)
    ∙ ap (λ x. part x o n) own ∙ zeros_part o n f

-- ---- any box

own_only : (s : State) (e : Element) (p : ℕ) → Valid s → p < 16 → (s.running ≡ p → ⊥)
    → heap_of (call_on (tables s) e).tables p ≡ heap_of (tables s) p
unfolding laid accepted effect
own_only s e p v b n =
    let s' = (step_element s e).state in
    let same : heap_at s' p ≡ heap_at s p =
    elim (moved s e) [
      | stays q ↦ ap (λ x. heap_at x p) q
      | moves c used a ↦ let after = ap (λ o. heap_at o.state p) (accepted_call s e c used a.reads a.sized a.passes) in
          elim (touch s p v c a.passes) [
            | keeps q ↦ after ∙ q
            | clears r q ↦ absurd (n r)
            | writes r q ↦ absurd (n r)
          ]
    ] in
    ap (λ r. heap_of r.tables p) (call_is s e v) ∙ heap_is s' (valid_step s e v) p b ∙ same ∙ sym (heap_is s v p b)

pub writes_own_heap : WritesOwnHeap call_on
unfolding box_by unsound state_of
writes_own_heap t e p b n =
    let m = e.output_size in
    by_cases (sizes_right t m && sound t)
    (λ y.
    let h : Sound t m = record { sizes = and_left _ _ y; box = and_right (sizes_right t m) _ y } in
    subst (λ x. heap_of (call_on x e).tables p ≡ heap_of x p) (tables_state t m h)
    (own_only (state_of t) e p (valid_sound t m h) b n))
    (λ y. rw y)
