-- No handle is given twice: an accepted protect gives one that is in no escrow row, and puts it into a row, and rows stay, spent ones too.
-- A call is accepted on a sound box only, so nothing is asked of the calls between two protects. Assumes nothing.
use Prim.Native.Nat.{ℕ, zero, suc, ◌/◌, ◌^◌, ◌<◌}
use mathlib.Core.Path.{◌≡◌, sym, ap, ◌∙◌}
use mathlib.Core.Bool.{true, false, ◌&&◌}
use mathlib.Core.List.{List, [], ◌∷◌}
use native.Mathlib.Omega.{arith}
use lib.ListN.{take}
use lib.Dec.{ltb}
use borrow.Author.Tests.{eq-eqb, ltb-true, ltb-false}
use Rattle.record.specs.declared.Handle.{Handle}
use Rattle.record.specs.declared.Draw.{Draw}
use Rattle.record.specs.Call.{Call, protect}
use Rattle.record.specs.Read.{Reading, refused, whole, read}
use Rattle.ideal.specs.State.{State, Move, nothing, takes, activates, empties, writes, shares, logs, escrows, releases, any}
use Rattle.ideal.specs.Step.{has_handle, protected, move, apply, effect, number, refuse, accepted, settle, refusal, on_reading, reading_by, step_on_by, step_by}
use Rattle.ideal.specs.Tables.{Tables, box_record, tables, state_of, fresh_tables}
use Rattle.ideal.specs.Soundness.{sizes_right, sound}
use Rattle.ideal.specs.Box.{Element, laid, unsound, call_on, element_at, tables_from, tables_after, tables_before, answer_at, box_by}
use Rattle.ideal.specs.Valid.{Valid}
use Rattle.ideal.specs.Accuracy.{Earlier, ProtectsAt, HandleOnce}
use Rattle.lists.proofs.Bools.{by_cases, clash, or_true_left, or_true_right}
use Rattle.lists.proofs.Lists.{any_append, any_one}
use Rattle.ideal.proofs.Free.{free_handle_lem, handle_size}
use Rattle.ideal.proofs.Table.{escrow_lawful, entries_back}
use Rattle.ideal.proofs.Facts.{output_size_lem}
use Rattle.ideal.proofs.Accepts.{sound_of, on_state}
use Rattle.ideal.proofs.GivenUp.{handles_stay}
use Rattle.ideal.proofs.Does.{ProtectPassed, protect_passed}

-- ---- the handle that an accepted protect gives

module _ (s : State) (i o n : ℕ) (d : Draw) (k : Valid s) (a : ProtectPassed s i o n d) where
  pub in_no_row : any (has_handle (protected s i o n d).key.handle) s.escrow ≡ false
  unfolding protected
  in_no_row = free_handle_lem n _ s.escrow k.escrow.few

  pub carries_length_lem : (protected s i o n d).key.handle.0 / 2 ^ 48 ≡ n
  unfolding protected
  carries_length_lem = handle_size n _ s.escrow k.escrow.few (omega (arith, a.small))

-- the escrow of a state, laid out and read back
escrow_back : (s : State) → (state_of (tables s)).escrow ≡ s.escrow
unfolding state_of tables box_record
escrow_back s = entries_back escrow_lawful s.escrow

module _ (t : Tables) (e : Element) (i o n : ℕ) (d : Draw) (used : ℕ) (reads : read e.bytes ≡ whole (protect i o n d) used)
    (accepts : (call_on t e).answer.code ≡ 0) (h : Handle) (gets : (call_on t e).answer.number ≡ h.0) where
  is_handle : (protected (state_of t) i o n d).key.handle.0 ≡ h.0
  unfolding laid accepted number protected
  is_handle = sym (ap (λ r. r.answer.number) (on_state t e (protect i o n d) used reads accepts).is) ∙ gets

  none_before : any (has_handle h) (state_of t).escrow ≡ false
  none_before =
      let a = on_state t e (protect i o n d) used reads accepts in
      let q : (protected (state_of t) i o n d).key.handle ≡ h = let m = is_handle in λ x. record { 0 = m x } in
      rw q at (in_no_row (state_of t) i o n d a.valid (protect_passed (state_of t) i o n d a.valid a.passes))

  one_after : any (has_handle h) (state_of (call_on t e).tables).escrow ≡ true
  unfolding laid accepted effect move apply has_handle
  one_after =
      let s = state_of t in
      let q : (call_on t e).tables ≡ tables (effect s (protect i o n d)) =
      ap (λ r. r.tables) (on_state t e (protect i o n d) used reads accepts).is in
      ap (λ x. any (has_handle h) (state_of x).escrow) q ∙ ap (any (has_handle h)) (escrow_back (effect s (protect i o n d)))
      ∙ any_append (has_handle h) s.escrow _
      ∙ or_true_right (any (has_handle h) s.escrow) _ (any_one (has_handle h) _ ∙ eq-eqb _ _ is_handle)

-- ---- rows stay

module _ (h : Handle) where
  stays_apply : (s : State) (m : Move) → any (has_handle h) s.escrow ≡ true → any (has_handle h) (apply s m).escrow ≡ true
  unfolding apply
  stays_apply s nothing u = u
  stays_apply s (takes p i) u = u
  stays_apply s (activates p) u = u
  stays_apply s (empties p) u = u
  stays_apply s (writes p o v) u = u
  stays_apply s (shares o v) u = u
  stays_apply s (logs e) u = u
  stays_apply s (escrows e) u = any_append (has_handle h) s.escrow _ ∙ or_true_left _ _ u
  stays_apply s (releases i r g) u = handles_stay g i r h s.escrow ∙ u

  stays_settle : (n : ℕ) (s : State) (c : Call) (used : ℕ) → any (has_handle h) s.escrow ≡ true
      → any (has_handle h) (settle n s c used).state.escrow ≡ true
  unfolding settle accepted effect refuse
  stays_settle zero s c used u = stays_apply s (move s c) u
  stays_settle (suc n) s c used u = u

  stays_reading : (s : State) (r : Reading) → any (has_handle h) s.escrow ≡ true
      → any (has_handle h) (on_reading s r).state.escrow ≡ true
  unfolding reading_by step_by refuse
  stays_reading s (refused code number) u = u
  stays_reading s (whole c used) u = stays_settle (refusal s c) s c used u

  stays_call : (t : Tables) (e : Element) → any (has_handle h) (state_of t).escrow ≡ true
      → any (has_handle h) (state_of (call_on t e).tables).escrow ≡ true
  unfolding box_by laid unsound step_on_by
  stays_call t e u =
      by_cases (sizes_right t e.output_size && sound t)
      (λ x. rw (x, escrow_back (on_reading (state_of t) (read e.bytes)).state) (stays_reading (state_of t) (read e.bytes) u))
      (λ x. rw x u)

  stays_from : (es : List Element) (k : ℕ) (t : Tables) → any (has_handle h) (state_of t).escrow ≡ true
      → any (has_handle h) (state_of (tables_from call_on t (take k es))).escrow ≡ true
  unfolding tables_from
  stays_from es zero t u = u
  stays_from [] (suc k) t u = u
  stays_from (e ∷ es) (suc k) t u = stays_from es k (call_on t e).tables (stays_call t e u)

  -- what an accepted call leaves in a row is there at every later one
  later : (es : List Element) (t : Tables) (k m : ℕ) → k < m
      → let x = tables_from call_on t (take k es) in
      (call_on x (element_at es k)).answer.code ≡ 0 → any (has_handle h) (state_of (call_on x (element_at es k)).tables).escrow ≡ true
      → any (has_handle h) (state_of (tables_from call_on t (take m es))).escrow ≡ true
  unfolding tables_from element_at
  later [] t k m l a u = let z = output_size_lem _ 0 (sound_of _ _ a).sizes in absurd (omega arith)
  later (e ∷ es) t k zero l a u = absurd (omega arith)
  later (e ∷ es) t zero (suc m) l a u = stays_from es m (call_on t e).tables u
  later (e ∷ es) t (suc k) (suc m) l a u = later es (call_on t e).tables k m (omega arith) a u

-- ---- no handle is given twice

not_before : (es : List Element) (k : ℕ) (h : Handle) (i r j q : ℕ) (v w : List ℕ)
    → ProtectsAt call_on es i r h v k → Earlier (ProtectsAt call_on es j q h w) k → ⊥
unfolding answer_at tables_before tables_after
not_before es k h i r j q v w p x =
    let y = x.there in
    let t = tables_from call_on fresh_tables (take x.index es) in
    let u = one_after t (element_at es x.index) q y.offset y.size y.draw y.used y.reads y.accepts h y.gets in
    clash _ (later h es fresh_tables x.index k x.before y.accepts u)
    (none_before _ (element_at es k) r p.offset p.size p.draw p.used p.reads p.accepts h p.gets)

pub handle_once : HandleOnce call_on
handle_once es h i r j q v w k m x y =
    by_cases (ltb k m)
    (λ e. absurd (not_before es m h j q i r w v y (record { index = k; before = ltb-true k m e; there = x })))
    (λ e.
    by_cases (ltb m k)
    (λ f. absurd (not_before es k h i r j q v w x (record { index = m; before = ltb-true m k f; there = y })))
    (λ f. let a = ltb-false k m e in let b = ltb-false m k f in omega arith))
