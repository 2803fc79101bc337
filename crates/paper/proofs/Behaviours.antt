-- The events of a behaviour and the calls that they are of, index by index. Assumes nothing.
use Prim.Native.Nat.{ℕ, zero, suc, ◌+◌, ◌≤◌, ◌<◌}
use mathlib.Core.Path.{◌≡◌, refl, sym, ap, ◌∙◌}
use mathlib.Core.List.{List, [], ◌∷◌, ◌++◌, append_assoc}
use mathlib.Core.Option.{Option, none, some}
use native.Mathlib.Omega.{arith}
use lib.ListN.{length, take, drop, length-append}
use lib.Dec.{eqb, ltb}
use borrow.Author.Tests.{ltb-true, ltb-false}
use Rattle.record.specs.Read.{Reading, refused, whole, read, cut}
use Rattle.ideal.specs.Tables.{Tables}
use Rattle.ideal.specs.Box.{Element, Result, element_at, tables_from}
use Rattle.ideal.specs.Refusals.{own_bytes}
use Rattle.paper.specs.Paper.{Command, Event, command_of, event_of, events, behaviour_from, event_at}
use Rattle.lists.proofs.Bools.{by_cases}

few_of : (t : Tables) (r : Result) (c : Option Command) → length (event_of t r c) ≤ 1
unfolding event_of
few_of t r none = omega arith
few_of t r (some c) = omega arith

few : (t : Tables) (r : Result) (y : Reading) → length (events t r y) ≤ 1
unfolding events
few t r (refused code number) = omega arith
few t r (whole c used) =
    by_cases (eqb r.answer.code 15) (λ e. rw e (omega arith)) (λ e. rw e (few_of t r (command_of (own_bytes t) c)))

take_nil : {A : Type 0} (m : ℕ) → take {A = A} m [] ≡ []
take_nil zero = refl
take_nil (suc m) = refl

module _ (box : Tables → Element → Result) where
  -- the events of the call at an index, none or one
  abbrev pub events_at : Tables → List Element → ℕ → List Event
  events_at t es k =
      let x = tables_from box t (take k es) in events x (box x (element_at es k)) (read (element_at es k).bytes)

  -- the index in the behaviour of the event at k
  abbrev pub count_at : Tables → List Element → ℕ → ℕ
  count_at t es k = length (behaviour_from box t (take k es))

  -- the call of the event at j
  pub record CallOf (t : Tables) (es : List Element) (j : ℕ) (ev : Event) : Type 0 where
    pub index : ℕ
    pub is : events_at t es index ≡ ev ∷ []
    pub count : count_at t es index ≡ j

  -- the events of a list whose first call has the events l
  more : (e : Element) (es : List Element) (t : Tables) (k : ℕ)
      → count_at t (e ∷ es) (suc k) ≡ length (events t (box t e) (read e.bytes)) + count_at (box t e).tables es k
  unfolding behaviour_from
  more e es t k = length-append (events t (box t e) (read e.bytes)) (behaviour_from box (box t e).tables (take k es))

  later : (e : Element) (es : List Element) (t : Tables) (ev : Event) (l : List Event) → events t (box t e) (read e.bytes) ≡ l
      → (j m : ℕ) → CallOf (box t e).tables es j ev → length l + j ≡ m → CallOf t (e ∷ es) m ev
  unfolding tables_from element_at
  later e es t ev l q j m f w =
      record { index = suc f.index; is = f.is; count = more e es t f.index ∙ rw (q, f.count) w }

  call_from : (e : Element) (es : List Element) (t : Tables) (ev : Event)
      → ((j : ℕ) → event_at (behaviour_from box (box t e).tables es) j ≡ some ev → CallOf (box t e).tables es j ev)
      → (l : List Event) → events t (box t e) (read e.bytes) ≡ l → length l ≤ 1 → (j : ℕ)
      → event_at (l ++ behaviour_from box (box t e).tables es) j ≡ some ev → CallOf t (e ∷ es) j ev
  unfolding behaviour_from event_at tables_from element_at
  call_from e es t ev rest [] q b j h = later e es t ev [] q j j (rest j h) (omega arith)
  call_from e es t ev rest (y ∷ []) q b zero h = record { index = 0; is = q ∙ ap (λ z. z ∷ []) (cc); count = refl }
  call_from e es t ev rest (y ∷ []) q b (suc j) h = later e es t ev (y ∷ []) q j (suc j) (rest j h) (omega arith)
  call_from e es t ev rest (y ∷ z ∷ l) q b j h = absurd (omega arith)

  pub call_of_lem : (es : List Element) (t : Tables) (j : ℕ) (ev : Event) → event_at (behaviour_from box t es) j ≡ some ev
      → CallOf t es j ev
  unfolding behaviour_from event_at
  call_of_lem [] t j ev h = absurd (let x : ◌≡◌ {A = ℕ} 0 1 = cc in omega arith)
  call_of_lem (e ∷ es) t j ev h =
      call_from e es t ev (λ m g. call_of_lem es (box t e).tables m ev g) (events t (box t e) (read e.bytes)) refl
      (few t (box t e) (read e.bytes)) j h

  pub past : (l α : List Event) (j : ℕ) → event_at (l ++ α) (length l + j) ≡ event_at α j
  unfolding event_at
  past [] α j = let e : 0 + j ≡ j = omega arith in ap (event_at α) e
  past (x ∷ l) α j = let e : suc (length l) + j ≡ suc (length l + j) = omega arith in rw e (past l α j)

  none_at : (t : Tables) (k : ℕ) (ev : Event) → events_at t [] k ≡ ev ∷ [] → ⊥
  unfolding element_at read cut events
  none_at t k ev h = let x : ◌≡◌ {A = ℕ} 0 1 = ap length h in omega arith

  pub event_of_lem : (es : List Element) (t : Tables) (k : ℕ) (ev : Event) → events_at t es k ≡ ev ∷ []
      → event_at (behaviour_from box t es) (count_at t es k) ≡ some ev
  unfolding tables_from element_at behaviour_from event_at
  event_of_lem [] t k ev h = absurd (none_at t k ev h)
  event_of_lem (e ∷ es) t zero ev h = rw h
  event_of_lem (e ∷ es) t (suc k) ev h =
      rw (more e es t k) (past (events t (box t e) (read e.bytes)) _ (count_at (box t e).tables es k))
      ∙ event_of_lem es (box t e).tables k ev h

  pub in_list : (es : List Element) (t : Tables) (k : ℕ) (ev : Event) → events_at t es k ≡ ev ∷ [] → k < length es
  unfolding tables_from element_at
  in_list [] t k ev h = absurd (none_at t k ev h)
  in_list (e ∷ es) t zero ev h = omega arith
  in_list (e ∷ es) t (suc k) ev h = let r = in_list es (box t e).tables k ev h in omega arith

  -- the tables before a call of a list, from those before an earlier one
  pub tables_split : (n m : ℕ) (es : List Element) (t : Tables)
      → tables_from box t (take (n + m) es) ≡ tables_from box (tables_from box t (take n es)) (take m (drop n es))
  unfolding tables_from
  tables_split zero m es t = let e : 0 + m ≡ m = omega arith in rw e
  tables_split (suc n) m [] t = let e : suc n + m ≡ suc (n + m) = omega arith in rw e (sym (ap (tables_from box t) (take_nil m)))
  tables_split (suc n) m (x ∷ es) t = let e : suc n + m ≡ suc (n + m) = omega arith in rw e (tables_split n m es (box t x).tables)

  pub behaviour_append : (es fs : List Element) (t : Tables)
      → behaviour_from box t (es ++ fs) ≡ behaviour_from box t es ++ behaviour_from box (tables_from box t es) fs
  unfolding behaviour_from tables_from
  behaviour_append [] fs t = refl
  behaviour_append (e ∷ es) fs t =
      ap (λ l. events t (box t e) (read e.bytes) ++ l) (behaviour_append es fs (box t e).tables)
      ∙ sym (append_assoc (events t (box t e) (read e.bytes)) _ _)

  -- ---- the order of events is that of their calls

  rises : (es : List Element) (t : Tables) (k m : ℕ) → k ≤ m → count_at t es k ≤ count_at t es m
  unfolding behaviour_from
  rises es t zero m b = omega arith
  rises es t (suc k) zero b = absurd (omega arith)
  rises [] t (suc k) (suc m) b = omega arith
  rises (e ∷ es) t (suc k) (suc m) b =
      let r = rises es (box t e).tables k m (omega arith) in omega (arith, more e es t k, more e es t m)

  pub call_before : (es : List Element) (t : Tables) (k m : ℕ) → count_at t es k < count_at t es m → k < m
  call_before es t k m b =
      by_cases (ltb k m) (λ e. ltb-true k m e)
      (λ e. let n = ltb-false k m e in let r = rises es t m k (omega arith) in absurd (omega arith))

  counts : (es : List Element) (t : Tables) (k : ℕ) (ev : Event) → events_at t es k ≡ ev ∷ []
      → count_at t es (suc k) ≡ suc (count_at t es k)
  unfolding tables_from element_at behaviour_from
  counts [] t k ev h = absurd (none_at t k ev h)
  counts (e ∷ es) t zero ev h = more e es t 0 ∙ rw h
  counts (e ∷ es) t (suc k) ev h = let c = counts es (box t e).tables k ev h in omega (arith, more e es t k, more e es t (suc k))

  pub event_before : (es : List Element) (t : Tables) (k m : ℕ) (ev : Event) → events_at t es k ≡ ev ∷ [] → k < m
      → count_at t es k < count_at t es m
  event_before es t k m ev h b = let r = rises es t (suc k) m b in let c = counts es t k ev h in omega arith
