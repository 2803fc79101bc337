-- The events of specs/Paper.antt and the calls that they are of: from an event to its call, and from an accepted call to
-- its event. Assumes nothing.
use Prim.Native.Nat.{ℕ, suc, ◌<◌}
use mathlib.Core.Path.{◌≡◌, refl, sym, ap, ◌∙◌, subst}
use mathlib.Core.Bool.{Bool, true, false, cond}
use mathlib.Core.List.{List, [], ◌∷◌}
use mathlib.Core.Option.{Option, none, some}
use native.Mathlib.Omega.{arith}
use lib.ListN.{length}
use lib.Dec.{eqb}
use borrow.Author.Tests.{eqb-true, eqb-false, ne_eqb}
use Rattle.fnv.specs.declared.Tag.{Tag}
use Rattle.record.specs.declared.Handle.{Handle}
use Rattle.record.specs.declared.Draw.{Draw}
use Rattle.record.specs.Call.{Call, create, exit, heap_write, heap_read, shared_write, shared_read, attest, check, protect, retrieve, report, hand_over, chain, release}
use Rattle.record.specs.Read.{Reading, refused, whole, read}
use Rattle.ideal.specs.Tables.{Tables, fresh_tables}
use Rattle.ideal.specs.Box.{Element, Result, call_on, element_at, tables_after, tables_before, answer_at}
use Rattle.ideal.specs.Refusals.{caller_in, own_bytes}
use Rattle.ideal.specs.Accuracy.{Earlier, EarlierNot, LogsAt, ProtectsAt, ReleasesAt, HandsOut, Sized, Says}
use Rattle.paper.specs.Paper.{Command, iattest, icheck, iprotect, iretrieve, irelease, Response, tag, truth, handle, value, released, fails, Event, principal_in, command_of, given, event_of, events, behaviour, event_at}
use Rattle.lists.proofs.Bools.{by_cases, clash}
use Rattle.ideal.proofs.Runs.{state_before, valid_before, running_before, tables_next, sized_at, accepted_at_lem}
use Rattle.ideal.proofs.Does.{attest_passed, protect_passed, release_passed}
use Rattle.paper.proofs.Behaviours.{events_at, count_at, call_of_lem, event_of_lem, call_before, event_before, in_list}

-- ---- an event, and the call that it is of

pub record WasAttest (t : Tables) (c : Call) (v : List ℕ) : Type 0 where
  pub offset : ℕ
  pub size : ℕ
  pub call : c ≡ attest offset size
  pub bytes : own_bytes t offset size ≡ v

pub record WasProtect (t : Tables) (c : Call) (q : ℕ) (v : List ℕ) : Type 0 where
  pub offset : ℕ
  pub size : ℕ
  pub draw : Draw
  pub call : c ≡ protect q offset size draw
  pub bytes : own_bytes t offset size ≡ v

-- the command is the call's
abbrev pub Was : Tables → Call → Command → Type 0
Was t c (iattest v) = WasAttest t c v
Was t c (icheck p v τ) = c ≡ check p τ v
Was t c (iprotect q v) = WasProtect t c q v
Was t c (iretrieve p η o) = c ≡ retrieve p o η
Was t c (irelease p η) = c ≡ release p η

pub record Executes (t : Tables) (r : Result) (c : Call) (ev : Event) : Type 0 where
  pub was : Was t c ev.command
  pub principal : principal_in t ≡ ev.principal
  pub result : cond (eqb r.answer.code 0) (given r ev.command) (fails r.answer.code) ≡ ev.result

nil : {P : Type 0} (ev : Event) → [] ≡ ev ∷ [] → P
nil ev h = absurd (let x : ◌≡◌ {A = ℕ} 0 1 = ap length h in omega arith)

no_command : {P : Type 0} (d : Command) → none ≡ some d → P
no_command d h = absurd (let x : ◌≡◌ {A = ℕ} 0 1 = cc in omega arith)

is_command : (t : Tables) (c : Call) (x d : Command) → some x ≡ some d → Was t c x → Was t c d
is_command t c x d h w = let e : x ≡ d = cc in subst (Was t c) e w

was : (t : Tables) (c : Call) (d : Command) → command_of (own_bytes t) c ≡ some d → Was t c d
unfolding command_of
was t (create p i) d h = no_command d h
was t exit d h = no_command d h
was t (heap_write p o v) d h = no_command d h
was t (heap_read p o n) d h = no_command d h
was t (shared_write o v) d h = no_command d h
was t (shared_read o n) d h = no_command d h
was t (attest o n) d h =
    is_command t _ (iattest (own_bytes t o n)) d h (record { offset = o; size = n; call = refl; bytes = refl })
was t (check i g v) d h = is_command t _ (icheck i v g) d h refl
was t (protect i o n x) d h =
    is_command t _ (iprotect i (own_bytes t o n)) d h (record { offset = o; size = n; draw = x; call = refl; bytes = refl })
was t (retrieve i o a) d h = is_command t _ (iretrieve i a o) d h refl
was t report d h = no_command d h
was t (hand_over p) d h = no_command d h
was t (chain first v) d h = no_command d h
was t (release i a) d h = is_command t _ (irelease i a) d h refl

executed : (t : Tables) (r : Result) (c : Call) (ev : Event) (x : Option Command) → command_of (own_bytes t) c ≡ x
    → event_of t r x ≡ ev ∷ [] → Executes t r c ev
unfolding event_of
executed t r c ev none q h = nil ev h
executed t r c ev (some d) q h =
    let code = r.answer.code in
    let made : Event = record { command = d; principal = principal_in t; result = cond (eqb code 0) (given r d) (fails code) } in
    let e : made ≡ ev = cc in
    subst (λ y. Executes t r c y) e (record { was = was t c d q; principal = refl; result = refl })

-- what was read to an event: a call, which the box did not answer 15
pub record Seen (t : Tables) (r : Result) (y : Reading) (ev : Event) : Type 0 where
  pub call : Call
  pub used : ℕ
  pub reads : y ≡ whole call used
  pub reached : r.answer.code ≡ 15 → ⊥
  pub did : Executes t r call ev

seen : (t : Tables) (r : Result) (y : Reading) (ev : Event) → events t r y ≡ ev ∷ [] → Seen t r y ev
unfolding events
seen t r (refused code number) ev h = nil ev h
seen t r (whole c used) ev h =
    by_cases (eqb r.answer.code 15)
    (λ e. nil ev (rw e at h))
    (λ e. record { call = c; used = used; reads = refl; reached = eqb-false _ 15 e; did = executed t r c ev _ refl (rw e at h) })

-- ---- results and principals

unfoldable pub fails? : Response → Bool
fails? (tag τ) = false
fails? (truth b) = false
fails? (handle η) = false
fails? (value v) = false
fails? released = false
fails? (fails code) = true

pub record Succeeds (code : ℕ) (x y : Response) : Type 0 where
  pub accepts : code ≡ 0
  pub is : x ≡ y

succeeds : (code : ℕ) (x y : Response) → fails? y ≡ false → cond (eqb code 0) x (fails code) ≡ y → Succeeds code x y
unfolding fails?
succeeds code x y f h =
    by_cases (eqb code 0)
    (λ e. record { accepts = eqb-true code 0 e; is = rw e at h })
    (λ e. let q : fails code ≡ y = rw e at h in clash (fails? y) (ap fails? (sym q)) f)

pub caller_is : (t : Tables) (p : ℕ) → principal_in t ≡ some p → caller_in t ≡ p
unfolding principal_in
caller_is t p h =
    by_cases (eqb t.box.running 16)
    (λ e. let q : none ≡ some p = rw e at h in let x : ◌≡◌ {A = ℕ} 0 1 = cc in absurd (omega arith))
    (λ e. let q : some (caller_in t) ≡ some p = rw e at h in cc)

pub runs_none : (t : Tables) → principal_in t ≡ none → t.box.running ≡ 16
unfolding principal_in
runs_none t h =
    by_cases (eqb t.box.running 16) (λ e. eqb-true _ 16 e)
    (λ e. let q : some (caller_in t) ≡ none = rw e at h in let x : ◌≡◌ {A = ℕ} 0 1 = cc in absurd (omega arith))

pub principal_is : (t : Tables) (p : ℕ) → (t.box.running ≡ 16 → ⊥) → caller_in t ≡ p → principal_in t ≡ some p
unfolding principal_in
principal_is t p n e = rw (ne_eqb _ 16 n, e)

-- ---- events of a run

module _ (es : List Element) where
  -- the call of the event at j
  pub record EventOf (j : ℕ) (ev : Event) : Type 0 where
    pub index : ℕ
    pub in_list : index < length es
    pub is : events_at call_on fresh_tables es index ≡ ev ∷ []
    pub count : count_at call_on fresh_tables es index ≡ j
    pub seen : Seen (tables_before call_on es index) (call_on (tables_before call_on es index) (element_at es index))
        (read (element_at es index).bytes) ev

  pub event_at_lem : (j : ℕ) (ev : Event) → event_at (behaviour call_on es) j ≡ some ev → EventOf j ev
  unfolding behaviour tables_before tables_after
  event_at_lem j ev h =
      let c = call_of_lem call_on es fresh_tables j ev h in
      record {
        index = c.index;
        in_list = in_list call_on es fresh_tables c.index ev c.is;
        is = c.is;
        count = c.count;
        seen = seen _ _ _ ev c.is;
      }

  pub earlier : (i j : ℕ) (a b : Event) (x : EventOf i a) (y : EventOf j b) → i < j → x.index < y.index
  earlier i j a b x y l =
      let p = x.count in
      let q = y.count in
      call_before call_on es fresh_tables x.index y.index (omega arith)

  -- an earlier call's event is an earlier event
  pub event_earlier : (j : ℕ) (b : Event) (y : EventOf j b) (k : ℕ) (ev : Event) → k < y.index
      → events_at call_on fresh_tables es k ≡ ev ∷ [] → Earlier (λ i. event_at (behaviour call_on es) i ≡ some ev) j
  unfolding behaviour
  event_earlier j b y k ev l q =
      let n = y.count in
      let m = event_before call_on es fresh_tables k y.index ev q l in
      record {
        index = count_at call_on fresh_tables es k;
        before = omega arith;
        there = event_of_lem call_on es fresh_tables k ev q;
      }

  -- and what no call since does, no event since is of
  pub event_earlier_not : (j : ℕ) (b : Event) (y : EventOf j b) (P Q : ℕ → Type 0) (ev other : Event)
      → ((k : ℕ) → P k → events_at call_on fresh_tables es k ≡ ev ∷ []) → ((m : ℕ) (u : EventOf m other) → Q u.index)
      → EarlierNot P Q y.index
      → EarlierNot (λ i. event_at (behaviour call_on es) i ≡ some ev) (λ i. event_at (behaviour call_on es) i ≡ some other) j
  unfolding event_earlier
  event_earlier_not j b y P Q ev other p q x =
      let e = event_earlier j b y x.index ev x.before (p x.index x.there) in
      record {
        index = e.index;
        before = e.before;
        there = e.there;
        since = λ m l n h.
            let u = event_at_lem m other h in
            let c = u.count in
            x.since u.index (call_before call_on es fresh_tables x.index u.index (omega arith))
            (earlier m j other b u y n) (q m u);
      }

  -- where no event between two is a third, no call between theirs has it
  pub none_between : (i j : ℕ) (a b : Event) (x : EventOf i a) (y : EventOf j b) (ev : Event)
      → ((k : ℕ) → i < k → k < j → event_at (behaviour call_on es) k ≡ some ev → ⊥)
      → (m : ℕ) → x.index < m → m < y.index → events_at call_on fresh_tables es m ≡ ev ∷ [] → ⊥
  unfolding behaviour
  none_between i j a b x y ev h m l n q =
      let from = x.count in
      let to = y.count in
      let c = event_before call_on es fresh_tables x.index m a x.is l in
      let d = event_before call_on es fresh_tables m y.index ev q n in
      h (count_at call_on fresh_tables es m) (omega arith) (omega arith) (event_of_lem call_on es fresh_tables m ev q)

  module _ (j : ℕ) (c : Command) (p : Option ℕ) (r : Response)
      (y : EventOf j (record { command = c; principal = p; result = r })) where
    code_not : (answer_at call_on es y.index).code ≡ 15 → ⊥
    unfolding answer_at
    code_not = y.seen.reached

    pub sized : Sized call_on es y.index
    sized = sized_at es y.index code_not

    pub reads_as : (d : Call) → y.seen.call ≡ d → read (element_at es y.index).bytes ≡ whole d y.seen.used
    reads_as d e = y.seen.reads ∙ ap (λ x. whole x y.seen.used) e

    -- where the event is no failure
    pub gave : fails? r ≡ false
        → Succeeds (answer_at call_on es y.index).code
        (given (call_on (tables_before call_on es y.index) (element_at es y.index)) c) r
    unfolding answer_at
    gave f = succeeds _ _ r f y.seen.did.result

  pub logs_at : (i : ℕ) (v : List ℕ) (p : ℕ) (τ : Tag)
      (x : EventOf i (record { command = iattest v; principal = some p; result = tag τ })) → LogsAt call_on es p v τ x.index
  unfolding answer_at fails?
  logs_at i v p τ x =
      let w = x.seen.did.was in
      let g = gave i _ _ _ x refl in
      let e = g.is in
      record {
        offset = w.offset;
        size = w.size;
        used = x.seen.used;
        reads = reads_as i _ _ _ x _ w.call;
        accepts = g.accepts;
        by = caller_is _ p x.seen.did.principal;
        bytes = w.bytes;
        gets = let q : record { 0 = (answer_at call_on es x.index).number } ≡ τ = cc in ap (λ z. z.0) q;
      }

  pub protects_at : (i : ℕ) (v : List ℕ) (p q : ℕ) (η : Handle)
      (x : EventOf i (record { command = iprotect q v; principal = some p; result = handle η }))
      → ProtectsAt call_on es p q η v x.index
  unfolding answer_at fails?
  protects_at i v p q η x =
      let w = x.seen.did.was in
      let g = gave i _ _ _ x refl in
      let e = g.is in
      record {
        offset = w.offset;
        size = w.size;
        draw = w.draw;
        used = x.seen.used;
        reads = reads_as i _ _ _ x _ w.call;
        accepts = g.accepts;
        by = caller_is _ p x.seen.did.principal;
        bytes = w.bytes;
        gets = let a : record { 0 = (answer_at call_on es x.index).number } ≡ η = cc in ap (λ z. z.0) a;
      }

  pub releases_at : (i p q : ℕ) (η : Handle)
      (x : EventOf i (record { command = irelease p η; principal = some q; result = released }))
      → ReleasesAt call_on es p q η x.index
  unfolding fails?
  releases_at i p q η x =
      record {
        used = x.seen.used;
        reads = reads_as i _ _ _ x _ x.seen.did.was;
        accepts = (gave i _ _ _ x refl).accepts;
        by = caller_is _ q x.seen.did.principal;
      }

-- ---- from the calls of a run to events

pub gave_it : (code : ℕ) (x : Response) → code ≡ 0 → cond (eqb code 0) x (fails code) ≡ x
gave_it code x e = rw e

pub made : (t : Tables) (r : Result) (c d : Command) (y : Response) (p : Option ℕ) → r.answer.code ≡ 0 → principal_in t ≡ p
    → c ≡ d → given r c ≡ y
    → event_of t r (some c) ≡ record { command = d; principal = p; result = y } ∷ []
unfolding event_of
made t r c d y p z a b e =
    let q = gave_it r.answer.code (given r c) z ∙ e in λ m. record { command = b m; principal = a m; result = q m } ∷ []

pub accepted_event : (t : Tables) (r : Result) (c : Call) (used : ℕ) (ev : Event) → r.answer.code ≡ 0
    → event_of t r (command_of (own_bytes t) c) ≡ ev ∷ []
    → events t r (whole c used) ≡ ev ∷ []
unfolding events
accepted_event t r c used ev z h = let n : eqb r.answer.code 15 ≡ false = ap (λ m. eqb m 15) z in rw n h

module _ (es : List Element) (k : ℕ) where
  abbrev t : Tables
  t = tables_before call_on es k

  abbrev r : Result
  r = call_on t (element_at es k)

  call_event : (c : Call) (used : ℕ) (ev : Event) → read (element_at es k).bytes ≡ whole c used → (answer_at call_on es k).code ≡ 0
      → event_of t r (command_of (own_bytes t) c) ≡ ev ∷ [] → events_at call_on fresh_tables es k ≡ ev ∷ []
  unfolding tables_before tables_after answer_at
  call_event c used ev reads z h = rw reads (accepted_event _ _ c used ev z h)

  runs : (state_before es k).running < 16 → t.box.running ≡ 16 → ⊥
  runs l e = let n = running_before es k in omega arith

  pub attest_event : (p : ℕ) (v : List ℕ) (τ : Tag) → LogsAt call_on es p v τ k
      → events_at call_on fresh_tables es k ≡ record { command = iattest v; principal = some p; result = tag τ } ∷ []
  unfolding command_of answer_at
  attest_event p v τ l =
      let c = attest l.offset l.size in
      let a = accepted_at_lem es k c l.used l.reads l.accepts in
      let b = (attest_passed (state_before es k) l.offset l.size (valid_before es k) a.passes).runs in
      let g : record { 0 = (answer_at call_on es k).number } ≡ τ = λ m. record { 0 = l.gets m } in
      call_event c l.used _ l.reads l.accepts
      (made t r _ _ _ _ l.accepts (principal_is t p (runs b) l.by) (ap iattest l.bytes) (ap tag g))

  pub protect_event : (p q : ℕ) (η : Handle) (v : List ℕ) → ProtectsAt call_on es p q η v k
      → events_at call_on fresh_tables es k ≡ record { command = iprotect q v; principal = some p; result = handle η } ∷ []
  unfolding command_of answer_at
  protect_event p q η v l =
      let c = protect q l.offset l.size l.draw in
      let a = accepted_at_lem es k c l.used l.reads l.accepts in
      let b = (protect_passed (state_before es k) q l.offset l.size l.draw (valid_before es k) a.passes).runs in
      let g : record { 0 = (answer_at call_on es k).number } ≡ η = λ m. record { 0 = l.gets m } in
      call_event c l.used _ l.reads l.accepts
      (made t r _ _ _ _ l.accepts (principal_is t p (runs b) l.by) (ap (iprotect q) l.bytes) (ap handle g))

  pub check_event : (p n used : ℕ) (τ : Tag) (v : List ℕ) → read (element_at es k).bytes ≡ whole (check p τ v) used
      → Says call_on es n k
      → events_at call_on fresh_tables es k
      ≡ record { command = icheck p v τ; principal = principal_in t; result = truth (eqb n 1) } ∷ []
  unfolding command_of answer_at
  check_event p n used τ v reads z =
      call_event (check p τ v) used _ reads z.0 (made t r _ _ _ _ z.0 refl refl (ap (λ m. truth (eqb m 1)) z.1))

  -- what stands in the running heap after an accepted retrieve
  pub after_retrieve : (o : ℕ) (v : List ℕ) → HandsOut call_on es o v k → own_bytes r.tables o (answer_at call_on es k).number ≡ v
  after_retrieve o v h =
      ap (λ x. own_bytes x o (answer_at call_on es k).number) (sym (tables_next es k))
      ∙ ap (λ n. own_bytes (tables_before call_on es (suc k)) o n) h.accepts.1 ∙ h.stands

  pub retrieve_event : (p o used : ℕ) (η : Handle) (v : List ℕ) → read (element_at es k).bytes ≡ whole (retrieve p o η) used
      → HandsOut call_on es o v k
      → events_at call_on fresh_tables es k ≡ record { command = iretrieve p η o; principal = principal_in t; result = value v } ∷ []
  unfolding command_of answer_at
  retrieve_event p o used η v reads h =
      call_event (retrieve p o η) used _ reads h.accepts.0
      (made t r _ _ _ _ h.accepts.0 refl refl (ap value (after_retrieve o v h)))

  pub release_event : (p q : ℕ) (η : Handle) → ReleasesAt call_on es p q η k
      → events_at call_on fresh_tables es k ≡ record { command = irelease p η; principal = some q; result = released } ∷ []
  unfolding command_of answer_at
  release_event p q η l =
      let c = release p η in
      let a = accepted_at_lem es k c l.used l.reads l.accepts in
      let b = (release_passed (state_before es k) p η (valid_before es k) a.passes).runs in
      call_event c l.used _ l.reads l.accepts
      (made t r _ _ _ _ l.accepts (principal_is t q (runs b) l.by) refl refl)
