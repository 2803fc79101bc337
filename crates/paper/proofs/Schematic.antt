-- Another value in place of one that is escrowed and not retrieved: Lemma 3, part 1, of specs/Paper.antt. Assumes nothing.
use Prim.Native.Nat.{ℕ, suc, ◌+◌, ◌-◌, ◌≤◌, ◌<◌}
use mathlib.Core.Path.{◌≡◌, refl, sym, ap, ◌∙◌, subst}
use mathlib.Core.List.{List, [], ◌∷◌, ◌++◌, append-nil}
use mathlib.Core.Option.{some}
use native.Mathlib.Omega.{arith}
use lib.ListN.{length, get_or, set, take, drop, length-drop, get_or-eq_default}
use lib.Seq.{get_or-drop, sets, length-sets, ext_get_or, get_or-set_same, set-set, set-get_or, set_at, split_at}
use lib.Dec.{eqb, leb}
use borrow.Author.Tests.{eq-eqb, ne_eqb, ltb-true, le-ltb, leb-true}
use Rattle.record.specs.declared.Handle.{Handle}
use Rattle.record.specs.declared.Draw.{Draw}
use Rattle.record.specs.Call.{Call, heap_write, protect, retrieve, first_in}
use Rattle.record.specs.Read.{whole, read}
use Rattle.record.specs.Write.{write, filled}
use Rattle.record.specs.Statements.{ReadsBack, ByItsWay, Fits}
use Rattle.record.proofs.RoundTrip.{reads_back}
use Rattle.ideal.specs.State.{State, heap_at, caller, part, own_part}
use Rattle.ideal.specs.Step.{refusal, tests, first_holding, idle, beyond, protected, move, apply, effect, number, accepted}
use Rattle.ideal.specs.Tables.{Tables, fresh_tables, box_record, tables}
use Rattle.ideal.specs.Box.{Element, given, Result, laid, call_on, element_at, tables_from, tables_after, tables_before}
use Rattle.ideal.specs.Refusals.{caller_in, own_bytes}
use Rattle.ideal.specs.Accuracy.{ProtectsAt}
use Rattle.ideal.specs.History.{within}
use Rattle.ideal.specs.Valid.{Valid}
use Rattle.ideal.specs.Witness.{element}
use Rattle.paper.specs.Paper.{iprotect, iretrieve, handle, value, Event, command_of, event_of, events, behaviour_from, behaviour, event_at, Occurs, NeverRetrieved, NeverFollowed, BehavesWithTwo, Lemma3-1}
use Rattle.lists.proofs.Bools.{by_cases, clash, and_left, and_right, and_true}
use Rattle.ideal.proofs.Memory.{sets_byte, part_at}
use Rattle.ideal.proofs.Facts.{facts}
use Rattle.ideal.proofs.Accepts.{sound_of}
use Rattle.ideal.proofs.Does.{own_size}
use Rattle.ideal.proofs.Laid.{call_is}
use Rattle.ideal.proofs.Kept.{valid_effect}
use Rattle.ideal.proofs.Runs.{state_before, valid_before, tables_before_lem, caller_before, own_before, Accepted, accepted_call, accepted_at_lem, number_at_lem, state_after}
use Rattle.ideal.proofs.OwnHeap.{own_bytes_lem, written_stands}
use Rattle.ideal.proofs.Does.{ProtectPassed, protect_passed}
use Rattle.ideal.proofs.TwoEscrows.{SameEntry, same_escrow, same_more}
use Rattle.ideal.proofs.TwoStates.{SameHeaps, SameBut}
use Rattle.paper.proofs.Behaviours.{count_at, events_at, event_of_lem, past, tables_split, behaviour_append}
use Rattle.paper.proofs.Events.{EventOf, event_at_lem, protects_at, accepted_event, made, principal_is}
use Rattle.paper.proofs.Unretrieved.{unretrieved, run}

-- ---- a part of a heap overwritten, and put back

same_within : (o : ℕ) (v w : List ℕ) (x : ℕ) → length v ≡ length w → within o v x ≡ within o w x
unfolding within
same_within o v w x e = rw e

put_back : (h : List ℕ) (o n : ℕ) (b : List ℕ) → length b ≡ n → o + n ≤ length h → length (part h o n) ≡ n
    → sets (sets h o b) o (part h o n) ≡ h
unfolding within
put_back h o n b e f l =
    let v = part h o n in
    let s = sets h o b in
    let z = length-sets h o b in
    ext_get_or 0 (sets s o v) h (length-sets s o v ∙ z)
    (λ x _.
    rw (sets_byte s o v x (omega arith))
    (by_cases (within o v x)
    (λ q.
    let c = leb-true o x (and_left _ _ q) in
    let d = ltb-true x (o + length v) (and_right (leb o x) _ q) in
    let i : o + (x - o) ≡ x = omega arith in
    rw q (part_at h o n (x - o) (omega arith) ∙ ap (λ y. get_or h y 0) i))
    (λ q. rw (q, sets_byte h o b x (omega arith), same_within o b v x (e ∙ sym l), q))))

-- ---- the events of a heap write and of a protect

read_element : (c : Call) → Fits c → read (element c).bytes ≡ whole c (length (write c))
unfolding element ReadsBack
read_element c f = subst (λ bs. read bs ≡ whole c (length (write c))) (append-nil (write c)) (reads_back c f [])

next_tables : (s : State) (e : Element) (c : Call) (used : ℕ) → Valid s → Accepted s e c used
    → call_on (tables s) e ≡ laid (accepted s c used)
next_tables s e c used v a = call_is s e v ∙ ap laid (accepted_call s e c used a.reads a.sized a.passes)

no_event : (t : Tables) (r : Result) (p o : ℕ) (w : List ℕ) (used : ℕ) → events t r (whole (heap_write p o w) used) ≡ []
unfolding events event_of command_of
no_event t r p o w used = by_cases (eqb r.answer.code 15) (λ e. rw e) (λ e. rw e)

silent : (s : State) (e : Element) (es : List Element) (p o : ℕ) (w : List ℕ) (used : ℕ) → Valid s
    → Accepted s e (heap_write p o w) used
    → behaviour_from call_on (tables s) (e ∷ es) ≡ behaviour_from call_on (tables (effect s (heap_write p o w))) es
unfolding behaviour_from laid accepted
silent s e es p o w used v a =
    let t = tables s in
    ap (λ y. events t (call_on t e) y ++ behaviour_from call_on (call_on t e).tables es) a.reads
    ∙ ap (λ l. l ++ behaviour_from call_on (call_on t e).tables es) (no_event t (call_on t e) p o w used)
    ∙ ap (λ r. behaviour_from call_on r.tables es) (next_tables s e (heap_write p o w) used v a)

abbrev protects : (p q : ℕ) (η : Handle) → List ℕ → Event
protects p q η w = record { command = iprotect q w; principal = some p; result = handle η }

module _ (p q o n : ℕ) (d : Draw) (η : Handle) (used : ℕ) where
  loud : (s : State) (e : Element) (es : List Element) (w : List ℕ) → Valid s → Accepted s e (protect q o n d) used → caller s ≡ p
      → number s (protect q o n d) ≡ η.0 → own_part s o n ≡ w
      → behaviour_from call_on (tables s) (e ∷ es) ≡ protects p q η w ∷ behaviour_from call_on (tables (effect s (protect q o n d))) es
  unfolding behaviour_from laid accepted command_of tables box_record
  loud s e es w v a by gets own =
      let c = protect q o n d in
      let t = tables s in
      let r = call_on t e in
      let now = next_tables s e c used v a in
      let x = protect_passed s q o n d v a.passes in
      let l = x.runs in
      let z : r.answer.code ≡ 0 = ap (λ y. y.answer.code) now in
      let g : record { 0 = r.answer.number } ≡ η =
      let m = ap (λ y. y.answer.number) now ∙ gets in λ j. record { 0 = m j } in
      let one : events t r (whole c used) ≡ protects p q η w ∷ [] =
      accepted_event t r c used (protects p q η w) z
      (made t r _ _ _ _ z (principal_is t p (λ y. omega arith) by) (ap (iprotect q) (own_bytes_lem s v l o n x.fits ∙ own))
      (ap handle g)) in
      ap (λ y. events t r y ++ behaviour_from call_on r.tables es) a.reads
      ∙ ap (λ y. y ++ behaviour_from call_on r.tables es) one
      ∙ ap (λ y. protects p q η w ∷ behaviour_from call_on y.tables es) now

written_element : (s : State) (p o : ℕ) (w : List ℕ) → p < 16 → o + length w ≤ 256 → refusal s (heap_write p o w) ≡ 0
    → Accepted s (element (heap_write p o w)) (heap_write p o w) (length (write (heap_write p o w)))
unfolding filled
written_element s p o w l f r =
    record {
      sized = unfold element in refl;
      reads = read_element (heap_write p o w)
          (record {
            fields =
                record {
                  place = omega arith;
                  identity = omega arith;
                  offset = omega arith;
                  size = omega arith;
                  number = omega arith;
                  count = omega arith;
                };
            way = unfold first_in ByItsWay in tt;
          });
      passes = r;
    }

-- ---- on the state: b is written over the value, escrowed in its place, and the value written back

write_accepted : (s : State) (o : ℕ) (b : List ℕ) → s.running < 16 → o + length b ≤ 256
    → refusal s (heap_write s.running o b) ≡ 0
unfolding refusal tests first_holding idle beyond
write_accepted s o b l f =
    let p = s.running in
    rw (ne_eqb p 16 (λ e. omega arith), le-ltb 15 p (omega arith), eq-eqb p p refl, le-ltb 256 (o + length b) f)

module _ (s : State) (v : Valid s) (q o n : ℕ) (d : Draw) (r : refusal s (protect q o n d) ≡ 0) (b : List ℕ)
    (size : length b ≡ n) where
  abbrev over : Call
  over = heap_write s.running o b

  abbrev it : Call
  it = protect q o n d

  abbrev back : Call
  back = heap_write s.running o (own_part s o n)

  abbrev s₁ : State
  s₁ = effect s over

  abbrev s₂ : State
  s₂ = effect s₁ it

  abbrev s₃ : State
  s₃ = effect s₂ back

  passes : ProtectPassed s q o n d
  passes = protect_passed s q o n d v r

  length_own : length (own_part s o n) ≡ n
  length_own = own_size s o n v passes.runs passes.fits

  over_passes : refusal s over ≡ 0
  over_passes = write_accepted s o b passes.runs (let f = passes.fits in omega arith)

  it_passes : refusal s₁ it ≡ 0
  unfolding refusal tests idle effect move apply
  it_passes = r

  same_gets : number s₁ it ≡ number s it
  unfolding number effect move apply
  same_gets = refl

  back_passes : refusal s₂ back ≡ 0
  unfolding effect move apply
  back_passes = write_accepted s₂ o (own_part s o n) passes.runs (let f = passes.fits in omega (arith, length_own))

  heaps_back : s₃.heaps ≡ s.heaps
  unfolding effect move apply own_part
  heaps_back =
      let p = s.running in
      let h = heap_at s p in
      let l = passes.runs in
      let f = passes.fits in
      rw (get_or-set_same s.heaps p (sets h o b) [] (omega (arith, v.heaps)), set-set s.heaps p (sets h o b))
      (ap (set s.heaps p) (put_back h o n b size (omega (arith, v.sizes p l)) length_own) ∙ set-get_or s.heaps p [])

  owned : own_part s₁ o n ≡ b
  unfolding effect move
  owned = rw (← size) (written_stands s v passes.runs o b (let f = passes.fits in omega arith))

  same_caller : caller s₁ ≡ caller s
  unfolding effect move apply
  same_caller = refl

  valid₁ : Valid s₁
  valid₁ = valid_effect s over v over_passes

  valid₂ : Valid s₂
  valid₂ = valid_effect s₁ it valid₁ it_passes

  valid₃ : Valid s₃
  valid₃ = valid_effect s₂ back valid₂ back_passes

  same_after : (p : ℕ) (η : Handle) → caller s ≡ p → number s it ≡ η.0 → SameBut (unretrieved p q η) (effect s it) s₃
  unfolding effect move apply protected number
  same_after p η by gets =
      let z = unretrieved p q η in
      let one : SameEntry z.value (protected s q o n d) (protected s₁ q o n d) =
      record {
        key = refl;
        size = length_own ∙ sym size ∙ ap length (sym owned);
        value = λ e.
            clash _ (and_true _ _ (and_true _ _ (eq-eqb _ η.0 gets) (and_true _ _ (eq-eqb _ p by) (eq-eqb q q refl))) refl) e;
      } in
      record {
        identities = refl;
        running = refl;
        heaps =
            subst (λ hs. SameHeaps z s.identities s.heaps hs) (sym heaps_back)
            (record { places = refl; sizes = λ _. refl; open_places = λ _ _. refl });
        shared = refl;
        log = refl;
        escrow = same_more z.value (same_escrow z.value s.escrow) one;
      }

  -- the events of the three calls are the one of the protect, with b
  swapped : (p : ℕ) (η : Handle) (e : Element) (used : ℕ) (rest : List Element) → Accepted s e it used → caller s ≡ p
      → number s it ≡ η.0
      → behaviour_from call_on (tables s) (element over ∷ e ∷ element back ∷ rest)
      ≡ protects p q η b ∷ behaviour_from call_on (tables s₃) rest
  swapped p η e used rest a by gets =
      let l = passes.runs in
      let f = passes.fits in
      let first = written_element s s.running o b l (omega (arith, size)) over_passes in
      let second : Accepted s₁ e it used = record { sized = a.sized; reads = a.reads; passes = it_passes } in
      let third = written_element s₂ s.running o (own_part s o n) l (omega (arith, length_own)) back_passes in
      silent s (element over) (e ∷ element back ∷ rest) s.running o b _ v first
      ∙ loud p q o n d η used s₁ e (element back ∷ rest) b valid₁ second (same_caller ∙ by) (same_gets ∙ gets) owned
      ∙ ap (λ x. protects p q η b ∷ x) (silent s₂ (element back) rest s.running o (own_part s o n) _ valid₂ third)

-- ---- on a run

module _ (es : List Element) (i : ℕ) (v b : List ℕ) (p q : ℕ) (η : Handle) (y : EventOf es i (protects p q η v))
    (e : length b ≡ length v) where
  abbrev k : ℕ
  k = y.index

  abbrev at : ProtectsAt call_on es p q η v k
  at = protects_at es i v p q η y

  abbrev s : State
  s = state_before es k

  abbrev c : Call
  c = protect q at.offset at.size at.draw

  abbrev head : List Element
  head = take k es

  abbrev rest : List Element
  rest = drop (suc k) es

  abbrev A : List Event
  A = behaviour_from call_on fresh_tables head

  valid : Valid s
  valid = valid_before es k

  accepts : Accepted s (element_at es k) c at.used
  accepts = accepted_at_lem es k c at.used at.reads at.accepts

  by : caller s ≡ p
  by = sym (caller_before es k) ∙ at.by

  gets : number s c ≡ η.0
  gets = sym (number_at_lem es k c at.used accepts) ∙ at.gets

  passed : ProtectPassed s q at.offset at.size at.draw
  passed = protect_passed s q at.offset at.size at.draw valid accepts.passes

  own : own_part s at.offset at.size ≡ v
  own = sym (own_before es k at.offset at.size passed.runs passed.fits) ∙ at.bytes

  size : length b ≡ at.size
  size = e ∙ ap length (sym own) ∙ own_size s at.offset at.size valid passed.runs passed.fits

  abbrev last : State
  last = s₃ s valid q at.offset at.size at.draw accepts.passes b size

  abbrev before : Element
  before = element (heap_write s.running at.offset b)

  abbrev after : Element
  after = element (heap_write s.running at.offset (own_part s at.offset at.size))

  from_head : (fs : List Element) → behaviour_from call_on fresh_tables (head ++ fs) ≡ A ++ behaviour_from call_on (tables s) fs
  unfolding tables_before tables_after
  from_head fs = behaviour_append call_on head fs fresh_tables ∙ ap (λ t. A ++ behaviour_from call_on t fs) (tables_before_lem es k)

  alpha : behaviour call_on es ≡ A ++ protects p q η v ∷ behaviour_from call_on (tables (effect s c)) rest
  unfolding behaviour element_at
  alpha =
      ap (behaviour_from call_on fresh_tables) (split_at es k (given [] 0) y.in_list)
      ∙ from_head (element_at es k ∷ rest)
      ∙ ap (λ l. A ++ l)
      (loud p q at.offset at.size at.draw η at.used s (element_at es k) rest v valid accepts by gets own)

  beta : behaviour call_on (head ++ (before ∷ element_at es k ∷ after ∷ rest))
      ≡ A ++ protects p q η b ∷ behaviour_from call_on (tables last) rest
  unfolding behaviour
  beta =
      from_head (before ∷ element_at es k ∷ after ∷ rest)
      ∙ ap (λ x. A ++ x)
      (swapped s valid q at.offset at.size at.draw accepts.passes b size p η (element_at es k)
      at.used rest accepts by gets)

  -- a retrieve of the value in the rest of the list would be an event after i
  never : ((j offset : ℕ) (w : List ℕ) → i < j → Occurs (behaviour call_on es) j (iretrieve p η offset) (some q) (value w) → ⊥)
      → NeverRetrieved call_on p q η (tables (effect s c)) rest
  unfolding command_of event_at
  never h m l x =
      let t = tables_from call_on (tables (effect s c)) (take m rest) in
      let f = element_at rest m in
      let w = own_bytes (call_on t f).tables x.offset (call_on t f).answer.number in
      let ev : Event = record { command = iretrieve p η x.offset; principal = some q; result = value w } in
      let places = (facts t f.output_size (sound_of t f x.accepts)).places in
      let runs : t.box.running ≡ 16 → ⊥ = λ z.
      passed.named (sym x.by ∙ get_or-eq_default t.box.identities 0 (omega arith)) in
      let one : events_at call_on (tables (effect s c)) rest m ≡ ev ∷ [] =
      rw x.reads
      (accepted_event t (call_on t f) (retrieve p x.offset η) x.used ev x.accepts
      (made t (call_on t f) _ _ _ _ x.accepts (principal_is t q runs x.by) refl refl)) in
      let j = count_at call_on (tables (effect s c)) rest m in
      let there = event_of_lem call_on rest (tables (effect s c)) m ev one in
      let count = y.count in
      h (length A + suc j) x.offset w (omega arith)
      (ap (λ α. event_at α (length A + suc j)) alpha
      ∙ past call_on A (protects p q η v ∷ behaviour_from call_on (tables (effect s c)) rest) (suc j) ∙ there)

  -- a chain through the value in the rest of the list is one in the list
  unfollowed : NeverFollowed call_on p q η fresh_tables es → NeverFollowed call_on p q η (tables (effect s c)) rest
  unfolding tables_before tables_after element_at
  unfollowed h m l x =
      let begins : tables_from call_on fresh_tables (take (suc k) es) ≡ tables (effect s c) =
      tables_before_lem es (suc k) ∙ ap tables (state_after es k c at.used accepts) in
      let there : tables_from call_on fresh_tables (take (suc k + m) es) ≡ tables_from call_on (tables (effect s c)) (take m rest) =
      tables_split call_on (suc k) m es fresh_tables ∙ ap (λ t. tables_from call_on t (take m rest)) begins in
      let is : element_at es (suc k + m) ≡ element_at rest m = sym (get_or-drop (suc k) es m _) in
      h (suc k + m) (omega (arith, length-drop (suc k) es))
      (record {
        first = x.first;
        bytes = x.bytes;
        used = x.used;
        reads = ap (λ e. read e.bytes) is ∙ x.reads;
        by = ap (λ t. caller_in t) there ∙ x.by;
        before = x.before;
        few = x.few;
        left = x.left;
        comes = rw there x.comes;
        finds = rw there x.finds;
      })

  behaves : ((j offset : ℕ) (w : List ℕ) → i < j → Occurs (behaviour call_on es) j (iretrieve p η offset) (some q) (value w) → ⊥)
      → NeverFollowed call_on p q η fresh_tables es → BehavesWithTwo call_on es (set (behaviour call_on es) i (protects p q η b))
  behaves h f =
      let r = accepts.passes in
      let same =
      run p q η rest (effect s c) last (valid_effect s c valid r)
      (valid₃ s valid q at.offset at.size at.draw r b size)
      (same_after s valid q at.offset at.size at.draw r b size p η by gets) (never h) (unfollowed f) in
      record {
        index = k;
        before = before;
        after = after;
        is =
            beta ∙ ap (λ l. A ++ protects p q η b ∷ l) (sym same.events)
            ∙ sym (ap (λ α. set α i (protects p q η b)) alpha ∙ set_at A (protects p q η v) _ (protects p q η b) i y.count);
      }

pub lemma3_1 : Lemma3-1 call_on
lemma3_1 es i v b p q η h n f e = behaves es i v b p q η (event_at_lem es i _ h) e n f
