-- The CAIF paper's section 3 by its own numbers: Definition 1, Lemmas 1 to 3, the assumptions (i) to (iii) on handles.
use Rattle.std.specs.Prelude.{ℕ, zero, suc, ◌+◌, ◌≤◌, ◌<◌, ◌≡◌, Bool, true, false, cond, List, [], ◌∷◌, ◌++◌, length, get_or, set, take, drop, eqb}
use Rattle.std.proofs.Math.Option.{Option, none, some}
use Rattle.fnv.specs.declared.Tag.{Tag}
use Rattle.record.specs.declared.Handle.{Handle}
use Rattle.record.specs.declared.Draw.{Draw}
use Rattle.record.specs.Call.{Link, escrowed_link, Call, create, exit, heap_write, heap_read, shared_write, shared_read, attest, check, protect, retrieve, report, hand_over, chain, release}
use Rattle.record.specs.Read.{Reading, refused, whole, read}
use Rattle.ideal.specs.State.{part}
use Rattle.ideal.specs.Tables.{Tables, escrow_table, fresh_tables}
use Rattle.ideal.specs.Box.{Element, Result, element_at, tables_before, tables_from, answers_from}
use Rattle.ideal.specs.Layouts.{Sound}
use Rattle.ideal.specs.Refusals.{caller_in, own_bytes, is_row, is_absent, row_for, value_at, left_at, leads_on, named_in, link_conditions, First}
use Rattle.ideal.specs.Accuracy.{Earlier, EarlierNot, LogsAt, ProtectsAt, ReleasesAt, Says, HandsOut, handle_used, HandleOnce, HandleIsFirstFree}

-- ---- Definition 1

-- "A command c is an instruction together with a choice of its command arguments." A value v is what the caller's
-- heap holds in the part that the call names; where there is no such part (4, 11) the call fails, and v means nothing. The
-- draw is no argument: it stands for iprotect's sampling. A retrieve's offset, which the paper leaves open, says where in its
-- heap the caller wants the value. The paper has no release.
pub data Command : Type 0 where
  iattest : (v : List ℕ) → Command
  icheck : (source : ℕ) (v : List ℕ) (τ : Tag) → Command
  iprotect : (recipient : ℕ) (v : List ℕ) → Command
  iretrieve : (source : ℕ) (η : Handle) (offset : ℕ) → Command
  irelease : (source : ℕ) (η : Handle) → Command

-- "the result of executing the instruction"; an instruction that fails gives the refusal's number
pub data Response : Type 0 where
  tag : (τ : Tag) → Response
  truth : (yes : Bool) → Response
  handle : (η : Handle) → Response
  value : (v : List ℕ) → Response
  released : Response
  fails : (code : ℕ) → Response

-- "An event is a triple (command, principal, result) of: a command; the executing service principal that causes it (or ⊥ if
-- the active process is not a service); and the result of executing the instruction."
pub record Event : Type 0 where
  pub command : Command
  pub principal : Option ℕ
  pub result : Response

-- none is the paper's ⊥
unfoldable pub principal_in : Tables → Option ℕ
principal_in t = cond (eqb t.box.running 16) none (some (caller_in t))

-- attest, check, protect and retrieve are instructions, where own is the parts of the caller's heap. The paper has no release
-- (document 02, P8); it is an instruction here, by which a recipient gives up what it could retrieve. The other nine kinds are
-- none: they are "normal computational steps", or the auxiliary operations of 5.3; a chain (document 02, P3) is the links of 4.2
-- followed in one call.
unfoldable pub command_of : (own : (offset size : ℕ) → List ℕ) → Call → Option Command
command_of own (create p i) = none
command_of own exit = none
command_of own (heap_write p o v) = none
command_of own (heap_read p o n) = none
command_of own (shared_write o v) = none
command_of own (shared_read o n) = none
command_of own (attest o n) = some (iattest (own o n))
command_of own (check i g v) = some (icheck i v g)
command_of own (protect i o n d) = some (iprotect i (own o n))
command_of own (retrieve i o h) = some (iretrieve i h o)
command_of own report = none
command_of own (hand_over p) = none
command_of own (chain first v) = none
command_of own (release i h) = some (irelease i h)

-- what a command gives that is accepted; a release gives nothing but that
abbrev pub given : Result → Command → Response
given r (iattest v) = tag (record { 0 = r.answer.number })
given r (icheck p v τ) = truth (eqb r.answer.number 1)
given r (iprotect q v) = handle (record { 0 = r.answer.number })
given r (iretrieve p η offset) = value (own_bytes r.tables offset r.answer.number)
given r (irelease p η) = released

-- each command is an event, accepted or refused, where the call gave r on t
unfoldable pub event_of : Tables → Result → Option Command → List Event
event_of t r none = []
event_of t r (some c) =
    record {
      command = c;
      principal = principal_in t;
      result = cond (eqb r.answer.code 0) (given r c) (fails r.answer.code);
    }
    ∷ []

-- what the box answers 1, 2, 3 or 15 executes no instruction: there is no call, or the host lent no box to execute it on
unfoldable pub events : Tables → Result → Reading → List Event
events t r (refused code number) = []
events t r (whole c used) = cond (eqb r.answer.code 15) [] (event_of t r (command_of (own_bytes t) c))

module _ (box : Tables → Element → Result) where
  unfoldable pub behaviour_from : Tables → List Element → List Event
  behaviour_from t [] = []
  behaviour_from t (e ∷ es) = events t (box t e) (read e.bytes) ++ behaviour_from (box t e).tables es

  -- "An IF behavior is a behavior of IF starting from the initial state with empty lookup tables."
  unfoldable pub behaviour : List Element → List Event
  behaviour es = behaviour_from fresh_tables es

unfoldable pub event_at : List Event → ℕ → Option Event
event_at [] i = none
event_at (e ∷ α) zero = some e
event_at (e ∷ α) (suc i) = event_at α i

-- the event of α at index i is this triple
abbrev pub Occurs : List Event → ℕ → Command → Option ℕ → Response → Type 0
Occurs α i c p r = event_at α i ≡ some (record { command = c; principal = p; result = r })

-- each accepted attest, check, protect, retrieve and release of a list is an event, after those of the calls before it
pub record Definition1 (box : Tables → Element → Result) : Type 0 where
  pub attests : (es : List Element) (k p : ℕ) (v : List ℕ) (τ : Tag) → LogsAt box es p v τ k
      → Occurs (behaviour box es) (length (behaviour box (take k es))) (iattest v) (some p) (tag τ)
  pub checks : (es : List Element) (k p n used : ℕ) (τ : Tag) (v : List ℕ)
      → read (element_at es k).bytes ≡ whole (check p τ v) used → Says box es n k
      → Occurs (behaviour box es) (length (behaviour box (take k es))) (icheck p v τ) (principal_in (tables_before box es k))
      (truth (eqb n 1))
  pub protects : (es : List Element) (k p q : ℕ) (η : Handle) (v : List ℕ) → ProtectsAt box es p q η v k
      → Occurs (behaviour box es) (length (behaviour box (take k es))) (iprotect q v) (some p) (handle η)
  pub retrieves : (es : List Element) (k p offset used : ℕ) (η : Handle) (v : List ℕ)
      → read (element_at es k).bytes ≡ whole (retrieve p offset η) used → HandsOut box es offset v k
      → Occurs (behaviour box es) (length (behaviour box (take k es))) (iretrieve p η offset)
      (principal_in (tables_before box es k)) (value v)
  pub releases : (es : List Element) (k p q : ℕ) (η : Handle) → ReleasesAt box es p q η k
      → Occurs (behaviour box es) (length (behaviour box (take k es))) (irelease p η) (some q) released

unfoldable pub needs_service : Command → Bool
needs_service (iattest v) = true
needs_service (icheck p v τ) = false
needs_service (iprotect q v) = true
needs_service (iretrieve p η offset) = true
needs_service (irelease p η) = true

-- ---- Lemmas 1 and 2, of every behaviour α of the box

-- at index k of α the recipient q releases what p protected for it under η, and is accepted
abbrev pub GivesUp : List Event → (p q : ℕ) (η : Handle) → ℕ → Type 0
GivesUp α p q η k = Occurs α k (irelease p η) (some q) released

module _ (box : Tables → Element → Result) where
  -- "If, for i < j, c_i = iattest(v) and c_j = icheck(P_i, v, r_i), then r_j = true."
  abbrev pub Lemma1-1 : Type 0
  Lemma1-1 = (es : List Element) (i j : ℕ) (v : List ℕ) (p : ℕ) (τ : Tag) (q : Option ℕ) (r : Response)
      → let α = behaviour box es in
      i < j → Occurs α i (iattest v) (some p) (tag τ) → Occurs α j (icheck p v τ) q r → r ≡ truth true

  -- "If c_j = icheck(p, v, τ) and r_j = true, then for some i < j, c_i = iattest(v), P_i = p, and r_i = τ."
  abbrev pub Lemma1-2 : Type 0
  Lemma1-2 = (es : List Element) (j : ℕ) (v : List ℕ) (p : ℕ) (τ : Tag) (q : Option ℕ)
      → let α = behaviour box es in
      Occurs α j (icheck p v τ) q (truth true) → Earlier (λ i. Occurs α i (iattest v) (some p) (tag τ)) j

  -- "If, for i < j, c_i = iprotect(P_j, v) and c_j = iretrieve(P_i, r_i), then r_j = v." Here P_j must also not have released
  -- the value between, and the value must fit where the caller wants it.
  abbrev pub Lemma2-1 : Type 0
  Lemma2-1 = (es : List Element) (i j : ℕ) (v : List ℕ) (p q : ℕ) (η : Handle) (offset : ℕ) (r : Response)
      → let α = behaviour box es in
      i < j → Occurs α i (iprotect q v) (some p) (handle η) → Occurs α j (iretrieve p η offset) (some q) r
      → ((k : ℕ) → i < k → k < j → GivesUp α p q η k → ⊥) → offset + length v ≤ 256 → r ≡ value v

  -- "If c_j = iretrieve(p, η) and r_j = v, then for some i < j, c_i = iprotect(P_j, v), P_i = p, and r_i = η." Here P_j
  -- has also not released the value between.
  abbrev pub Lemma2-2 : Type 0
  Lemma2-2 = (es : List Element) (j : ℕ) (v : List ℕ) (p q : ℕ) (η : Handle) (offset : ℕ)
      → let α = behaviour box es in
      Occurs α j (iretrieve p η offset) (some q) (value v)
      → EarlierNot (λ i. Occurs α i (iprotect q v) (some p) (handle η)) (GivesUp α p q η) j

  -- "Any active process can use icheck"; "only a service can execute" the others: where none runs they fail, by 4
  abbrev pub OnlyServices : Type 0
  OnlyServices = (es : List Element) (i : ℕ) (c : Command) (r : Response)
      → needs_service c ≡ true → Occurs (behaviour box es) i c none r → r ≡ fails 4

-- ---- the assumptions on handles

module _ (box : Tables → Element → Result) where
  -- an accepted protect of n bytes with this draw on t, and the handle that it gets
  pub record Gives (t : Tables) (n : ℕ) (d : Draw) (η : ℕ) : Type 0 where
    pub element : Element
    pub recipient : ℕ
    pub offset : ℕ
    pub used : ℕ
    pub reads : read element.bytes ≡ whole (protect recipient offset n d) used
    pub accepts : (box t element).answer.code ≡ 0
    pub gets : (box t element).answer.number ≡ η

  -- "(i) the randomized choice of η is independent of which v is presented, for all v of a given length j": it depends on the
  -- length, the draw and the escrow's handles, and on nothing else in two boxes
  abbrev pub Assumption-i : Type 0
  Assumption-i = (t u : Tables) (n : ℕ) (d : Draw) (η ζ : ℕ) → ((h : Handle) → handle_used t h ≡ handle_used u h)
      → Gives t n d η → Gives u n d ζ → η ≡ ζ

  -- "(ii) For different lengths j ≠ j', the supports .. are disjoint": whatever the boxes, draws, sources and recipients
  abbrev pub Assumption-ii : Type 0
  Assumption-ii = (t u : Tables) (n m : ℕ) (d c : Draw) (η : ℕ) → Gives t n d η → Gives u m c η → n ≡ m

  -- "(iii) The IF does not re-use any handle η; it checks the table entries and resamples in case of collision." Nor does it
  -- after a release: the spent entry stays in the table.
  pub record Assumption-iii : Type 0 where
    pub no_re_use : HandleOnce box
    pub resamples : HandleIsFirstFree box

-- ---- Lemma 3: what is escrowed under (η, P_s, P_r), not retrieved and not followed shows nowhere

-- two boxes that differ in the value of (η, p, q) alone; its length, which stands in the row, is the same. A spent row has no
-- value: where that of (η, p, q) is spent, no row's value differs.
pub record OnlyValue (p q : ℕ) (η : Handle) (t u : Tables) : Type 0 where
  pub box : t.box ≡ u.box
  pub heaps : t.heaps ≡ u.heaps
  pub shared : t.shared ≡ u.shared
  pub log_rows : t.log_rows ≡ u.log_rows
  pub log_values : t.log_values ≡ u.log_values
  pub escrow_rows : t.escrow_rows ≡ u.escrow_rows
  pub escrow_values : (k : ℕ) → k < t.box.escrow.rows
      → let r = get_or t.escrow_rows k escrow_table.blank in is_row η p q r ≡ false
      → part t.escrow_values r.first r.length ≡ part u.escrow_values r.first r.length

-- a chain whose first link is so named, with these chain bytes, comes to a link, with those left, when n have been followed:
-- all of these passed their tests, and each led to the next
pub data ComesTo (t : Tables) (first : Link) (bytes : List ℕ) : (n : ℕ) → Link → List ℕ → Type 0 where
  at_first : ComesTo t first bytes 0 first bytes
  goes_on : {n : ℕ} {k : Link} {left : List ℕ} → ComesTo t first bytes n k left → First 0 (link_conditions t n k left)
      → leads_on (value_at t k left) ≡ true → ComesTo t first bytes (suc n) (named_in (value_at t k left)) (left_at k left)

module _ (box : Tables → Element → Result) where
  -- at index k of a run from t the recipient q is handed the value: it retrieves (η, p, q) and is accepted
  pub record RetrievesAt (p q : ℕ) (η : Handle) (t : Tables) (es : List Element) (k : ℕ) : Type 0 where
    pub offset : ℕ
    pub used : ℕ
    pub reads : read (element_at es k).bytes ≡ whole (retrieve p offset η) used
    pub by : caller_in (tables_from box t (take k es)) ≡ q
    pub accepts : (box (tables_from box t (take k es)) (element_at es k)).answer.code ≡ 0

  -- "Suppose there is no subsequent c_j = iretrieve(P_i, r_i) with this input r_i and P_j = P_r": here only accepted ones are
  -- excluded, and in the first run only
  abbrev pub NeverRetrieved : (p q : ℕ) (η : Handle) → Tables → List Element → Type 0
  NeverRetrieved p q η t es = (k : ℕ) → k < length es → RetrievesAt p q η t es k → ⊥

  -- just before the call at index k of a run from t
  abbrev pub tables_at : Tables → List Element → ℕ → Tables
  tables_at t es k = tables_from box t (take k es)

  -- at index k of a run from t the recipient q follows a chain through the value: its chain comes to the escrowed link (p, η)
  -- before sixteen have been followed, and finds it
  pub record FollowsAt (p q : ℕ) (η : Handle) (t : Tables) (es : List Element) (k : ℕ) : Type 0 where
    pub first : Link
    pub bytes : List ℕ
    pub used : ℕ
    pub reads : read (element_at es k).bytes ≡ whole (chain first bytes) used
    pub by : caller_in (tables_at t es k) ≡ q
    pub before : ℕ
    pub few : before < 16
    pub left : List ℕ
    pub comes : ComesTo (tables_at t es k) first bytes before (escrowed_link p η) left
    pub finds : is_absent (row_for (tables_at t es k) p η) ≡ false

  -- the paper has no chains: following one through the handle counts, with retrieving it, among what P_r does not do
  abbrev pub NeverFollowed : (p q : ℕ) (η : Handle) → Tables → List Element → Type 0
  NeverFollowed p q η t es = (k : ℕ) → k < length es → FollowsAt p q η t es k → ⊥

  pub record AgreeBut (p q : ℕ) (η : Handle) (t u : Tables) (es : List Element) : Type 0 where
    -- codes, numbers, bytes used and bytes shown
    pub answers : answers_from box t es ≡ answers_from box u es
    pub events : behaviour_from box t es ≡ behaviour_from box u es
    pub end : OnlyValue p q η (tables_from box t es) (tables_from box u es)

  -- Lemma 3 without probabilities: any two sound boxes that differ in that value alone answer every list of elements alike, and
  -- differ in that value alone afterwards. The draws stand in the elements: they are the host's, and this holds for each choice
  -- of them. So where they are drawn independently of the value (at the protect itself (i) says that this makes no difference),
  -- and other elements are chosen by what was answered, all that is observed is as likely for one value as for another. Part 2
  -- follows by Bayes' rule; it is not stated here, where nothing is random. The paper has no release: here any may stand in
  -- the list, also one of that very value, as a release shows nothing of what it gives up; after it no value differs.
  abbrev pub Lemma3 : Type 0
  Lemma3 = (p q : ℕ) (η : Handle) (t u : Tables) (es : List Element) → Sound t 1024 → Sound u 1024 → OnlyValue p q η t u
      → NeverRetrieved p q η t es → NeverFollowed p q η t es → AgreeBut p q η t u es

  -- α is the behaviour of the list with two elements more, one just before the call at an index and one just after it; so the
  -- draws are those of the list
  pub record BehavesWithTwo (es : List Element) (α : List Event) : Type 0 where
    pub index : ℕ
    pub before : Element
    pub after : Element
    pub is : behaviour box (take index es ++ (before ∷ element_at es index ∷ after ∷ drop (suc index) es)) ≡ α

  -- "1. α_ν[b/ν] is a behavior", for each b of v's length, where ν is the value of the iprotect at i. A chain is no event, so
  -- that none goes through the value is said of the list. A release is an event, but no value stands in it.
  abbrev pub Lemma3-1 : Type 0
  Lemma3-1 = (es : List Element) (i : ℕ) (v b : List ℕ) (p q : ℕ) (η : Handle)
      → let α = behaviour box es in
      Occurs α i (iprotect q v) (some p) (handle η)
      → ((j offset : ℕ) (w : List ℕ) → i < j → Occurs α j (iretrieve p η offset) (some q) (value w) → ⊥)
      → NeverFollowed p q η fresh_tables es → length b ≡ length v
      → BehavesWithTwo es (set α i (record { command = iprotect q b; principal = some p; result = handle η }))
