-- Demand 2: what a check, a retrieve, a release and a chain say about the calls since a fresh box, on the host's tables.
use Rattle.std.specs.Prelude.{ℕ, zero, suc, ◌+◌, ◌*◌, ◌-◌, ◌^◌, ◌≤◌, ◌<◌, ◌≡◌, ◌↔◌, Bool, true, false, List, [], ◌∷◌, ◌++◌, length, get_or, eqb}
use Rattle.std.proofs.lemmas.List.Edits.{sets}
use Rattle.fnv.specs.declared.Tag.{Tag}
use Rattle.record.specs.declared.Handle.{Handle}
use Rattle.record.specs.declared.Draw.{Draw}
use Rattle.record.specs.Call.{Link, logged_link, escrowed_link, stray_link, way_of, identity_of, number_of, attest, check, protect, retrieve, chain, release}
use Rattle.record.specs.Read.{whole, read, from_little}
use Rattle.ideal.specs.State.{part, any}
use Rattle.ideal.specs.Step.{handle_of, next}
use Rattle.ideal.specs.Tables.{Tables, heap_start, used_escrow}
use Rattle.ideal.specs.Box.{Element, Result, element_at, tables_before, answer_at}
use Rattle.ideal.specs.Layouts.{Sound}
use Rattle.ideal.specs.Refusals.{caller_in, own_bytes}

-- something holds at an index before k
pub record Earlier (P : ℕ → Type 0) (k : ℕ) : Type 0 where
  pub index : ℕ
  pub before : index < k
  pub there : P index

-- something holds at an index before k, and another thing at none since
pub record EarlierNot (P Q : ℕ → Type 0) (k : ℕ) : Type 0 where
  pub index : ℕ
  pub before : index < k
  pub there : P index
  pub since : (j : ℕ) → index < j → j < k → Q j → ⊥

-- the tables with bytes at an offset of the running place's heap, and nothing else altered
unfoldable pub with_own_bytes : Tables → ℕ → List ℕ → Tables
with_own_bytes t offset v =
    record {
      box = t.box;
      heaps = sets t.heaps (heap_start t.box.running + offset) v;
      shared = t.shared;
      log_rows = t.log_rows;
      log_values = t.log_values;
      escrow_rows = t.escrow_rows;
      escrow_values = t.escrow_values;
    }

-- ---- links of a chain (document 02, P3)

-- a link, and the value that stands there
pub record LinkValue : Type 0 where
  pub link : Link
  pub value : List ℕ

-- stands where a list has no such link
unfoldable pub no_link : LinkValue
no_link = record { link = stray_link 0 0 0; value = [] }

unfoldable pub link_at : List LinkValue → ℕ → LinkValue
link_at ls j = get_or ls j no_link

-- the head of a value names the next link: its way, its identity in 8 bytes, its tag or handle in 8 bytes
pub record Names (v : List ℕ) (k : Link) : Type 0 where
  pub way : get_or v 0 0 ≡ way_of k
  pub long : 17 ≤ length v
  pub identity : from_little (part v 1 8) ≡ identity_of k
  pub number : from_little (part v 9 8) ≡ number_of k

-- these chain bytes are the values of the logged links, in order, each after its count of 2 bytes, and nothing else
pub data ChainBytes : List LinkValue → List ℕ → Type 0 where
  no_links : ChainBytes [] []
  logged_then : {h : LinkValue} {hs : List LinkValue} {bs : List ℕ} {i : ℕ} {g : Tag} (count : List ℕ) → h.link ≡ logged_link i g
      → length count ≡ 2 → from_little count ≡ length h.value → ChainBytes hs bs → ChainBytes (h ∷ hs) (count ++ (h.value ++ bs))
  escrowed_then : {h : LinkValue} {hs : List LinkValue} {bs : List ℕ} {i : ℕ} {g : Handle} → h.link ≡ escrowed_link i g
      → ChainBytes hs bs → ChainBytes (h ∷ hs) bs

module _ (box : Tables → Element → Result) (es : List Element) where
  -- at this index the program i logs the bytes v and gets the tag
  pub record LogsAt (i : ℕ) (v : List ℕ) (tag : Tag) (k : ℕ) : Type 0 where
    pub offset : ℕ
    pub size : ℕ
    pub used : ℕ
    pub reads : read (element_at es k).bytes ≡ whole (attest offset size) used
    pub accepts : (answer_at box es k).code ≡ 0
    pub by : caller_in (tables_before box es k) ≡ i
    pub bytes : own_bytes (tables_before box es k) offset size ≡ v
    pub gets : (answer_at box es k).number ≡ tag.0

  -- at this index the program source protects the bytes v for the recipient and gets the handle
  pub record ProtectsAt (source recipient : ℕ) (handle : Handle) (v : List ℕ) (k : ℕ) : Type 0 where
    pub offset : ℕ
    pub size : ℕ
    pub draw : Draw
    pub used : ℕ
    pub reads : read (element_at es k).bytes ≡ whole (protect recipient offset size draw) used
    pub accepts : (answer_at box es k).code ≡ 0
    pub by : caller_in (tables_before box es k) ≡ source
    pub bytes : own_bytes (tables_before box es k) offset size ≡ v
    pub gets : (answer_at box es k).number ≡ handle.0

  -- at this index the recipient releases what the source protected for it under the handle
  pub record ReleasesAt (source recipient : ℕ) (handle : Handle) (k : ℕ) : Type 0 where
    pub used : ℕ
    pub reads : read (element_at es k).bytes ≡ whole (release source handle) used
    pub accepts : (answer_at box es k).code ≡ 0
    pub by : caller_in (tables_before box es k) ≡ recipient

  -- the call at this index is accepted with this number
  abbrev pub Says : ℕ → ℕ → Type 0
  Says n k = ((answer_at box es k).code ≡ 0) × ((answer_at box es k).number ≡ n)

  -- an accepted retrieve that puts v into the running heap at the offset asked, and alters nothing else
  pub record HandsOut (offset : ℕ) (v : List ℕ) (k : ℕ) : Type 0 where
    pub accepts : Says (length v) k
    pub stands : own_bytes (tables_before box es (suc k)) offset (length v) ≡ v
    pub alters : tables_before box es (suc k) ≡ with_own_bytes (tables_before box es k) offset v

  -- the output buffer lent at this index has its size
  abbrev pub Sized : ℕ → Type 0
  Sized k = (element_at es k).output_size ≡ 1024

  -- a program runs at this index
  abbrev pub Runs : ℕ → Type 0
  Runs k = (tables_before box es k).box.running ≡ 16 → ⊥

  pub record CheckAt (k i : ℕ) (tag : Tag) (v : List ℕ) : Type 0 where
    pub yes : Says 1 k ↔ (Sized k × Earlier (LogsAt i v tag) k)
    pub no : Says 0 k ↔ (Sized k × (i ≡ 0 → ⊥) × (Earlier (LogsAt i v tag) k → ⊥))

  -- the source protected v for the program that runs at k, before k, and got the handle; that program has not released it since
  abbrev pub HeldBefore : ℕ → ℕ → Handle → List ℕ → Type 0
  HeldBefore k source handle v =
      let recipient = caller_in (tables_before box es k) in
      EarlierNot (ProtectsAt source recipient handle v) (ReleasesAt source recipient handle) k

  -- a retrieve hands out a value exactly when that source earlier protected it for the caller and got that handle, the caller
  -- has not released it since, and it fits
  abbrev pub HandsOutWhen : (k source offset : ℕ) → Handle → Type 0
  HandsOutWhen k source offset handle =
      (v : List ℕ) → HandsOut offset v k ↔ (Sized k × HeldBefore k source handle v × (offset + length v ≤ 256))

  pub record RetrieveAt (k source offset : ℕ) (handle : Handle) : Type 0 where
    pub hands_out : HandsOutWhen k source offset handle
    -- what is handed out is unique
    pub one_value : (v w : List ℕ) → HeldBefore k source handle v → HeldBefore k source handle w → v ≡ w
    -- 10: no such escrow row
    pub not_there : ((answer_at box es k).code ≡ 10)
        ↔ (Sized k × Runs k × (source ≡ 0 → ⊥) × ((v : List ℕ) → HeldBefore k source handle v → ⊥))
    -- 11: it does not fit where it was asked
    pub too_far : (v : List ℕ) → HeldBefore k source handle v
        → ((answer_at box es k).code ≡ 11) ↔ (Sized k × (256 < offset + length v))

  -- a release is accepted exactly when there is such a value, and is refused with 10 exactly when there is none
  pub record ReleaseAt (k source : ℕ) (handle : Handle) : Type 0 where
    pub gives_up : Says 0 k ↔ (Sized k × (v : List ℕ) × HeldBefore k source handle v)
    pub not_there : ((answer_at box es k).code ≡ 10)
        ↔ (Sized k × Runs k × (source ≡ 0 → ⊥) × ((v : List ℕ) → HeldBefore k source handle v → ⊥))

  -- a link's value was logged before k by that identity under that tag, or escrowed by it for the program that runs at k
  -- under that handle and not released since
  pub data Vouched (k : ℕ) (h : LinkValue) : Type 0 where
    was_logged : {i : ℕ} {tag : Tag} → h.link ≡ logged_link i tag → Earlier (LogsAt i h.value tag) k → Vouched k h
    was_escrowed : {i : ℕ} {handle : Handle} → h.link ≡ escrowed_link i handle → HeldBefore k i handle h.value → Vouched k h

  -- a chain of n links, the first of which is so named, that ends, with these chain bytes
  pub record Custody (k : ℕ) (first : Link) (chain_bytes : List ℕ) (n : ℕ) : Type 0 where
    pub links : List LinkValue
    pub count : length links ≡ n
    pub least : 1 ≤ n
    pub most : n ≤ 16
    pub begins : (link_at links 0).link ≡ first
    -- each next link is named by the head of the one before, and the last one's head is 1
    pub leads : (j : ℕ) → suc j < n → Names (link_at links j).value (link_at links (suc j)).link
    pub ends : get_or (link_at links (n - 1)).value 0 0 ≡ 1
    pub vouched : (j : ℕ) → j < n → Vouched k (link_at links j)
    pub bytes : ChainBytes links chain_bytes

  -- a chain is accepted with n exactly when a program runs and there are n such links
  abbrev pub ChainAt : ℕ → Link → List ℕ → Type 0
  ChainAt k first chain_bytes = (n : ℕ) → Says n k ↔ (Sized k × Runs k × Custody k first chain_bytes n)

-- f taken k times, from x
unfoldable pub iterate : (ℕ → ℕ) → ℕ → ℕ → ℕ
iterate f zero x = x
iterate f (suc k) x = iterate f k (f x)

-- the handle of the draw, of the next draw, and so on
unfoldable pub candidate : ℕ → ℕ → ℕ → Handle
candidate size draw k = handle_of size (iterate next k draw)

-- the handle is in an escrow row
unfoldable pub handle_used : Tables → Handle → Bool
handle_used t h = any (λ r. eqb r.handle.0 h.0) (used_escrow t)

-- the handle is that of the first free draw, and at most 64 are passed over
pub record FirstFree (t : Tables) (size draw : ℕ) (handle : Handle) : Type 0 where
  pub passed : ℕ
  pub few : passed ≤ 64
  pub is : handle ≡ candidate size draw passed
  -- its number a second time
  pub number : handle.0 ≡ size * 2 ^ 48 + iterate next passed draw
  pub free : handle_used t handle ≡ false
  pub used : (k : ℕ) → k < passed → handle_used t (candidate size draw k) ≡ true

module _ (box : Tables → Element → Result) where
  abbrev pub CheckIsAccurate : Type 0
  CheckIsAccurate = (es : List Element) (k i : ℕ) (tag : Tag) (v : List ℕ) (used : ℕ)
      → read (element_at es k).bytes ≡ whole (check i tag v) used → CheckAt box es k i tag v

  -- on any sound box, hand-made ones included, a check of more than 256 bytes is 0
  abbrev pub LongCheckIsNo : Type 0
  LongCheckIsNo = (t : Tables) (e : Element) (i : ℕ) (tag : Tag) (v : List ℕ) (used : ℕ)
      → read e.bytes ≡ whole (check i tag v) used → 256 < length v → Sound t e.output_size → (i ≡ 0 → ⊥)
      → ((box t e).answer.code ≡ 0) × ((box t e).answer.number ≡ 0)

  abbrev pub RetrieveIsAccurate : Type 0
  RetrieveIsAccurate = (es : List Element) (k source offset : ℕ) (handle : Handle) (used : ℕ)
      → read (element_at es k).bytes ≡ whole (retrieve source offset handle) used → RetrieveAt box es k source offset handle

  abbrev pub ReleaseIsAccurate : Type 0
  ReleaseIsAccurate = (es : List Element) (k source : ℕ) (handle : Handle) (used : ℕ)
      → read (element_at es k).bytes ≡ whole (release source handle) used → ReleaseAt box es k source handle

  abbrev pub ChainIsAccurate : Type 0
  ChainIsAccurate = (es : List Element) (k : ℕ) (first : Link) (v : List ℕ) (used : ℕ)
      → read (element_at es k).bytes ≡ whole (chain first v) used → ChainAt box es k first v

  -- no handle is given twice, though its value be released
  abbrev pub HandleOnce : Type 0
  HandleOnce = (es : List Element) (handle : Handle) (i₁ r₁ i₂ r₂ : ℕ) (v₁ v₂ : List ℕ) (k₁ k₂ : ℕ)
      → ProtectsAt box es i₁ r₁ handle v₁ k₁ → ProtectsAt box es i₂ r₂ handle v₂ k₂ → k₁ ≡ k₂

  -- on any sound box, hand-made ones included, an accepted protect gives the first free handle
  abbrev pub HandleIsFirstFree : Type 0
  HandleIsFirstFree = (t : Tables) (e : Element) (i o n : ℕ) (d : Draw) (used : ℕ)
      → read e.bytes ≡ whole (protect i o n d) used → (box t e).answer.code ≡ 0
      → FirstFree t n d.0 (record { 0 = (box t e).answer.number })
