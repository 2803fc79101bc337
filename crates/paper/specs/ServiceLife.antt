-- Service life, as the CAIF paper's 5.1 and 5.3 have it.
use Rattle.std.specs.Prelude.{ℕ, ◌<◌, ◌≡◌, true, List, [], ◌∷◌, replicate}
use Rattle.record.specs.Call.{Call, exit, heap_read, hand_over}
use Rattle.record.specs.Layout.{stands}
use Rattle.record.specs.Read.{whole, read}
use Rattle.record.specs.Write.{filled}
use Rattle.ideal.specs.State.{part, cleared}
use Rattle.ideal.specs.Tables.{Tables, heap_start}
use Rattle.ideal.specs.Box.{Element, Result, tables_before, answer_at}
use Rattle.ideal.specs.Layouts.{Sound}
use Rattle.ideal.specs.Refusals.{one_of}
use Rattle.ideal.specs.OneCall.{with_places_in}
use Rattle.ideal.specs.History.{Accepts}

abbrev pub heap_of : Tables → ℕ → List ℕ
heap_of t p = part t.heaps (heap_start p) 256

-- ---- 5.1: "A non-shared heap segment is readable and writable by this service, but not by any other active process"

-- two boxes that differ in the heaps of places other than p alone
pub record OnlyOtherHeaps (p : ℕ) (t u : Tables) : Type 0 where
  pub box : t.box ≡ u.box
  pub heap : p < 16 → heap_of t p ≡ heap_of u p
  pub shared : t.shared ≡ u.shared
  pub log_rows : t.log_rows ≡ u.log_rows
  pub log_values : t.log_values ≡ u.log_values
  pub escrow_rows : t.escrow_rows ≡ u.escrow_rows
  pub escrow_values : t.escrow_values ≡ u.escrow_values

module _ (box : Tables → Element → Result) where
  -- no call alters the heap of a place that doesn't run
  abbrev pub WritesOwnHeap : Type 0
  WritesOwnHeap = (t : Tables) (e : Element) (p : ℕ) → p < 16 → (t.box.running ≡ p → ⊥) → heap_of (box t e).tables p ≡ heap_of t p

  -- nor does it tell anything of that heap: where other places' heaps differ, a call answers the same and leaves the same
  abbrev pub ReadsOwnHeap : Type 0
  ReadsOwnHeap = (t u : Tables) (e : Element) → Sound t 1024 → Sound u 1024 → OnlyOtherHeaps t.box.running t u
      → ((box t e).answer ≡ (box u e).answer) × OnlyOtherHeaps t.box.running (box t e).tables (box u e).tables

-- ---- 5.3, of the calls of a list on a fresh box

module _ (box : Tables → Element → Result) (es : List Element) where
  -- the place that runs at this index is p
  abbrev pub RunsAt : (p k : ℕ) → Type 0
  RunsAt p k = (tables_before box es k).box.running ≡ p

  -- at this index the service in place p writes its heap, by an accepted heap write or retrieve
  pub record WritesAt (p k : ℕ) : Type 0 where
    pub call : Call
    pub used : ℕ
    pub accepts : Accepts box es k call used
    pub kind : one_of (5 ∷ 12 ∷ []) (filled call).kind ≡ true
    pub by : RunsAt p k

module _ (box : Tables → Element → Result) where
  -- start-service and yield, in one call
  pub record HandsOver : Type 0 where
    -- accepted: that place runs, or none where it is 16, and nothing else is altered
    pub runs : (t : Tables) (e : Element) (p used : ℕ) → read e.bytes ≡ whole (hand_over p) used → (box t e).answer.code ≡ 0
        → (box t e).tables ≡ with_places_in t t.box.taken p t.box.identities t.heaps
    -- a taken place is accepted, whether or not a service runs
    pub starts : (t : Tables) (e : Element) (p used : ℕ) → Sound t e.output_size → read e.bytes ≡ whole (hand_over p) used
        → p < 16 → stands t.box.taken p ≡ true → (box t e).answer.code ≡ 0
    -- and so is place 16
    pub yields : (t : Tables) (e : Element) (used : ℕ) → Sound t e.output_size → read e.bytes ≡ whole (hand_over 16) used
        → (box t e).answer.code ≡ 0
    -- to the running place, or to 16 where none runs: accepted, and nothing is altered
    pub to_itself : (t : Tables) (e : Element) (used : ℕ) → Sound t e.output_size
        → read e.bytes ≡ whole (hand_over t.box.running) used → ((box t e).answer.code ≡ 0) × ((box t e).tables ≡ t)
    -- refused: the old service still runs, as nothing is altered
    pub refused : (t : Tables) (e : Element) (p used : ℕ) → read e.bytes ≡ whole (hand_over p) used
        → ((box t e).answer.code ≡ 0 → ⊥) → (box t e).tables ≡ t

  -- yield: "Stop executing the current service, retaining its state for future start-services." Until it runs again its heap
  -- is as it was.
  abbrev pub HandOverKeeps : Type 0
  HandOverKeeps = (es : List Element) (p q k m used : ℕ) → p < 16 → k < m → Accepts box es k (hand_over q) used → RunsAt box es p k
      → ((j : ℕ) → k < j → j < m → RunsAt box es p j → ⊥)
      → heap_of (tables_before box es m) p ≡ heap_of (tables_before box es k) p

  -- exit-service: "Zero the unshared heap of the service": it is zeros until the next tenant of the place writes it
  abbrev pub ExitClears : Type 0
  ExitClears = (es : List Element) (p k m used : ℕ) → k < m → Accepts box es k exit used → RunsAt box es p k
      → ((j : ℕ) → k < j → j < m → WritesAt box es p j → ⊥) → heap_of (tables_before box es m) p ≡ cleared

  -- so no later tenant reads what the service left there
  abbrev pub TenantReadsZeros : Type 0
  TenantReadsZeros = (es : List Element) (p k m offset size used₁ used₂ : ℕ) → k < m → Accepts box es k exit used₁
      → RunsAt box es p k
      → ((j : ℕ) → k < j → j < m → WritesAt box es p j → ⊥) → Accepts box es m (heap_read p offset size) used₂
      → (answer_at box es m).shown ≡ replicate size 0
