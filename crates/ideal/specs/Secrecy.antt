-- Demand 3, as document 01's "Two runs compared" writes it: one claim about two whole lists. Code and number of a group
-- program's own chain calls are not compared (document 02, P3); their bytes used are.
use Rattle.std.specs.Prelude.{ℕ, ◌+◌, ◌≤◌, ◌<◌, ◌≡◌, Bool, true, false, not, ◌&&◌, List, length, get_or, eqb}
use Rattle.record.specs.declared.Draw.{Draw}
use Rattle.record.specs.Call.{heap_write, attest, protect}
use Rattle.record.specs.Read.{Reading, refused, whole, read}
use Rattle.record.specs.Write.{filled}
use Rattle.ideal.specs.declared.EscrowRow.{EscrowRow}
use Rattle.ideal.specs.State.{part}
use Rattle.ideal.specs.Step.{Answer}
use Rattle.ideal.specs.Tables.{Tables, heap_start, escrow_table}
use Rattle.ideal.specs.Box.{Element, Result, element_at, tables_after, tables_before, answer_at}
use Rattle.ideal.specs.Refusals.{caller_in, own_bytes}

-- group: a set of identities; 0, which an empty place has, is never in it
unfoldable pub inside : (ℕ → Bool) → ℕ → Bool
inside G i = not (eqb i 0) && G i

-- a group program runs: the running place has an identity in the group
unfoldable pub group_runs : (ℕ → Bool) → Tables → Bool
group_runs G t = inside G (caller_in t)

-- an escrow row from one group program to another
unfoldable pub group_to_group : (ℕ → Bool) → EscrowRow → Bool
group_to_group G r = inside G r.source && inside G r.recipient

-- two whole heap writes with bytes fields of equal count, the same but for the contents of that field
pub record HeapWrites (e f : Element) : Type 0 where
  pub place : ℕ
  pub offset : ℕ
  pub used : ℕ
  pub bytes₁ : List ℕ
  pub bytes₂ : List ℕ
  pub count : length bytes₁ ≡ length bytes₂
  pub reads₁ : read e.bytes ≡ whole (heap_write place offset bytes₁) used
  pub reads₂ : read f.bytes ≡ whole (heap_write place offset bytes₂) used
  pub output_size : e.output_size ≡ f.output_size
  pub profile : e.profile ≡ f.profile

-- alike, where the first run's tables just before are t
pub data AlikeAt (G : ℕ → Bool) (t : Tables) (e f : Element) : Type 0 where
  same : e ≡ f → AlikeAt G t e f
  other_bytes : group_runs G t ≡ true → HeapWrites e f → AlikeAt G t e f

-- two answers at one index; code and number of exempt ones are not compared, nor the bytes that hidden ones show
pub record EqualAt (exempt hidden : Bool) (a b : Answer) : Type 0 where
  pub code : exempt ≡ false → a.code ≡ b.code
  pub number : exempt ≡ false → a.number ≡ b.number
  pub used : a.used ≡ b.used
  pub shown : hidden ≡ false → a.shown ≡ b.shown

-- what is equal in two boxes after the lists
pub record AgreeOutside (G : ℕ → Bool) (t u : Tables) : Type 0 where
  pub box : t.box ≡ u.box
  pub shared : t.shared ≡ u.shared
  pub log_rows : t.log_rows ≡ u.log_rows
  pub log_values : t.log_values ≡ u.log_values
  pub escrow_rows : t.escrow_rows ≡ u.escrow_rows
  -- the heap of each place whose identity isn't in the group, empty places included
  pub heaps : (p : ℕ) → p < 16 → inside G (get_or t.box.identities p 0) ≡ false
      → part t.heaps (heap_start p) 256 ≡ part u.heaps (heap_start p) 256
  -- only values from one group program to another may differ
  pub escrow_values : (k : ℕ) → k < t.box.escrow.rows
      → let r = get_or t.escrow_rows k escrow_table.blank in group_to_group G r ≡ false
      → part t.escrow_values r.first r.length ≡ part u.escrow_values r.first r.length

-- the premise at one call, where the runs' tables just before are t and u: what a group program makes known by an
-- attest, whatever the answer, or by an accepted protect for an outsider is the same in both runs
pub record PremiseAt (box : Tables → Element → Result) (G : ℕ → Bool) (t u : Tables) (e : Element) : Type 0 where
  pub attests : group_runs G t ≡ true → (offset size used : ℕ) → read e.bytes ≡ whole (attest offset size) used
      → offset + size ≤ 256 → own_bytes t offset size ≡ own_bytes u offset size
  pub protects : group_runs G t ≡ true → (i offset size : ℕ) (draw : Draw) (used : ℕ)
      → read e.bytes ≡ whole (protect i offset size draw) used → inside G i ≡ false → (box t e).answer.code ≡ 0
      → own_bytes t offset size ≡ own_bytes u offset size

-- which answers are exempt: of a group, the first run's tables just before the call, and its element
abbrev pub Exemption : Type 0
Exemption = (ℕ → Bool) → Tables → Element → Bool

unfoldable pub is_chain : Reading → Bool
is_chain (refused code number) = false
is_chain (whole c used) = eqb (filled c).kind 15

-- a group program's own chain calls
unfoldable pub own_chain : Exemption
own_chain G t e = group_runs G t && is_chain (read e.bytes)

module _ (box : Tables → Element → Result) (G : ℕ → Bool) (es fs : List Element) where
  pub record AlikeLists : Type 0 where
    pub long : length es ≡ length fs
    pub alike : (k : ℕ) → k < length es → AlikeAt G (tables_before box es k) (element_at es k) (element_at fs k)

  abbrev pub Premise : Type 0
  Premise = (k : ℕ) → k < length es
      → PremiseAt box G (tables_before box es k) (tables_before box fs k) (element_at es k)

  pub record EqualOutside (exempt : Exemption) : Type 0 where
    pub answers : (k : ℕ) → k < length es
        → let t = tables_before box es k in
        EqualAt (exempt G t (element_at es k)) (group_runs G t) (answer_at box es k) (answer_at box fs k)
    pub end : AgreeOutside G (tables_after box es) (tables_after box fs)

-- two runs of alike lists are equal outside the group, but for the answers that are exempt
abbrev pub SecrecyBut : Exemption → (Tables → Element → Result) → Type 0
SecrecyBut exempt box = (G : ℕ → Bool) (es fs : List Element) → AlikeLists box G es fs → Premise box G es fs
    → EqualOutside box G es fs exempt

-- demand 3: none but the answers to group programs' own chain calls are exempt
abbrev pub Secrecy : (Tables → Element → Result) → Type 0
Secrecy = SecrecyBut own_chain
