-- What is demanded of a box for level-one papers (document 02, P5): it is the full box, but for three refusals at their places;
-- and the three demands, where accuracy yields to these refusals. That fixes the box.
use Rattle.std.specs.Prelude.{ℕ, ◌+◌, ◌≤◌, ◌<◌, ◌≡◌, ◌↔◌, Bool, true, false, List, [], ◌∷◌, map, get_or}
use Rattle.fnv.specs.declared.Tag.{Tag}
use Rattle.record.specs.declared.Handle.{Handle}
use Rattle.record.specs.declared.Draw.{Draw}
use Rattle.record.specs.Call.{Link, Call, create, attest, protect, retrieve, hand_over, chain, release}
use Rattle.record.specs.Read.{whole, read}
use Rattle.record.specs.Write.{filled}
use Rattle.ideal.specs.Tables.{Tables, log_table}
use Rattle.ideal.specs.State.{part}
use Rattle.ideal.specs.Layouts.{Sound, StaysSound}
use Rattle.ideal.specs.Box.{Element, Result, call_on, element_at, tables_after, tables_before, answer_at}
use Rattle.ideal.specs.Refusals.{caller_in, own_bytes, one_of, EachNumberBy, RefusalsAlterNothing}
use Rattle.ideal.specs.History.{HistoryHolds, Reports}
use Rattle.ideal.specs.Accuracy.{Earlier, LogsAt, Sized, Runs, HandsOutWhen, CheckIsAccurate, HandleOnce}
use Rattle.ideal.specs.Secrecy.{Exemption, SecrecyBut, Secrecy}
use Rattle.ideal.specs.Witness.{element, calls_without, Differing}
use Rattle.ideal.specs.Demands.{Demand1By, EachCallBy}
use Rattle.ideal.specs.LevelOne.{level_one_on, level_one_conditions}

-- every answer is compared
abbrev pub none_exempt : Exemption
none_exempt G t e = false

-- one of the three refusals
unfoldable pub barring : ℕ → Bool
barring code = one_of (21 ∷ 22 ∷ 23 ∷ []) code

-- ---- the three numbers a third time, each by itself

-- 21: protect, retrieve, chain, release
pub data UsesEscrow : Call → Type 0 where
  in_protect : {i o n : ℕ} {d : Draw} → UsesEscrow (protect i o n d)
  in_retrieve : {i o : ℕ} {h : Handle} → UsesEscrow (retrieve i o h)
  in_chain : {first : Link} {v : List ℕ} → UsesEscrow (chain first v)
  in_release : {i : ℕ} {h : Handle} → UsesEscrow (release i h)

-- 22: a place of 4 to 15; beyond it is 6, or hand over's 16
pub data HighPlace : Call → Type 0 where
  in_create : {p i : ℕ} → 3 < p → p < 16 → HighPlace (create p i)
  in_hand_over : {p : ℕ} → 3 < p → p < 16 → HighPlace (hand_over p)

-- a used log row of this identity with another value
pub record OtherRow (t : Tables) (i : ℕ) (v : List ℕ) : Type 0 where
  pub index : ℕ
  pub used : index < t.box.log.rows
  pub identity : (get_or t.log_rows index log_table.blank).identity ≡ i
  pub other : let r = get_or t.log_rows index log_table.blank in part t.log_values r.first r.length ≡ v → ⊥

-- 23: an attest while a program runs, of a part within its heap
pub data LogsAnother (t : Tables) : Call → Type 0 where
  in_attest : {o n : ℕ} → (t.box.running ≡ 16 → ⊥) → o + n ≤ 256 → OtherRow t (caller_in t) (own_bytes t o n)
      → LogsAnother t (attest o n)

-- places above 3 are empty and do not run, and no row of the escrow is used
pub record LowPlaces (t : Tables) : Type 0 where
  pub empty : (p : ℕ) → 3 < p → p < 16 → get_or t.box.identities p 0 ≡ 0
  pub running : 3 < t.box.running → t.box.running ≡ 16
  pub escrow : t.box.escrow.rows ≡ 0

module _ (box : Tables → Element → Result) where
  -- a call that gets none of the three: answer and tables are the full box's
  pub record AsInFull (t : Tables) (e : Element) : Type 0 where
    pub answer : (box t e).answer ≡ (call_on t e).answer
    pub tables : (box t e).tables ≡ (call_on t e).tables

  -- whatever its kind, and whatever the tables
  abbrev pub ElseFull : Type 0
  ElseFull = (t : Tables) (e : Element) → barring (box t e).answer.code ≡ false → AsInFull t e

  -- of a call that is read, on any sound box, hand-made ones included
  pub record NumbersOf (t : Tables) (e : Element) (c : Call) : Type 0 where
    pub no_escrow : ((box t e).answer.code ≡ 21) ↔ UsesEscrow c
    pub high_place : ((box t e).answer.code ≡ 22) ↔ HighPlace c
    pub other_value : ((box t e).answer.code ≡ 23) ↔ LogsAnother t c

  abbrev pub ThreeNumbers : Type 0
  ThreeNumbers = (t : Tables) (e : Element) (c : Call) (used : ℕ) → Sound t e.output_size → read e.bytes ≡ whole c used
      → NumbersOf t e c

  -- ---- what becomes of accuracy

  -- kinds 11, 12, 15 and 16 get 21, whatever was protected or logged
  abbrev pub EscrowIsBarred : Type 0
  EscrowIsBarred = (es : List Element) (k : ℕ) (c : Call) (used : ℕ) → read (element_at es k).bytes ≡ whole c used
      → one_of (11 ∷ 12 ∷ 15 ∷ 16 ∷ []) (filled c).kind ≡ true → ((answer_at box es k).code ≡ 21) ↔ Sized box es k

  -- a retrieve hands out what it would, word for word: nothing, since nothing is ever protected. 10 and 11 yield to 21
  abbrev pub RetrieveHandsOut : Type 0
  RetrieveHandsOut = (es : List Element) (k source offset : ℕ) (handle : Handle) (used : ℕ)
      → read (element_at es k).bytes ≡ whole (retrieve source offset handle) used → HandsOutWhen box es k source offset handle

  -- the program i logged another value than v before k
  pub record OtherBefore (es : List Element) (k i : ℕ) (v : List ℕ) : Type 0 where
    pub value : List ℕ
    pub tag : Tag
    pub logged : Earlier (LogsAt box es i value tag) k
    pub other : value ≡ v → ⊥

  -- an attest gets 23 exactly when a program runs, the part is within its heap, and it has logged another value
  abbrev pub AttestYields : Type 0
  AttestYields = (es : List Element) (k offset size used : ℕ) → read (element_at es k).bytes ≡ whole (attest offset size) used
      → ((answer_at box es k).code ≡ 23)
      ↔ (
      Sized box es k × Runs box es k × (offset + size ≤ 256)
      × OtherBefore es k (caller_in (tables_before box es k)) (own_bytes (tables_before box es k) offset size)
      )

  -- each identity logs one value
  abbrev pub OneValueEach : Type 0
  OneValueEach = (es : List Element) (i j k : ℕ) (v w : List ℕ) (g h : Tag) → LogsAt box es i v g j → LogsAt box es i w h k → v ≡ w

  -- ---- the demands

  -- demand 2, over runs of this box from a fresh box; what demand 2 says of any box, of any
  pub record LevelOneAccuracy : Type 0 where
    -- of one call, by the level-one table
    pub call : EachCallBy level_one_conditions box
    -- word for word
    pub checks : CheckIsAccurate box
    pub handles_once : HandleOnce box
    pub holds : HistoryHolds box
    pub reports : Reports box
    -- yielding to 21
    pub barred : EscrowIsBarred
    pub retrieves : RetrieveHandsOut
    -- yielding to 23
    pub attests : AttestYields
    pub one_value_each : OneValueEach
    -- what the profile is for
    pub low : (es : List Element) → LowPlaces (tables_after box es)

  pub record LevelOneDemands : Type 0 where
    pub else_full : ElseFull
    pub three_numbers : ThreeNumbers
    pub stays_sound : StaysSound box
    pub one : Demand1By level_one_conditions box
    pub two : LevelOneAccuracy
    -- demand 3, where no answer is exempt, so that its very statement holds too
    pub three : SecrecyBut none_exempt box
    pub secrecy : Secrecy box

-- demand 3's premises can be met without escrow; the byte is the second of place 0
abbrev pub MetWithoutEscrow : (Tables → Element → Result) → Type 0
MetWithoutEscrow box = Differing box (map element (calls_without 66)) (map element (calls_without 67)) 1

-- no other box has these: on any tables, sound or not
pub record LevelOneFixed : Type 0 where
  pub by_demands : (box : Tables → Element → Result) → Demand1By level_one_conditions box → EachCallBy level_one_conditions box
      → (t : Tables) (e : Element) → box t e ≡ level_one_on t e
  pub by_full : (box : Tables → Element → Result) → ElseFull box → EachNumberBy box level_one_conditions → RefusalsAlterNothing box
      → (t : Tables) (e : Element) → box t e ≡ level_one_on t e
