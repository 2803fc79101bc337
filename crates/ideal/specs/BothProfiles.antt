-- One box, both profiles (document 02, P5): a host may give a box calls of the full profile and of level one in any order, and
-- an element has its call's profile. What is demanded of that box, and that no other box meets it.
use Rattle.std.specs.Prelude.{ℕ, ◌+◌, ◌≤◌, ◌<◌, ◌≡◌, ◌↔◌, Bool, true, false, ◌&&◌, List, [], ◌∷◌, length}
use Rattle.record.specs.declared.Handle.{Handle}
use Rattle.record.specs.Call.{Link, Call, attest, retrieve, chain, release}
use Rattle.record.specs.Read.{whole, read}
use Rattle.record.specs.Write.{filled}
use Rattle.ideal.specs.declared.Profile.{Profile}
use Rattle.ideal.specs.declared.Profile.TheVariants.{Full, LevelOne}
use Rattle.ideal.specs.Tables.{Tables}
use Rattle.ideal.specs.Box.{Element, Result, call_on, element_at, tables_from, answers_from, tables_before, answer_at}
use Rattle.ideal.specs.Layouts.{Sound, StaysSound}
use Rattle.ideal.specs.Refusals.{caller_in, own_bytes, one_of, call_conditions, conditions_by}
use Rattle.ideal.specs.History.{HistoryHolds, Reports}
use Rattle.ideal.specs.Accuracy.{Sized, Runs, RetrieveAt, ReleaseAt, ChainAt, CheckIsAccurate, HandleOnce}
use Rattle.ideal.specs.Secrecy.{Exemption, own_chain, SecrecyBut, Secrecy}
use Rattle.ideal.specs.Demands.{Demand1By, EachCallBy}
use Rattle.ideal.specs.LevelOne.{level_one_on, box_of, level_one_rows}
use Rattle.ideal.specs.LevelOneDemands.{ElseFull, NumbersOf, OtherBefore}

-- each call in its profile
abbrev pub both_on : Tables → Element → Result
both_on t e = box_of e.profile t e

-- by the table of its profile
abbrev pub rows_in : Profile → Tables → Call → List (ℕ × Bool)
rows_in Full = call_conditions
rows_in LevelOne = level_one_rows

abbrev pub both_conditions : Tables → Element → List (ℕ × Bool)
both_conditions t e = conditions_by (rows_in e.profile) t e

abbrev pub is_full : Profile → Bool
is_full Full = true
is_full LevelOne = false

-- none but the answers to group programs' own chain calls of the full profile
unfoldable pub own_full_chain : Exemption
own_full_chain G t e = is_full e.profile && own_chain G t e

-- the call at an index is read whole, in this profile
abbrev pub ReadIn : Profile → List Element → ℕ → Call → ℕ → Type 0
ReadIn p es k c used = ((element_at es k).profile ≡ p) × (read (element_at es k).bytes ≡ whole c used)

module _ (box : Tables → Element → Result) where
  -- demand 2, over lists in which calls of both profiles stand
  pub record BothAccuracy : Type 0 where
    -- of one call, by the tables of both
    pub call : EachCallBy both_conditions box
    -- word for word
    pub checks : CheckIsAccurate box
    pub handles_once : HandleOnce box
    pub holds : HistoryHolds box
    pub reports : Reports box
    -- a call of the full profile says what it says on a full box, whatever level-one calls came before it
    pub retrieves : (es : List Element) (k source offset : ℕ) (handle : Handle) (used : ℕ)
        → ReadIn Full es k (retrieve source offset handle) used → RetrieveAt box es k source offset handle
    pub releases : (es : List Element) (k source : ℕ) (handle : Handle) (used : ℕ)
        → ReadIn Full es k (release source handle) used → ReleaseAt box es k source handle
    pub chains : (es : List Element) (k : ℕ) (first : Link) (v : List ℕ) (used : ℕ)
        → ReadIn Full es k (chain first v) used → ChainAt box es k first v
    -- one of level one yields to 21, whatever was protected or logged before it, and to 23
    pub barred : (es : List Element) (k : ℕ) (c : Call) (used : ℕ) → ReadIn LevelOne es k c used
        → one_of (11 ∷ 12 ∷ 15 ∷ 16 ∷ []) (filled c).kind ≡ true → ((answer_at box es k).code ≡ 21) ↔ Sized box es k
    pub attests : (es : List Element) (k offset size used : ℕ) → ReadIn LevelOne es k (attest offset size) used
        → ((answer_at box es k).code ≡ 23)
        ↔ (
        Sized box es k × Runs box es k × (offset + size ≤ 256)
        × OtherBefore box es k (caller_in (tables_before box es k)) (own_bytes (tables_before box es k) offset size)
        )

  pub record BothDemands : Type 0 where
    pub else_full : ElseFull box
    pub three_numbers : (t : Tables) (e : Element) (c : Call) (used : ℕ) → e.profile ≡ LevelOne → Sound t e.output_size
        → read e.bytes ≡ whole c used → NumbersOf box t e c
    pub stays_sound : StaysSound box
    pub one : Demand1By both_conditions box
    pub two : BothAccuracy
    -- demand 3, where no more is exempt than in its very statement, so that this holds too
    pub three : SecrecyBut own_full_chain box
    pub secrecy : Secrecy box

-- no other box has these: on any tables, sound or not
abbrev pub BothFixed : Type 0
BothFixed = (box : Tables → Element → Result) → Demand1By both_conditions box → EachCallBy both_conditions box
    → (t : Tables) (e : Element) → box t e ≡ both_on t e

-- which box each profile is; neither looks at an element's profile
pub record ProfilesAre : Type 0 where
  pub full : box_of Full ≡ call_on
  pub level_one : box_of LevelOne ≡ level_one_on
  pub blind : (p q r : Profile) (t : Tables) (bytes : List ℕ) (size : ℕ)
      → box_of p t (record { bytes = bytes; output_size = size; profile = q }) ≡ box_of p t (record { bytes = bytes; output_size = size; profile = r })

-- where every call of a list is of one profile, its run from any tables is that profile's box's
pub record RunsIn (p : Profile) (t : Tables) (es : List Element) : Type 0 where
  pub tables : tables_from both_on t es ≡ tables_from (box_of p) t es
  pub answers : answers_from both_on t es ≡ answers_from (box_of p) t es

abbrev pub OneProfile : Type 0
OneProfile = (p : Profile) (t : Tables) (es : List Element) → ((k : ℕ) → k < length es → (element_at es k).profile ≡ p) → RunsIn p t es
