-- What is proved of the list: the same a second time, without a loop, a filter or a parser. The proofs are in
-- proofs/Ordered.antt, proofs/Numbers.antt and proofs/InScript.antt.
use Rattle.std.specs.Prelude.{ℕ, ◌+◌, ◌*◌, ◌≤◌, ◌<◌, ◌≡◌, ◌↔◌, List, [], ◌∷◌, ◌++◌, map, length, get_or}
use Rattle.record.specs.Call.{Call}
use Rattle.record.specs.Read.{whole, read, from_little}
use Rattle.ideal.specs.Tables.{Tables, fresh_tables, flat}
use Rattle.ideal.specs.Box.{Element, Result, call_on, answers_from}
use Rattle.sheet.specs.Records.{records_of}
use Rattle.sequences.specs.Listing.{calls_of, listed, ListResult, list_on}

-- ---- which sequences, in which order

-- one sequence comes before another in dictionary order
pub data Before : List ℕ → List ℕ → Type 0 where
  lower : {i j : ℕ} {s r : List ℕ} → i < j → Before (i ∷ s) (j ∷ r)
  later : {i : ℕ} {s r : List ℕ} → Before s r → Before (i ∷ s) (i ∷ r)

-- this is at an index of a list
pub record Among (s : List ℕ) (ss : List (List ℕ)) : Type 0 where
  pub index : ℕ
  pub within : index < length ss
  pub is : get_or ss index [] ≡ s

module _ (box : Tables → Element → Result) (rs : List (List ℕ)) (n : ℕ) where
  -- n indexes of these records, and a fresh box accepts every call of their script
  pub record Accepted (s : List ℕ) : Type 0 where
    pub count : length s ≡ n
    pub indexes : (k : ℕ) → k < n → get_or s k 0 < length rs
    pub codes : (k : ℕ) → k < n → get_or (map (λ a. a.code) (answers_from box fresh_tables (calls_of rs s))) k 1 ≡ 0

  pub record ListsAccepted : Type 0 where
    -- every such sequence, and no other
    pub exactly : (s : List ℕ) → Among s (listed box rs n) ↔ Accepted s
    -- in dictionary order, so each once
    pub order : (j k : ℕ) → j < k → k < length (listed box rs n)
        → Before (get_or (listed box rs n) j []) (get_or (listed box rs n) k [])

abbrev pub ListsEvery : (Tables → Element → Result) → Type 0
ListsEvery box = (rs : List (List ℕ)) (n : ℕ) → ListsAccepted box rs n

-- ---- which buffers hold records

-- these records, each after its count of 2 bytes, and nothing else, are the buffer
pub data Holds : List ℕ → List (List ℕ) → Type 0 where
  nothing_left : Holds [] []
  counted : {bs : List ℕ} {rs : List (List ℕ)} (count r : List ℕ) → length count ≡ 2 → from_little count ≡ length r → Holds bs rs
      → Holds (count ++ (r ++ bs)) (r ∷ rs)

-- a record that is read whole, with no bytes left after it
pub record WholeRecord (r : List ℕ) : Type 0 where
  pub call : Call
  pub reads : read r ≡ whole call (length r)

abbrev pub WholeRecords : List (List ℕ) → Type 0
WholeRecords rs = (k : ℕ) → k < length rs → WholeRecord (get_or rs k [])

-- a buffer of at most 6 such records
pub record Listable (records : List ℕ) (rs : List (List ℕ)) : Type 0 where
  pub holds : Holds records rs
  pub few : length rs < 7
  pub wholes : WholeRecords rs

-- ---- which answer

-- the sequences stand in the buffer one after another, n bytes each, and every byte beyond them is what it was
pub record Stands (ss : List (List ℕ)) (n : ℕ) (before : List ℕ) (r : ListResult) : Type 0 where
  pub code : r.code ≡ 0
  pub number : r.number ≡ length ss
  pub size : length r.list ≡ length before
  pub index : (j k : ℕ) → j < length ss → k < n → get_or r.list (j * n + k) 0 ≡ get_or (get_or ss j []) k 0
  pub beyond : (i : ℕ) → length ss * n ≤ i → get_or r.list i 0 ≡ get_or before i 0

-- a refusal has number 0 and leaves the buffer
pub record Unlisted (before : List ℕ) (r : ListResult) : Type 0 where
  pub number : r.number ≡ 0
  pub list : r.list ≡ before

-- each number exactly when, in their order, also with n = 0
pub record ListAnswers (box : Tables → Element → Result) (records : List ℕ) (n : ℕ) (list : List ℕ) : Type 0 where
  -- 27: the buffer does not hold at most 6 records that are whole
  pub twenty_seven : ((list_on box records n list).code ≡ 27) ↔ ((rs : List (List ℕ)) → Listable records rs → ⊥)
  -- 28: it does, and n is above 4
  pub twenty_eight : (rs : List (List ℕ)) → Listable records rs → ((list_on box records n list).code ≡ 28) ↔ (4 < n)
  -- 29: n is not, and the list exceeds its buffer
  pub twenty_nine : (rs : List (List ℕ)) → Listable records rs → n ≤ 4
      → ((list_on box records n list).code ≡ 29) ↔ (length list < length (listed box rs n) * n)
  -- else the list
  pub stands : (rs : List (List ℕ)) → Listable records rs → n ≤ 4 → length (listed box rs n) * n ≤ length list
      → Stands (listed box rs n) n list (list_on box records n list)
  pub refused : ((list_on box records n list).code ≡ 0 → ⊥) → Unlisted list (list_on box records n list)

abbrev pub AnswersLists : (Tables → Element → Result) → Type 0
AnswersLists box = (records : List ℕ) (n : ℕ) (list : List ℕ) → ListAnswers box records n list

-- ---- a sequence is a script

-- a record that is read whole is read alike with more behind it
abbrev pub ReadsInScript : Type 0
ReadsInScript = (r more : List ℕ) (c : Call) (used : ℕ) → read r ≡ whole c used → read (r ++ more) ≡ whole c used

-- the records of a sequence one after another
unfoldable pub script_of : List (List ℕ) → List ℕ → List ℕ
script_of rs s = flat (map (λ i. get_or rs i []) s)

-- so the calls of a sequence have the answers of its script, whose records the sheet's own definition parts
abbrev pub SequenceIsScript : Type 0
SequenceIsScript = (rs : List (List ℕ)) (s : List ℕ) → WholeRecords rs → ((k : ℕ) → k < length s → get_or s k 0 < length rs)
    → answers_from call_on fresh_tables (calls_of rs s) ≡ answers_from call_on fresh_tables (records_of 1024 (script_of rs s))
