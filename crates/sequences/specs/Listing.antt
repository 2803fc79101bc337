-- Every accepted short script (document 02, P10).
use Rattle.std.specs.Prelude.{ℕ, zero, suc, ◌+◌, Bool, false, cond, List, [], ◌∷◌, ◌++◌, map, length, get_or, take, drop, eqb, ltb}
use Rattle.std.proofs.Math.Option.{Option, none, some}
use Rattle.record.specs.Read.{Reading, refused, whole, read, from_little}
use Rattle.ideal.specs.State.{every}
use Rattle.ideal.specs.Tables.{Tables, fresh_tables, flat}
use Rattle.ideal.specs.Box.{Element, given, Result, answers_from}

-- ---- the records

-- a record in front of others, where there are these
unfoldable pub with_first : List ℕ → Option (List (List ℕ)) → Option (List (List ℕ))
with_first r none = none
with_first r (some rs) = some (r ∷ rs)

-- the records in a buffer, each after a count of 2 bytes, at most `most` of them; none where a count or a record is cut by
-- the buffer's end, or there are more
unfoldable pub records_in : (most : ℕ) → List ℕ → Option (List (List ℕ))
records_in zero [] = some []
records_in zero (b ∷ bs) = none
records_in (suc most) [] = some []
records_in (suc most) (b ∷ bs) =
    let size = from_little (take 2 (b ∷ bs)) in
    let rest = drop 2 (b ∷ bs) in
    let later = records_in most (drop size rest) in
    cond (ltb (length (b ∷ bs)) (2 + size)) none (with_first (take size rest) later)

-- a record of so many bytes gets none of 1, 2 and 3, and no bytes are left after it
unfoldable pub is_whole : (size : ℕ) → Reading → Bool
is_whole size (refused code number) = false
is_whole size (whole c used) = eqb used size

unfoldable pub only_whole : Option (List (List ℕ)) → Option (List (List ℕ))
only_whole none = none
only_whole (some rs) = cond (every (λ r. is_whole (length r) (read r)) rs) (some rs) none

-- the records that are listed from: at most 6, each of them whole; none with 27
unfoldable pub records_listed : List ℕ → Option (List (List ℕ))
records_listed buffer = only_whole (records_in 6 buffer)

-- ---- the sequences

-- f 0, f 1, and so on, joined, m in all
unfoldable pub joined_to : (m : ℕ) → (ℕ → List (List ℕ)) → List (List ℕ)
joined_to zero f = []
joined_to (suc m) f = f 0 ++ joined_to m (λ i. f (suc i))

-- all sequences of n indexes below m, in dictionary order
unfoldable pub sequences : (m n : ℕ) → List (List ℕ)
sequences m zero = [] ∷ []
sequences m (suc n) = joined_to m (λ i. map (λ s. i ∷ s) (sequences m n))

-- the calls of a sequence of these records' indexes, each with an output buffer of its size
unfoldable pub calls_of : List (List ℕ) → List ℕ → List Element
calls_of rs s = map (λ i. given (get_or rs i []) 1024) s

module _ (box : Tables → Element → Result) (rs : List (List ℕ)) where
  -- a fresh box accepts its script in every call
  unfoldable pub accepts : List ℕ → Bool
  accepts s = every (λ a. eqb a.code 0) (answers_from box fresh_tables (calls_of rs s))

  unfoldable pub accepted_of : List (List ℕ) → List (List ℕ)
  accepted_of [] = []
  accepted_of (s ∷ ss) = let later = accepted_of ss in cond (accepts s) (s ∷ later) later

  -- those of n indexes that are accepted, in dictionary order
  unfoldable pub listed : (n : ℕ) → List (List ℕ)
  listed n = accepted_of (sequences (length rs) n)

-- ---- the answer

-- code, how many, and what the lent buffer then holds
pub record ListResult : Type 0 where
  pub code : ℕ
  pub number : ℕ
  pub list : List ℕ

unfoldable pub not_listed : ℕ → List ℕ → ListResult
not_listed code list = record { code = code; number = 0; list = list }

-- 29: the list exceeds the buffer; else it stands at its front, bytes beyond it unaltered
unfoldable pub placed_list : List (List ℕ) → List ℕ → ListResult
placed_list ss list =
    let bs = flat ss in
    cond (ltb (length list) (length bs)) (not_listed 29 list)
    (record { code = 0; number = length ss; list = bs ++ drop (length bs) list })

-- 27; then 28: n above 4; then 29
unfoldable pub list_from : (Tables → Element → Result) → Option (List (List ℕ)) → (n : ℕ) → List ℕ → ListResult
list_from box none n list = not_listed 27 list
list_from box (some rs) n list = cond (ltb 4 n) (not_listed 28 list) (placed_list (listed box rs n) list)

unfoldable pub list_on : (Tables → Element → Result) → (records : List ℕ) (n : ℕ) (list : List ℕ) → ListResult
list_on box records n list = list_from box (records_listed records) n list
