-- The level-one paper (document 02, P5): places 0 to 3, no escrow, one value logged by each identity. It is the full box with
-- three tests put in; and its numbers a second time, on the host's tables.
use Rattle.std.specs.Prelude.{ℕ, Bool, true, not, ◌&&◌, ◌||◌, cond, List, [], ◌∷◌, eqb, ltb}
use Rattle.record.specs.Call.{Call, create, exit, heap_write, heap_read, shared_write, shared_read, attest, check, protect, retrieve, report, hand_over, chain, release}
use Rattle.record.specs.Write.{filled}
use Rattle.ideal.specs.declared.LogRow.{LogRow}
use Rattle.ideal.specs.declared.Profile.{Profile}
use Rattle.ideal.specs.declared.Profile.TheVariants.{Full, LevelOne}
use Rattle.ideal.specs.State.{Logged, State, caller, part, own_part, any, same_bytes}
use Rattle.ideal.specs.Step.{Tests, accept, ◌then◌, first_holding, tests, refusal}
use Rattle.ideal.specs.Tables.{Tables, used_log}
use Rattle.ideal.specs.Box.{Element, Result, box_by}
use Rattle.ideal.specs.Refusals.{caller_in, own_bytes, one_of, call_conditions, conditions_by}

-- ---- the definition

-- a test put in directly after the one with this number
unfoldable pub put_after : ℕ → ℕ × Bool → Tests → Tests
put_after n t accept = accept
put_after n t (u then us) =
    let later = put_after n t us in
    u then cond (eqb u.0 n) (t then us) later

-- a row of this identity with another value
unfoldable pub is_other : ℕ → List ℕ → Logged → Bool
is_other i v r = eqb r.key.identity i && not (same_bytes r.value v)

-- the caller has a row with another value than this part of its heap
unfoldable pub logged_other : State → (offset size : ℕ) → Bool
logged_other s o n = any (is_other (caller s) (own_part s o n)) s.log

-- 21 before all others; 22 directly after 6; 23 directly after 11
unfoldable pub level_one_tests : State → Call → Tests
level_one_tests s (create p i) = put_after 6 (22, ltb 3 p) (tests s (create p i))
level_one_tests s exit = tests s exit
level_one_tests s (heap_write p o v) = tests s (heap_write p o v)
level_one_tests s (heap_read p o n) = tests s (heap_read p o n)
level_one_tests s (shared_write o v) = tests s (shared_write o v)
level_one_tests s (shared_read o n) = tests s (shared_read o n)
level_one_tests s (attest o n) = put_after 11 (23, logged_other s o n) (tests s (attest o n))
level_one_tests s (check i g v) = tests s (check i g v)
level_one_tests s (protect i o n d) = (21, true) then tests s (protect i o n d)
level_one_tests s (retrieve i o h) = (21, true) then tests s (retrieve i o h)
level_one_tests s report = tests s report
level_one_tests s (hand_over p) = put_after 6 (22, ltb 3 p && not (eqb p 16)) (tests s (hand_over p))
level_one_tests s (chain first v) = (21, true) then tests s (chain first v)
level_one_tests s (release i h) = (21, true) then tests s (release i h)

unfoldable pub level_one_refusal : State → Call → ℕ
level_one_refusal s c = first_holding (level_one_tests s c)

-- the level-one box
abbrev pub level_one_on : Tables → Element → Result
level_one_on = box_by level_one_refusal

-- ---- the profiles of the box

abbrev pub refusal_in : Profile → State → Call → ℕ
refusal_in Full = refusal
refusal_in LevelOne = level_one_refusal

abbrev pub box_of : Profile → Tables → Element → Result
box_of p = box_by (refusal_in p)

-- ---- its numbers a second time

-- a row put into a table directly after the one with this number
unfoldable pub row_after : ℕ → ℕ × Bool → List (ℕ × Bool) → List (ℕ × Bool)
row_after n r [] = []
row_after n r (c ∷ cs) =
    let later = row_after n r cs in
    c ∷ cond (eqb c.0 n) (r ∷ cs) later

-- a log row of this identity with another value
unfoldable pub holds_other : List ℕ → ℕ → List ℕ → LogRow → Bool
holds_other values i v r = eqb r.identity i && not (same_bytes (part values r.first r.length) v)

-- the table of the full box, with three rows put in
unfoldable pub level_one_rows : Tables → Call → List (ℕ × Bool)
level_one_rows t c =
    let kind = (filled c).kind in
    let f = (filled c).fields in
    let other = any (holds_other t.log_values (caller_in t) (own_bytes t f.offset f.length)) (used_log t) in
    (21, one_of (11 ∷ 12 ∷ 15 ∷ 16 ∷ []) kind)
    ∷ row_after 6 (22, (eqb kind 1 && ltb 3 f.place) || (eqb kind 14 && (ltb 3 f.place && not (eqb f.place 16))))
    (row_after 11 (23, eqb kind 9 && other) (call_conditions t c))

abbrev pub level_one_conditions : Tables → Element → List (ℕ × Bool)
level_one_conditions = conditions_by level_one_rows
