-- The premises of demand 3 can be met by two lists that differ: a secret byte is written, escrowed from one group program
-- to another, retrieved and released, while the sender also attests and escrows for an outsider. And the exemption of a
-- group program's own chain calls is needed: their code and their number may tell a byte of what it is given.
use Rattle.std.specs.Prelude.{ℕ, ◌+◌, ◌*◌, ◌^◌, ◌<◌, ◌≡◌, Bool, true, ◌||◌, List, [], ◌∷◌, ◌++◌, map, length, get_or, eqb}
use Rattle.fnv.specs.Fnv.{little}
use Rattle.record.specs.Call.{escrowed_link, Call, create, heap_write, heap_read, attest, protect, retrieve, report, hand_over, chain, release}
use Rattle.record.specs.Write.{write}
use Rattle.ideal.specs.Tables.{Tables}
use Rattle.ideal.specs.Step.{handle_of, next, Answer}
use Rattle.ideal.specs.Box.{Element, given, Result, element_at, tables_after, tables_before, answer_at}
use Rattle.ideal.specs.Secrecy.{AlikeLists, Premise, own_chain}

-- programs 1 and 2
unfoldable pub group : ℕ → Bool
group i = eqb i 1 || eqb i 2

-- the calls where the secret byte is b
unfoldable pub calls : ℕ → List Call
calls b =
    create 0 1 ∷ create 1 2 ∷ create 2 3
    -- 1 makes a byte known, to all and to the outsider 3
    ∷ hand_over 0
    ∷ heap_write 0 0 (65 ∷ [])
    ∷ attest 0 1
    ∷ protect 3 0 1 (record { 0 = 7 })
    -- 1 escrows the secret for 2
    ∷ heap_write 0 1 (b ∷ [])
    ∷ protect 2 1 1 (record { 0 = 7 })
    -- 2 retrieves it, by the handle of the draw after 7, and reads it
    ∷ hand_over 1
    ∷ retrieve 1 0 (handle_of 1 (next 7))
    ∷ heap_read 1 0 1
    -- 3 retrieves what 1 escrowed for it
    ∷ hand_over 2
    ∷ retrieve 1 0 (record { 0 = 2 ^ 48 + 7 })
    ∷ heap_read 2 0 1
    -- 3 releases that, so that the secret's byte moves down; then 2 releases the secret
    ∷ release 1 (record { 0 = 2 ^ 48 + 7 })
    ∷ hand_over 1
    ∷ release 1 (handle_of 1 (next 7))
    ∷ report
    ∷ []

unfoldable pub element : Call → Element
element c = given (write c) 1024

unfoldable pub elements : ℕ → List Element
elements b = map element (calls b)

-- two lists that differ in a byte, which stands in the heaps after them
pub record Differing (box : Tables → Element → Result) (es fs : List Element) (at : ℕ) : Type 0 where
  pub alike : AlikeLists box group es fs
  pub premise : Premise box group es fs
  pub accepted₁ : (k : ℕ) → k < length es → (answer_at box es k).code ≡ 0
  pub accepted₂ : (k : ℕ) → k < length fs → (answer_at box fs k).code ≡ 0
  pub secret₁ : get_or (tables_after box es).heaps at 0 ≡ 66
  pub secret₂ : get_or (tables_after box fs).heaps at 0 ≡ 67

-- the first byte of place 1, the recipient's
abbrev pub PremisesCanBeMet : (Tables → Element → Result) → Type 0
PremisesCanBeMet box = Differing box (elements 66) (elements 67) 256

-- with no escrow, as on a level-one box: 1 makes a byte known and keeps another, which it reads
unfoldable pub calls_without : ℕ → List Call
calls_without b =
    create 0 1 ∷ create 1 3
    ∷ hand_over 0
    ∷ heap_write 0 0 (65 ∷ [])
    ∷ attest 0 1
    ∷ heap_write 0 1 (b ∷ [])
    ∷ heap_read 0 1 1
    ∷ hand_over 1
    ∷ heap_read 1 0 1
    ∷ report
    ∷ []

-- ---- a group program's own chain

-- 1 escrows for 2 a value that ends a chain, and one that leads to it, but for its first byte, which is the secret b; 2 follows
-- the second
unfoldable pub before : ℕ → List Call
before b =
    create 0 1 ∷ create 1 2
    ∷ hand_over 0
    ∷ heap_write 0 0 (1 ∷ [])
    ∷ protect 2 0 1 (record { 0 = 7 })
    ∷ heap_write 0 0 (b ∷ (little 8 1 ++ little 8 (2 ^ 48 + 7)))
    ∷ protect 2 0 17 (record { 0 = 7 })
    ∷ hand_over 1
    ∷ []

unfoldable pub chained : ℕ → List Element
chained b = map element (before b) ++ (element (chain (escrowed_link 1 (record { 0 = 17 * 2 ^ 48 + 7 })) []) ∷ [])

unfoldable pub links : (code number : ℕ) → Answer
links code number = record { code = code; number = number; used = 21; shown = [] }

-- alike, with the premise, and the answers to the chain of a group program are these
pub record Tells (box : Tables → Element → Result) (es fs : List Element) (a b : Answer) : Type 0 where
  pub alike : AlikeLists box group es fs
  pub premise : Premise box group es fs
  pub own : own_chain group (tables_before box es 8) (element_at es 8) ≡ true
  pub first : answer_at box es 8 ≡ a
  pub second : answer_at box fs 8 ≡ b

-- where the byte is 1 there is one link, and where it is 3 there are two; where it is 0 the head is malformed
pub record ExemptionNeeded (box : Tables → Element → Result) : Type 0 where
  pub number : Tells box (chained 1) (chained 3) (links 0 1) (links 0 2)
  pub code : Tells box (chained 1) (chained 0) (links 0 1) (links 19 0)
