-- What the calls on services leave and answer, on the parts of the box that they are given: create, exit, report
-- and hand over.
use Rattle.std.specs.Prelude.{ℕ, ◌+◌, ◌*◌, ◌≤◌, ◌<◌, ◌≡◌, Bool, not, ◌&&◌, List, length, get_or, set, eqb, ltb}
use Rattle.std.proofs.lemmas.List.Edits.{sets}
use Rattle.ideal.specs.declared.BoxRecord.{BoxRecord}
use Rattle.ideal.specs.State.{cleared}
use Rattle.ideal.specs.Step.{Tests, accept, ◌then◌, first_holding}
use Rattle.ideal.specs.Tables.{heap_start, taken_map}
use Rattle.ideal.specs.History.{ones}
use Rattle.state.specs.declared.Answer.{Answer}
use Rattle.state.specs.declared.Change.{Change}
use Rattle.state.specs.Answers.{settled, answered}
use Rattle.state.specs.Edits.{unchanged}

-- ---- what callers of exit show

pub record Leaving (b : BoxRecord) (heaps : List ℕ) : Type 0 where
  pub map : b.taken ≡ taken_map b.identities
  pub runs : b.running ≤ 16
  pub live : b.running < 16 → get_or b.identities b.running 0 ≡ 0 → ⊥
  pub size : length heaps ≡ 4096

-- ---- the tests

abbrev pub idle_in : BoxRecord → Bool
idle_in b = eqb b.running 16

abbrev pub vacant_in : BoxRecord → ℕ → Bool
vacant_in b p = eqb (get_or b.identities p 0) 0

abbrev pub create_tests : BoxRecord → (place identity : ℕ) → Tests
create_tests b p i = (6, ltb 15 p) then (7, not (vacant_in b p)) then (9, eqb i 0) then accept

abbrev pub exit_tests : BoxRecord → Tests
exit_tests b = (4, idle_in b) then accept

-- a place of 0 to 15 is empty
abbrev pub empty_at : BoxRecord → (place : ℕ) → Bool
empty_at b p = ltb p 16 && vacant_in b p

abbrev pub hand_over_tests : BoxRecord → (place : ℕ) → Tests
hand_over_tests b p = (6, ltb 16 p) then (7, empty_at b p) then accept

-- ---- the box record after an accepted call

-- a place's identity, 0 to empty it, and the map that goes with it
abbrev pub box_with_identity : BoxRecord → (place identity : ℕ) → BoxRecord
box_with_identity b p i =
    let ids = set b.identities p i in
    record { taken = taken_map ids; running = b.running; identities = ids; log = b.log; escrow = b.escrow }

abbrev pub box_with_running : BoxRecord → (place : ℕ) → BoxRecord
box_with_running b p = record { taken = b.taken; running = p; identities = b.identities; log = b.log; escrow = b.escrow }

-- the running place emptied; none runs
abbrev pub box_after_exit : BoxRecord → BoxRecord
box_after_exit b = box_with_running (box_with_identity b b.running 0) 16

-- ---- the calls

abbrev pub settled_box : (refusal : ℕ) → (before after : BoxRecord) → (number : ℕ) → Change
settled_box refusal before after number =
    unchanged (settled refusal before after) (answered refusal number)

unfoldable pub create_on : BoxRecord → (place identity : ℕ) → Change
create_on b p i = settled_box (first_holding (create_tests b p i)) b (box_with_identity b p i) p

unfoldable pub exit_on : BoxRecord → Change
exit_on b = settled_box (first_holding (exit_tests b)) b (box_after_exit b) 0

unfoldable pub exit_heaps : BoxRecord → List ℕ → List ℕ
exit_heaps b heaps = settled (first_holding (exit_tests b)) heaps (sets heaps (heap_start b.running) cleared)

-- services + 256 times log rows + 65,536 times escrow rows; the services are the standing bits of the map
abbrev pub counts : BoxRecord → ℕ
counts b = ones 16 b.taken + 256 * b.log.rows + 65536 * b.escrow.rows

unfoldable pub report_on : BoxRecord → Answer
report_on b = answered (first_holding accept) (counts b)

unfoldable pub hand_over_on : BoxRecord → (place : ℕ) → Change
hand_over_on b p = settled_box (first_holding (hand_over_tests b p)) b (box_with_running b p) 0
