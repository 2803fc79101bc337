-- Request P7: the rule for the next draw, told a second time, and how many draws are passed over by it.
use Rattle.std.specs.Prelude.{ℕ, ◌+◌, ◌*◌, ◌^◌, ◌≤◌, ◌<◌, ◌≡◌, ◌↔◌, length}
use Rattle.record.specs.declared.Handle.{Handle}
use Rattle.ideal.specs.Step.{next}
use Rattle.ideal.specs.Tables.{Tables, used_escrow}
use Rattle.ideal.specs.Accuracy.{iterate, FirstFree}

-- n is below 2^48, and a multiple of 2^48 away from 25214903917 times the draw plus 11
pub record Follows (draw n : ℕ) : Type 0 where
  pub small : n < 2 ^ 48
  pub times : ℕ
  pub away : 25214903917 * draw + 11 ≡ n + times * 2 ^ 48

-- the next draw is that, and no other is
abbrev pub NextDraw : Type 0
NextDraw = (draw n : ℕ) → (next draw ≡ n) ↔ Follows draw n

-- from any draw on, the first 65 draws differ
abbrev pub DrawsDiffer : Type 0
DrawsDiffer = (draw i j : ℕ) → i < j → j < 65 → iterate next i draw ≡ iterate next j draw → ⊥

-- among 64 escrow rows or fewer, whatever their handles, from any draw on: a first free draw is there, and at most 64 are
-- passed over
abbrev pub FewPassedOver : Type 0
FewPassedOver = (t : Tables) (size draw : ℕ) → length (used_escrow t) ≤ 64 → (handle : Handle) × FirstFree t size draw handle
