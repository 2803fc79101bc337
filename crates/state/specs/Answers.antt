-- What a call on a part of the box answers: refused, accepted, or settled by the first test that holds. No record is read
-- there, so no byte of one is used.
use Rattle.std.specs.Prelude.{ℕ, zero, suc}
use Rattle.state.specs.declared.Answer.{Answer}

abbrev pub refused_with : ℕ → Answer
refused_with code = record { code = code; number = 0; used = 0; shown = 0 }

abbrev pub accepted_with : ℕ → Answer
accepted_with number = record { code = 0; number = number; used = 0; shown = 0 }

-- n bytes are shown
abbrev pub shown_with : ℕ → Answer
shown_with n = record { code = 0; number = n; used = 0; shown = n }

-- refusal 0 is none; a refusal leaves what there was
unfoldable pub settled : {A : Type 0} → ℕ → A → A → A
settled zero old new = new
settled (suc n) old new = old

-- the answer of a call that shows nothing
unfoldable pub answered : ℕ → ℕ → Answer
answered zero number = accepted_with number
answered (suc n) number = refused_with (suc n)

-- the answer of a call that shows n bytes, unless it is refused
unfoldable pub showed : (refusal n : ℕ) → Answer
showed r n = settled r (refused_with r) (shown_with n)
