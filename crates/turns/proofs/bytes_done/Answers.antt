use mathlib.Core.Path.{sym, ◌∙◌}
use Rattle.turns.proofs.bytes_done.Goals as goal

pub returns-then-is_last : goal.returns-then-is_last
returns-then-is_last c = rw (sym c.is_last.ensures ∙ c.if-is_last.true)

pub returns : goal.returns
returns c = rw (sym c.is_last.ensures ∙ c.if-is_last.false)
