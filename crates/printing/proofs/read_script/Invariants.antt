use Rattle.std.proofs.Common.{◌≤◌, ◌≡◌, ◌-◌, length}
use Rattle.printing.proofs.read_script.Given as goal

abbrev pub invariant-loop-n : goal.invariant-loop-n
invariant-loop-n l = (l.n ≤ length l.script) × (length l.script ≡ length l.initial.script)

abbrev pub decreases-loop-n : goal.decreases-loop-n
decreases-loop-n l = length l.script - l.n
