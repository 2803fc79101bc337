use Rattle.std.proofs.Common.{◌≡◌, ◌-◌}
use Rattle.std.proofs.lemmas.List.Edits.{sets}
use Rattle.fnv.specs.Fnv.{little}
use Rattle.buffers.proofs.put_number.Given as goal

-- storing the bytes of what is left gives the whole
abbrev pub invariant-loop-b : goal.invariant-loop-b
invariant-loop-b l =
    sets l.b-items l.b-index (little (l.width - l.b-index) l.rest) ≡ sets l.initial.b-items 0 (little l.width l.x)
