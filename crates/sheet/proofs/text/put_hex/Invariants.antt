use Rattle.std.proofs.Common.{◌≡◌, ◌+◌, ◌*◌, drop}
use Rattle.std.proofs.lemmas.List.Edits.{sets}
use Rattle.sheet.specs.Sheet.{hexadecimal}
use Rattle.sheet.proofs.text.put_hex.Given as goal

-- storing the digits of the bytes to come gives the whole
abbrev pub invariant-loop-b : goal.invariant-loop-b
invariant-loop-b l =
    (l.next ≡ l.at + 2 * l.b-index) × (sets l.out l.next (hexadecimal (drop l.b-index l.bytes)) ≡ sets l.initial.out l.at (hexadecimal l.bytes))
