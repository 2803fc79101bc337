use Rattle.std.proofs.Common.{◌≡◌, ◌+◌, ◌-◌, ◌<◌, ◌^◌, take, drop}
use Rattle.record.specs.Read.{from_little}
use Rattle.buffers.proofs.number_at.Given as goal

-- x is the number of the bytes from the i-th on
abbrev pub invariant-loop-i : goal.invariant-loop-i
invariant-loop-i l =
    (l.x ≡ from_little (take (l.width - l.i) (drop (l.at + l.i) l.bytes))) × (l.x < 256 ^ (l.width - l.i))
