-- A value after its count of 2 bytes.
use Rattle.std.specs.Prelude.{ℕ, ◌+◌, ◌≤◌, cond, Option, Some, None, List, ltb, length, take, drop}
use Rattle.record.specs.Read.{from_little}

-- where the value at a position starts and ends; none where the bytes end within its count or before it does
unfoldable pub counted_at : List ℕ → ℕ → Option (ℕ × ℕ)
counted_at bs at =
    let count = from_little (take 2 (drop at bs)) in
    cond (ltb (length (drop at bs)) (2 + count)) None (Some (at + 2, at + 2 + count))

-- the value lies within these bytes
unfoldable pub CountedWithin : List ℕ → Option (ℕ × ℕ) → Type 0
CountedWithin bs (Some p) = (p.0 ≤ p.1) × (p.1 ≤ length bs)
CountedWithin bs None = Unit {0}
