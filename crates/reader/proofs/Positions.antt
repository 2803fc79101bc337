-- The reader's fields by their positions, as the code finds them. Assumes nothing.
use Prim.Native.Nat.{ℕ, ◌+◌, ◌-◌, ◌≤◌, ◌<◌}
use mathlib.Core.Path.{◌≡◌, refl, ◌∙◌}
use mathlib.Core.Bool.{Bool, true, false, cond}
use mathlib.Core.List.{List}
use mathlib.Core.Option.{Option}
use native.Mathlib.Omega.{arith}
use lib.ListN.{length, take, drop, length-drop}
use lib.Dec.{ltb}
use lib.Seq.{drop-drop}
use borrow.Author.Tests.{lt-ltb, le-ltb}
use Rattle.reader.specs.declared.Missing.{Missing}
use Rattle.std.proofs.Common.{Result, Ok, Err}
use Rattle.record.specs.declared.Fields.{Fields}
use Rattle.record.specs.Layout.{Kind, stands}
use Rattle.record.specs.Read.{Reading, cut, whole, field, contents, bytes_field, fields}
use Rattle.reader.specs.Scan.{OrCut, reads, misses, field_at, three_in, after, three_at, call_of, ended}

module _ (bs : List ℕ) where
  -- going on from the position after a field
  abbrev on_field : (ℕ → List ℕ → Reading) → OrCut (ℕ × ℕ) → Reading
  on_field next (reads p) = next p.0 (drop p.1 bs)
  on_field next (misses n) = cut n

  field_at_lem : (at : ℕ) (here : Bool) (n : ℕ) (next : ℕ → List ℕ → Reading)
      → field here n next (drop at bs) ≡ on_field next (field_at bs at here n)
  unfolding field contents field_at
  field_at_lem at false n next = refl
  field_at_lem at true n next = rw (length-drop, drop-drop) (either (ltb (length bs - at) n) _ _)
    where
      either : (b : Bool) (m : ℕ) (p : ℕ × ℕ)
          → cond b (cut m) (on_field next (reads p)) ≡ on_field next (cond b (misses m) (reads p))
      either true m p = refl
      either false m p = refl

  abbrev on_three : (ℕ → ℕ → ℕ → List ℕ → Reading) → OrCut (ℕ × ℕ × ℕ × ℕ) → Reading
  on_three next (reads p) = next p.0 p.1 p.2 (drop p.3 bs)
  on_three next (misses n) = cut n

  on_after : (next : ℕ → ℕ → ℕ → List ℕ → Reading) (k : ℕ → List ℕ → Reading) (m : ℕ × ℕ → OrCut (ℕ × ℕ × ℕ × ℕ)) (t : OrCut (ℕ × ℕ))
      → ((p : ℕ × ℕ) → k p.0 (drop p.1 bs) ≡ on_three next (m p)) → on_field k t ≡ on_three next (after t m)
  on_after next k m (reads p) h = h p
  on_after next k m (misses n) h = refl

  three_on : (at map bit n : ℕ) (next : ℕ → ℕ → ℕ → List ℕ → Reading)
      → field (stands map bit) n (λ x. field (stands map (bit + 1)) 8 (λ y. field (stands map (bit + 2)) 2 (next x y))) (drop at bs)
      ≡ on_three next (three_at bs at map bit n)
  unfolding three_at
  three_on at map bit n next =
      field_at_lem at (stands map bit) n _
      ∙ on_after next (λ x. field (stands map (bit + 1)) 8 (λ y. field (stands map (bit + 2)) 2 (next x y))) _ (field_at bs at (stands map bit) n) (λ x.
      field_at_lem x.1 (stands map (bit + 1)) 8 (λ y. field (stands map (bit + 2)) 2 (next x.0 y))
      ∙ on_after next (λ y. field (stands map (bit + 2)) 2 (next x.0 y)) _ (field_at bs x.1 (stands map (bit + 1)) 8) (λ y.
      field_at_lem y.1 (stands map (bit + 2)) 2 (next x.0 y.0)
      ∙ on_after next (next x.0 y.0) _ (field_at bs y.1 (stands map (bit + 2)) 2) (λ z. refl)))

  -- by the case that the code found
  module _ (at map bit n : ℕ) (next : ℕ → ℕ → ℕ → List ℕ → Reading) {r : Result (ℕ × ℕ × ℕ × ℕ) Missing} (e : three_in r ≡ three_at bs at map bit n) where
    pub three_at_lem : {x y z end : ℕ} → r ≡ Ok (x, y, z, end)
        → field (stands map bit) n (λ x. field (stands map (bit + 1)) 8 (λ y. field (stands map (bit + 2)) 2 (next x y))) (drop at bs)
        ≡ next x y z (drop end bs)
    three_at_lem g = three_on at map bit n next ∙ rw (← e, g)

    pub three_cut : {missing : Missing} → r ≡ Err missing
        → field (stands map bit) n (λ x. field (stands map (bit + 1)) 8 (λ y. field (stands map (bit + 2)) 2 (next x y))) (drop at bs)
        ≡ cut missing.0
    three_cut g = three_on at map bit n next ∙ rw (← e, g)

  -- the six fields, up to the contents of the last
  pub fields_at : (map : ℕ) (next : Fields → List ℕ → List ℕ → Reading) {place identity offset at size number count start : ℕ}
      {low high : Result (ℕ × ℕ × ℕ × ℕ) Missing} → three_in low ≡ three_at bs 2 map 1 1 → low ≡ Ok (place, identity, offset, at)
      → three_in high ≡ three_at bs at map 4 2 → high ≡ Ok (size, number, count, start)
      → fields map next (drop 2 bs)
      ≡ contents count (next (record { place = place; identity = identity; offset = offset; length = size; number = number }))
      (drop start bs)
  unfolding fields bytes_field
  fields_at map next {at = at} e g e' g' = three_at_lem 2 map 1 1 _ e g ∙ three_at_lem at map 4 2 _ e' g'

  pub contents_cut : (n at : ℕ) (next : List ℕ → List ℕ → Reading) → length bs - at < n
      → contents n next (drop at bs) ≡ cut (n - (length bs - at))
  unfolding contents
  contents_cut n at next h = rw (length-drop, lt-ltb _ _ h)

  pub ended_at : (o : Option Kind) (f : Fields) (n at : ℕ) → at + n ≤ length bs
      → contents n (ended (length bs) o f) (drop at bs) ≡ whole (call_of o f (take n (drop at bs))) (at + n)
  unfolding contents ended
  ended_at o f n at h =
      let room : n ≤ length bs - at = omega arith in
      let used : length bs - (length bs - (at + n)) ≡ at + n = omega arith in
      rw (length-drop at bs, le-ltb _ _ room, drop-drop, length-drop (at + n) bs, used)
