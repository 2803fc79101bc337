-- Lists of one length, one after another: how many bytes they are, and which is at an index. Assumes nothing.
use Prim.Native.Nat.{ℕ, zero, suc, ◌+◌, ◌*◌, ◌<◌}
use mathlib.Core.Path.{◌≡◌}
use mathlib.Core.List.{List, [], ◌∷◌}
use native.Mathlib.Nat.{zero-mul, suc-mul, mul-le-mul_right}
use native.Mathlib.Omega.{arith}
use lib.ListN.{length, get_or, length-append, get_or-append}
use lib.Seq.{get_or-append-add}
use Rattle.ideal.specs.Tables.{flat}

-- each of these has length n
abbrev pub OfLength : ℕ → List (List ℕ) → Type 0
OfLength n ss = (j : ℕ) → j < length ss → length (get_or ss j []) ≡ n

module _ (n : ℕ) where
  pub flat_length : (ss : List (List ℕ)) → OfLength n ss → length (flat ss) ≡ length ss * n
  unfolding flat
  flat_length [] z = omega (arith, zero-mul n)
  flat_length (s ∷ ss) z =
      let later = flat_length ss (λ j h. z (suc j) (omega arith)) in
      omega (arith, length-append s (flat ss), z 0 (omega arith), suc-mul (length ss) n)

  -- an index of one of them is an index of all
  pub flat_within : (j k m : ℕ) → j < m → k < n → j * n + k < m * n
  flat_within j k m h b = omega (arith, suc-mul j n, mul-le-mul_right {m = suc j} {n = m} n h)

  pub flat_at : (ss : List (List ℕ)) → OfLength n ss → (j k : ℕ) → j < length ss → k < n
      → get_or (flat ss) (j * n + k) 0 ≡ get_or (get_or ss j []) k 0
  unfolding flat
  flat_at [] z j k h b = absurd (omega arith)
  flat_at (s ∷ ss) z zero k h b =
      let first = z 0 (omega arith) in
      let i : zero * n + k ≡ k = omega (arith, zero-mul n) in
      rw (i, get_or-append s (flat ss) 0 k (omega arith))
  flat_at (s ∷ ss) z (suc j) k h b =
      let first = z 0 (omega arith) in
      let i : suc j * n + k ≡ length s + (j * n + k) = omega (arith, suc-mul j n) in
      rw (i, get_or-append-add s (flat ss) (j * n + k) 0) (flat_at ss (λ m g. z (suc m) (omega arith)) j k (omega arith) b)
