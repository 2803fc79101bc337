-- What a candidate adds to the search for a free handle: 64 are passed over at most, k of them already. Assumes nothing.
use Rattle.std.proofs.Common.{ℕ, suc, ◌+◌, ◌-◌, ◌^◌, ◌≤◌, ◌<◌, ◌≡◌, true, false, List, arith}
use Rattle.ideal.specs.State.{Escrowed, any}
use Rattle.ideal.specs.Step.{has_handle, handle_of, next, free_from}

module _ (k size d : ℕ) (l : List Escrowed) where
  pub free_here : k < 64 → any (has_handle (handle_of size d)) l ≡ false → free_from (64 - k) size d l ≡ handle_of size d
  unfolding free_from
  free_here h e = let s : 64 - k ≡ suc (63 - k) = omega arith in rw (s, e)

  pub free_later : k < 64 → any (has_handle (handle_of size d)) l ≡ true
      → free_from (64 - k) size d l ≡ free_from (64 - (k + 1)) size (next d) l
  unfolding free_from
  free_later h e =
      let s : 64 - k ≡ suc (63 - k) = omega arith in
      let r : 64 - (k + 1) ≡ 63 - k = omega arith in
      rw (s, r, e)

  pub free_last : 64 ≤ k → free_from (64 - k) size d l ≡ handle_of size d
  unfolding free_from
  free_last h = let s : 64 - k ≡ 0 = omega arith in rw s

pub next_small : (d : ℕ) → next d < 2 ^ 48
unfolding next
next_small d = omega arith
