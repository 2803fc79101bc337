-- What the functions that write text leave in a lent buffer.
use Rattle.std.specs.Prelude.{ℕ, ◌+◌, ◌≤◌, ◌≡◌, List, ◌++◌, length, drop}
use Rattle.std.proofs.lemmas.List.Edits.{sets}

-- a text from `at` on, the other bytes unaltered, and the place after it
pub record Stored (text before : List ℕ) (at : ℕ) (after : List ℕ) (next : ℕ) : Type 0 where
  pub place : next ≡ at + length text
  pub bytes : after ≡ sets before at text

-- a text at the front, bytes beyond it unaltered, and its length
pub record AtFront (text before after : List ℕ) (size : ℕ) : Type 0 where
  pub count : size ≡ length text
  pub fits : size ≤ length before
  pub bytes : after ≡ text ++ drop size before
