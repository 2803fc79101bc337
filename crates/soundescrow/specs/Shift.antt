-- A shift to the right, bit by bit, and what request P4 claims of it. The proof is in proofs/Shifting.antt.
use Rattle.std.specs.Prelude.{ℕ, ◌+◌, ◌*◌, ◌/◌, ◌^◌, ◌≤◌, ◌<◌, ◌≡◌, Bool, false, cond, List, [], ◌∷◌, ◌++◌, length, drop, replicate}
use mir.Syntax.{shr, unsigned, w64}
use mir.Val.{vint, op2_val}

-- the number that these bits are, lowest first
unfoldable pub number_of : List Bool → ℕ
number_of [] = 0
number_of (bit ∷ bits) = cond bit 1 0 + 2 * number_of bits

-- the 64 bits of a number
pub record Word (x : ℕ) : Type 0 where
  pub bits : List Bool
  pub count : length bits ≡ 64
  pub number : number_of bits ≡ x

-- the bits moved down by n places: the n lowest fall out, and n zeros come in at the top
unfoldable pub moved_down : ℕ → List Bool → List Bool
moved_down n bits = drop n bits ++ replicate n false

-- the word of x, shifted to the right by n, is the word of y
pub record Shifted (n x y : ℕ) : Type 0 where
  pub word : Word x
  pub result : Word y
  pub moved : result.bits ≡ moved_down n word.bits

-- Every 64-bit number, shifted to the right by n, is its quotient by 2^n, and no other number. In P4 n is 48; by so much the
-- language's own `>>` gives that quotient.
pub record ShiftIsQuotient : Type 0 where
  pub quotient : (n x : ℕ) → n ≤ 64 → x < 2 ^ 64 → Shifted n x (x / 2 ^ n)
  pub only : (n x y : ℕ) → Shifted n x y → y ≡ x / 2 ^ n
  pub language : (x : ℕ) → op2_val (shr unsigned) (vint w64 x) (vint w64 48) ≡ vint w64 (x / 2 ^ 48)
