-- The shift of a number's bits is its quotient by a power of 2. Assumes nothing.
use Prim.Native.Nat.{ℕ, zero, suc, ◌+◌, ◌*◌, ◌/◌, ◌%◌, ◌^◌, ◌≤◌, ◌<◌}
use native.Mathlib.Omega.{arith}
use native.Mathlib.Nat.{div-one, zero-div, pow-suc, not-suc-le-zero, le_of_suc-le-suc, mod-lt, zero-lt-suc}
use native.Mathlib.Numerals.{one-add}
use mathlib.Core.Path.{◌≡◌, refl, sym, ap, ◌∙◌}
use mathlib.Core.Bool.{Bool, true, false, cond}
use mathlib.Core.List.{List, [], ◌∷◌, ◌++◌}
use lib.Dec.{eqb}
use lib.ListN.{length, drop, replicate, length-append, length-drop, length-replicate}
use lib.Pow.{shr-shr}
use Rattle.soundescrow.specs.Shift.{number_of, Word, moved_down, ShiftIsQuotient}

-- what is left when the lowest bit falls out
half : (b : Bool) (n : ℕ) → (cond b 1 0 + 2 * n) / 2 ≡ n
half true n = omega arith
half false n = omega arith

-- zeros at the top add nothing
topped : (n : ℕ) (bits : List Bool) → number_of (bits ++ replicate n false) ≡ number_of bits
unfolding number_of
topped zero [] = refl
topped (suc n) [] = omega (arith, topped n [])
topped n (b ∷ bits) = ap (λ (m : ℕ). cond b 1 0 + 2 * m) (topped n bits)

dropped : (n : ℕ) (bits : List Bool) → number_of (drop n bits) ≡ number_of bits / 2 ^ n
unfolding number_of
dropped zero bits = sym (div-one (number_of bits))
dropped (suc n) [] = sym (zero-div (2 ^ suc n))
dropped (suc n) (b ∷ bits) =
    let m = cond b 1 0 + 2 * number_of bits in
    dropped n bits ∙ ap (λ (k : ℕ). k / 2 ^ n) (sym (half b (number_of bits)))
    ∙ shr-shr m 1 n ∙ ap (λ (k : ℕ). m / 2 ^ k) (one-add n)

-- the n lowest bits of a number
bits_of : ℕ → ℕ → List Bool
bits_of zero x = []
bits_of (suc n) x = eqb (x % 2) 1 ∷ bits_of n (x / 2)

count : (n x : ℕ) → length (bits_of n x) ≡ n
unfolding bits_of
count zero x = refl
count (suc n) x = ap suc (count n (x / 2))

lowest : (r : ℕ) → r < 2 → cond (eqb r 1) 1 0 ≡ r
lowest zero l = refl
lowest (suc zero) l = refl
lowest (suc (suc r)) l = absurd (not-suc-le-zero (le_of_suc-le-suc (le_of_suc-le-suc l)))

number : (n x : ℕ) → x < 2 ^ n → number_of (bits_of n x) ≡ x
unfolding number_of bits_of
number zero x l = omega (arith, l)
number (suc n) x l =
    let e : x < 2 ^ n * 2 = rw (pow-suc 2 n) at l in
    let h : x / 2 < 2 ^ n = omega (arith, e) in
    let m : x % 2 < 2 = mod-lt x (zero-lt-suc 1) in
    rw (number n (x / 2) h, lowest (x % 2) m) (omega arith)

width : (n : ℕ) (bits : List Bool) → n ≤ length bits → length (moved_down n bits) ≡ length bits
unfolding moved_down
width n bits l = simp (length-append, length-drop, length-replicate) (omega (arith, l))

-- the number of the bits moved down
moved : (n x : ℕ) (w : Word x) → number_of (moved_down n w.bits) ≡ x / 2 ^ n
unfolding moved_down
moved n x w = topped n (drop n w.bits) ∙ dropped n w.bits ∙ ap (λ (k : ℕ). k / 2 ^ n) w.number

word_of : (x : ℕ) → x < 2 ^ 64 → Word x
word_of x l = record { bits = bits_of 64 x; count = count 64 x; number = number 64 x l }

pub shift_is_quotient : ShiftIsQuotient
shift_is_quotient = record {
  quotient = λ n x l h. let w = word_of x h in record {
    word = w;
    result = record {
      bits = moved_down n w.bits;
      count = width n w.bits (rw w.count l) ∙ w.count;
      number = moved n x w;
    };
    moved = refl;
  };
  only = λ n x y s. sym s.result.number ∙ ap number_of s.moved ∙ moved n x s.word;
  language = λ x. refl;
}
