-- Laws of texts, and of texts stored one after the other. Assumes nothing.
use Prim.Native.Nat.{ℕ, zero, suc, ◌+◌, ◌*◌, ◌/◌, ◌%◌, ◌^◌, ◌≤◌, ◌<◌}
use Prim.Native.Char.{code}
use mathlib.Core.Path.{◌≡◌, refl, ◌∙◌}
use mathlib.Core.List.{List, [], ◌∷◌, ◌++◌}
use native.Mathlib.Nat.{div-lt_iff_lt-mul, pow-suc}
use native.Mathlib.Numerals.{add-one}
use native.Mathlib.Omega.{arith}
use lib.Dec.{ltb}
use lib.ListN.{length, drop, set, get_or, length-append}
use lib.Seq.{sets, drop-cons, drop-length}
use borrow.Author.Tests.{lt-ltb, le-ltb}
use Rattle.record.proofs.Stores.{sets_append, sets_front}
use Rattle.ideal.specs.Step.{Answer}
use Rattle.lists.proofs.Bools.{by_cases}
use Rattle.sheet.specs.Sheet.{bytes_of, digit_of, decimal_in, decimal, hexadecimal, shown_text, spaced, line}
use Rattle.sheet.specs.Stored.{Stored, AtFront}

-- ---- decimal

pub decimal_one : (x : ℕ) → x < 10 → decimal x ≡ digit_of x ∷ []
unfolding decimal decimal_in
decimal_one x h = rw (lt-ltb x 10 h)

split_last : (n x : ℕ) → 10 ≤ x → decimal_in (suc n) x ≡ decimal_in n (x / 10) ++ (digit_of (x % 10) ∷ [])
unfolding decimal_in
split_last n x l = rw (le-ltb x 10 l)

-- room for one digit more than a number has changes nothing
one_more : (n x : ℕ) → x < 10 ^ suc n → decimal_in (suc (suc n)) x ≡ decimal_in (suc n) x
unfolding decimal_in
one_more zero x h = rw (lt-ltb x 10 h)
one_more (suc n) x h =
    let shorter = (div-lt_iff_lt-mul {k = 10} {x = x} {y = 10 ^ suc n} (omega arith)).1 (rw (pow-suc 10 (suc n)) at h) in
    by_cases (ltb x 10) (λ e. rw e) (λ e. rw (e, one_more n (x / 10) shorter))

pub decimal_more : (x : ℕ) → 10 ≤ x → x < 10 ^ 20 → decimal x ≡ decimal (x / 10) ++ (digit_of (x % 10) ∷ [])
unfolding decimal
decimal_more x l h =
    let shorter = (div-lt_iff_lt-mul {k = 10} {x = x} {y = 10 ^ 19} (omega arith)).1 h in
    split_last 19 x l ∙ rw (one_more 18 (x / 10) shorter)

pub length_more : (x : ℕ) → 10 ≤ x → x < 10 ^ 20 → length (decimal x) ≡ length (decimal (x / 10)) + 1
length_more x l h = rw (decimal_more x l h) (length-append (decimal (x / 10)) (digit_of (x % 10) ∷ []))

length_in_lem : (n x : ℕ) → length (decimal_in n x) ≤ n
unfolding decimal_in
length_in_lem zero x = omega arith
length_in_lem (suc n) x =
    by_cases (ltb x 10)
    (λ e. rw e (omega arith))
    (λ e. rw (e, length-append (decimal_in n (x / 10)) (digit_of (x % 10) ∷ [])) (omega (arith, length_in_lem n (x / 10))))

pub length_decimal : (x : ℕ) → length (decimal x) ≤ 20
unfolding decimal
length_decimal x = length_in_lem 20 x

pub length_spaced : (x : ℕ) → length (spaced x) ≤ 21
unfolding spaced bytes_of
length_spaced x = rw (length-append (decimal x) (bytes_of " ")) (omega (arith, length_decimal x))

-- ---- hexadecimal

pub length_hexadecimal : (bs : List ℕ) → length (hexadecimal bs) ≡ 2 * length bs
unfolding hexadecimal
length_hexadecimal [] = refl
length_hexadecimal (b ∷ bs) = omega (arith, length_hexadecimal bs)

pub shown_none : (bs : List ℕ) → length bs ≡ 0 → shown_text bs ≡ code "-" ∷ []
unfolding shown_text bytes_of
shown_none [] e = refl
shown_none (b ∷ bs) e = absurd (omega arith)

pub shown_some : (bs : List ℕ) → (length bs ≡ 0 → ⊥) → shown_text bs ≡ hexadecimal bs
unfolding shown_text
shown_some [] h = absurd (h refl)
shown_some (b ∷ bs) h = refl

pub length_shown : (bs : List ℕ) → length (shown_text bs) ≤ 1 + 2 * length bs
unfolding shown_text bytes_of
length_shown [] = omega arith
length_shown (b ∷ bs) = omega (arith, length_hexadecimal (b ∷ bs))

pub length_line : (a : Answer) → length (line a) ≤ 65 + 2 * length a.shown
unfolding line bytes_of
length_line a =
    simp length-append
    (omega (arith, length_spaced a.code, length_spaced a.number, length_spaced a.used, length_shown a.shown))

-- ---- texts stored

-- one behind the other
pub stored_then : {a b d e f : List ℕ} {at m n : ℕ} → Stored a d at e m → Stored b e m f n → Stored (a ++ b) d at f n
stored_then {a} {b} {d} {at = at} s u =
    record {
      place = omega (arith, length-append a b, s.place, u.place);
      bytes = u.bytes ∙ rw (s.bytes, s.place, sets_append a b d at);
    }

-- at the front
pub stored_front : {a d e : List ℕ} {n : ℕ} → length a ≤ length d → Stored a d 0 e n → AtFront a d e n
stored_front {a} {d} {e} {n} h s =
    let z : n ≡ length a = omega (arith, s.place) in
    record { count = z; fits = omega arith; bytes = s.bytes ∙ rw (z, sets_front a d h) }

-- a byte's two digits, and those of the bytes to come
pub hex_more : (s d : List ℕ) (at i : ℕ) → i < length s
    → sets (set (set d at (digit_of (get_or s i 0 / 16))) (at + 1) (digit_of (get_or s i 0 % 16))) (at + 2) (hexadecimal (drop (i + 1) s))
    ≡ sets d at (hexadecimal (drop i s))
unfolding hexadecimal
hex_more s d at i h = let two : at + 2 ≡ suc (suc at) = omega arith in rw (drop-cons s i 0 h, add-one i, add-one at, two)

pub hex_none : (s : List ℕ) → hexadecimal (drop (length s) s) ≡ []
unfolding hexadecimal
hex_none s = rw (drop-length s)
