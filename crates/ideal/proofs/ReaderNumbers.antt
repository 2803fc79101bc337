-- The reader refuses by the first of its conditions, and with 1 tells the bytes that are missing. Assumes nothing.
use Prim.Native.Nat.{ℕ, zero, suc, ◌+◌, ◌-◌, ◌≤◌, ◌<◌}
use mathlib.Core.Path.{◌≡◌, refl, ◌∙◌}
use mathlib.Core.Bool.{Bool, true, false, not, ◌&&◌, ◌||◌, cond, beq, false≢true}
use mathlib.Core.List.{List, [], ◌∷◌, ◌++◌}
use mathlib.Core.Option.{Option, none, some}
use native.Mathlib.Omega.{arith}
use lib.ListN.{length, drop, get_or, length-drop}
use lib.Seq.{drop-drop}
use lib.Dec.{eqb, ltb, leb, eqb-suc-zero, eqb-suc-suc}
use borrow.Author.Tests.{ltb-true, ltb-false, lt-ltb, le-ltb, eqb-true, eqb-false, leb-true, ne_eqb}
use Rattle.record.specs.declared.Fields.{Fields}
use Rattle.record.specs.Layout.{Kind, stands, kinds, among, kind_of, map_in, map_of}
use Rattle.record.specs.Read.{Reading, refused, whole, cut, unknown, wrong_map, from_little, field, contents, bytes_field, fields, read_fields, read_kind, after_map, read}
use Rattle.ideal.specs.State.{part, any, every}
use Rattle.ideal.specs.Refusals.{one_of, width, ends, cut_field, passed, whole_fields, missing, number_at, is_map, reader_conditions}
use Rattle.lists.proofs.Bools.{by_cases, and_left, and_right}
use Rattle.ideal.proofs.Conditions.{first_of}

-- the code and the number of a refusal; those given where the record is whole
unfoldable pub seen : Reading → ℕ × ℕ → ℕ × ℕ
seen (refused code number) p = (code, number)
seen (whole c used) p = p

-- a code, and the answer number of a refusal with it
abbrev pub numbered : List ℕ → ℕ → ℕ × ℕ
numbered bs code = (code, number_at bs code)

-- ---- the fields

-- from n to the first of the ends beyond it; 0 where none is
unfoldable pub up_to : ℕ → List ℕ → ℕ
up_to n [] = 0
up_to n (end ∷ later) = cond (ltb n end) (end - n) (up_to n later)

up_to_lem : (n : ℕ) (es : List ℕ) → get_or es (passed n es) 0 - n ≡ up_to n es
unfolding passed up_to
up_to_lem n [] = omega arith
up_to_lem n (end ∷ later) = by_cases (ltb n end) (λ h. rw h) (λ h. rw h (up_to_lem n later))

pub missing_is : (bs : List ℕ) → missing bs ≡ up_to (length bs) (ends bs)
unfolding missing whole_fields
missing_is bs = up_to_lem (length bs) (ends bs)

-- 1 and the bytes up to the first end beyond n; what is given where none is
unfoldable scan : ℕ → List ℕ → ℕ × ℕ → ℕ × ℕ
scan n [] p = p
scan n (end ∷ later) p = cond (ltb n end) (1, end - n) (scan n later p)

scan_is : (n : ℕ) (es : List ℕ) (p : ℕ × ℕ)
    → let cut = any (λ end. ltb n end) es in scan n es p ≡ cond cut (1, up_to n es) p
unfolding scan any up_to
scan_is n [] p = refl
scan_is n (end ∷ later) p =
    by_cases (ltb n end) (λ h. rw h) (λ h. rw h (scan_is n later p))

scan_end : (n : ℕ) (p : ℕ × ℕ) → p ≡ scan n [] p
unfolding scan
scan_end n p = refl

scan_past : (n end : ℕ) (later : List ℕ) (p : ℕ × ℕ) → end ≤ n → scan n (end ∷ later) p ≡ scan n later p
unfolding scan
scan_past n end later p l = rw (le-ltb n end l)

module _ (all : List ℕ) (p : ℕ × ℕ) where
  -- n bytes from `at` on
  contents_seen : (n at : ℕ) (next : List ℕ → List ℕ → Reading) (later : List ℕ) → at ≤ length all
      → (at + n ≤ length all → seen (next (part all at n) (drop (at + n) all)) p ≡ scan (length all) later p)
      → seen (contents n next (drop at all)) p ≡ scan (length all) ((at + n) ∷ later) p
  unfolding contents seen cut scan
  contents_seen n at next later l k =
      let d = length-drop at all in
      by_cases (ltb (length (drop at all)) n)
      (λ c.
      let m : n - length (drop at all) ≡ at + n - length all = omega arith in
      rw (c, m, lt-ltb (length all) (at + n) (omega (arith, ltb-true))))
      (λ c.
      let g : at + n ≤ length all = omega (arith, ltb-false) in
      rw (c, drop-drop n at all, le-ltb (length all) (at + n) g) (k g))

  -- a field that begins at `at`
  field_seen : (here : Bool) (n at : ℕ) (next : ℕ → List ℕ → Reading) (later : List ℕ) → at ≤ length all
      → (at + width here n ≤ length all
      → seen (next (width here (from_little (part all at n))) (drop (at + width here n) all)) p ≡ scan (length all) later p)
      → seen (field here n next (drop at all)) p ≡ scan (length all) ((at + width here n) ∷ later) p
  unfolding field width
  field_seen false n at next later l k =
      let z : at + 0 ≡ at = omega arith in
      rw (z, scan_past (length all) at later p l) (rw z at (k (omega arith)))
  field_seen true n at next later l k = contents_seen n at (λ v. next (from_little v)) later l k

-- ---- a record of a kind

-- as reader_conditions has it
abbrev no_kind : ℕ → Bool
no_kind n = ltb 16 n || one_of (0 ∷ 2 ∷ 3 ∷ []) n

unlisted : Option Kind → Bool
unlisted none = true
unlisted (some k) = false

module _ (map n : ℕ) (rest : List ℕ) where
  abbrev all : List ℕ
  all = map ∷ n ∷ rest

  -- cut before its end, or whole
  fields_seen : (p : ℕ × ℕ) (next : Fields → List ℕ → List ℕ → Reading) → ((f : Fields) (v bs : List ℕ) → seen (next f v bs) p ≡ p)
      → seen (fields map next rest) p ≡ scan (length all) (ends all) p
  unfolding fields bytes_field ends
  fields_seen p next k =
      let place = 2 + width (stands map 1) 1 in
      let identity = place + width (stands map 2) 8 in
      let offset = identity + width (stands map 3) 2 in
      let size = offset + width (stands map 4) 2 in
      let number = size + width (stands map 5) 8 in
      let count = number + width (stands map 6) 2 in
      let go = field_seen all p in
      rw (scan_past (length all) 1 _ p (omega arith), scan_past (length all) 2 _ p (omega arith))
      (go (stands map 1) 1 2 _ _ (omega arith) λ l.
      go (stands map 2) 8 place _ _ l λ l.
      go (stands map 3) 2 identity _ _ l λ l.
      go (stands map 4) 2 offset _ _ l λ l.
      go (stands map 5) 8 size _ _ l λ l.
      go (stands map 6) 2 number _ _ l λ l.
      contents_seen all p _ count _ [] l (λ _. k _ _ _ ∙ scan_end (length all) p))

  kind_seen : (m total : ℕ) (o : Option Kind) → unlisted o ≡ no_kind n
      → seen (read_kind total map o rest) (numbered all m)
      ≡ numbered all (cond (no_kind n) 2 (cond (not (is_map map (map_in o))) 3 (cond (cut_field all) 1 m)))
  unfolding read_kind read_fields unlisted map_in is_map seen unknown wrong_map number_at cut_field
  kind_seen m total none e = rw (← e)
  kind_seen m total (some k) e =
      by_cases (eqb k.map map)
      (λ h. rw (← e, h, eqb-true k.map map h)
      (fields_seen _ _ (λ f v bs. refl) ∙ scan_is (length all) (ends all) _ ∙ rw (← missing_is all) (either (cut_field all))))
      (λ h. rw (← e, h))
    where
      either : (b : Bool) → cond b (1, missing all) (numbered all m) ≡ numbered all (cond b 1 m)
      either true = refl
      either false = refl

-- ---- the kinds' numbers

-- what holds of each number below a bound
below : (ℕ → Bool) → ℕ → Bool
below p zero = true
below p (suc n) = p n && below p n

below_at : (p : ℕ → Bool) (n k : ℕ) → below p n ≡ true → k < n → p k ≡ true
unfolding below
below_at p zero k h l = absurd (omega arith)
below_at p (suc n) k h l =
    by_cases (eqb k n)
    (λ e. rw (eqb-true k n e) (and_left (p n) _ h))
    (λ e. below_at p n k (and_right (p n) _ h) (omega (arith, eqb-false k n e)))

among_high : (n : ℕ) (ks : List Kind) → every (λ k. leb k.number 16) ks ≡ true → 16 < n → among ks n ≡ none
unfolding every among
among_high n [] h l = refl
among_high n (k ∷ ks) h l =
    let g = leb-true k.number 16 (and_left (leb k.number 16) _ h) in
    rw (ne_eqb k.number n (λ e. omega arith), among_high n ks (and_right (leb k.number 16) _ h) l)

same : (a b : Bool) → beq a b ≡ true → a ≡ b
same true true h = refl
same true false h = absurd (false≢true h)
same false true h = absurd (false≢true h)
same false false h = refl

-- no kind has the number 0, 2 or 3, or one above 16
kinds_listed : (n : ℕ) → unlisted (kind_of n) ≡ no_kind n
unfolding unlisted kind_of kinds below among every one_of any
kinds_listed n =
    by_cases (ltb 16 n)
    (λ h. let l : 16 < n = omega (arith, ltb-true) in rw (h, among_high n kinds refl l))
    (λ h. same _ _ (below_at (λ k. beq (unlisted (kind_of k)) (no_kind k)) 17 n refl (omega (arith, ltb-false))))

-- ---- the reader

-- the refusal is the first of the reader's conditions that holds, with its number; where none holds the record is whole
pub read_seen : (bs : List ℕ) (cs : List (ℕ × Bool))
    → seen (read bs) (numbered bs (first_of cs)) ≡ numbered bs (first_of (reader_conditions bs ++ cs))
unfolding read after_map reader_conditions first_of seen cut unknown map_of number_at missing whole_fields passed ends
read_seen [] cs = refl
read_seen (map ∷ []) cs = by_cases (stands map 0) (λ h. rw h) (λ h. rw h)
read_seen (map ∷ n ∷ rest) cs =
    let long = length rest in
    by_cases (stands map 0)
    (λ h.
    rw (h, eqb-suc-zero (suc long), eqb-suc-suc (suc long) 0, eqb-suc-zero long)
    (kind_seen map n rest (first_of cs) _ (kind_of n) (kinds_listed n)))
    (λ h. rw (h, eqb-suc-zero (suc long)))
