-- Rows are blank where the bits of their fields, joined, are 0. Assumes nothing.
use Prim.Native.Nat.{ℕ, zero, suc, ◌+◌, ◌-◌, ◌*◌, ◌<◌, ◌≤◌, min}
use mathlib.Core.Path.{◌≡◌, refl, sym, ap, ◌∙◌}
use mathlib.Core.Bool.{Bool, ◌&&◌}
use mathlib.Core.List.{List}
use native.Mathlib.Omega.{arith}
use native.Mathlib.Numerals.{add-one}
use lib.Bits.{bit_or}
use lib.Dec.{eqb}
use lib.ListN.{length, get_or, take, drop, length-drop, drop_of_length-le}
use lib.Seq.{drop-cons}
use Rattle.std.proofs.lemmas.List.{drop_min, take_all}
use borrow.Author.Tests.{ne_eqb}
use Rattle.ideal.specs.declared.LogRow.{LogRow}
use Rattle.ideal.specs.declared.EscrowRow.{EscrowRow}
use Rattle.ideal.specs.State.{every}
use Rattle.ideal.specs.Tables.{log_table, escrow_table}
use Rattle.lists.proofs.Bools.{and_assoc, and_swap, and_nil}
use Rattle.buffers.proofs.Loops.{joined}

-- bits joined field by field are those of the whole rows
join_more : (s a x d z : ℕ) → eqb s 0 ≡ eqb (bit_or a x) 0
    → eqb (bit_or s (bit_or d z)) 0 ≡ eqb (bit_or (bit_or a d) (bit_or x z)) 0
join_more s a x d z e =
    rw (joined s (bit_or d z), e, joined a x, joined d z, joined (bit_or a d) (bit_or x z), joined a d, joined x z)
    (and_swap (eqb a 0) (eqb x 0) (eqb d 0) (eqb z 0))

-- two numbers of a row as one
sum_bits : (a b : ℕ) → eqb (a + b * 65536) 0 ≡ eqb a 0 && eqb b 0
sum_bits zero zero = refl
sum_bits zero (suc b) = rw (ne_eqb (suc b) 0 (λ e. omega (arith, e))) (ne_eqb (zero + suc b * 65536) 0 (λ e. omega (arith, e)))
sum_bits (suc a) b = rw (ne_eqb (suc a) 0 (λ e. omega (arith, e))) (ne_eqb (suc a + b * 65536) 0 (λ e. omega (arith, e)))

-- a log row's bits joined to those before it
pub log_joined : (identities tags places : ℕ) (r : LogRow)
    → eqb (bit_or (bit_or (bit_or identities r.identity) (bit_or tags r.tag.0)) (bit_or places (r.first + r.length * 65536))) 0
    ≡ eqb (bit_or (bit_or identities tags) places) 0 && log_table.is_blank r
log_joined identities tags places r =
    let one = bit_or identities r.identity in
    let two = bit_or one (bit_or tags r.tag.0) in
    let before = bit_or (bit_or identities tags) places in
    let here = bit_or (bit_or r.identity r.tag.0) (r.first + r.length * 65536) in
    join_more two (bit_or identities tags) (bit_or r.identity r.tag.0) places (r.first + r.length * 65536)
    (join_more one identities r.identity tags r.tag.0 refl)
    ∙ joined before here
    ∙ ap (λ b. eqb before 0 && b) (simp (joined, sum_bits, and_assoc))

-- an escrow row's
pub escrow_joined : (sources recipients handles places marks : ℕ) (r : EscrowRow)
    → eqb (bit_or (bit_or (bit_or (bit_or (bit_or sources r.source) (bit_or recipients r.recipient)) (bit_or handles r.handle.0)) (bit_or places (r.first + r.length * 65536))) (bit_or marks r.mark)) 0
    ≡ eqb (bit_or (bit_or (bit_or (bit_or sources recipients) handles) places) marks) 0 && escrow_table.is_blank r
escrow_joined sources recipients handles places marks r =
    let at = r.first + r.length * 65536 in
    let one = bit_or sources r.source in
    let two = bit_or one (bit_or recipients r.recipient) in
    let three = bit_or two (bit_or handles r.handle.0) in
    let four = bit_or three (bit_or places at) in
    let before = bit_or (bit_or (bit_or sources recipients) handles) places in
    let here = bit_or (bit_or (bit_or r.source r.recipient) r.handle.0) at in
    let two_is = join_more one sources r.source recipients r.recipient refl in
    let three-is = join_more two (bit_or sources recipients) (bit_or r.source r.recipient) handles r.handle.0 two_is in
    let four_is = join_more three (bit_or (bit_or sources recipients) handles) (bit_or (bit_or r.source r.recipient) r.handle.0) places at three-is in
    join_more four before here marks r.mark four_is
    ∙ joined (bit_or before marks) (bit_or here r.mark)
    ∙ ap (λ b. eqb (bit_or before marks) 0 && b) (simp (joined, sum_bits, and_assoc))

-- one element on
pub every_step : {A : Type 0} (p : A → Bool) (l : List A) (d : A) (i : ℕ) → i < length l
    → every p (drop i l) ≡ p (get_or l i d) && every p (drop (i + 1) l)
unfolding every
every_step p l d i h = rw (drop-cons l i d h, add-one i)

-- one row on, where `more` says that the rows so far are blank
pub blank_step : {A : Type 0} (p : A → Bool) (l : List A) (d : A) (i : ℕ) (so more : Bool) → i < length l
    → more ≡ so && p (get_or l i d) → more && every p (drop (i + 1) l) ≡ so && every p (drop i l)
blank_step p l d i so more h e = rw (e, every_step p l d i h) (and_assoc so _ _)

-- the same of a row that was read by itself
pub blank_read : {A : Type 0} (p : A → Bool) (l : List A) (d : A) (i : ℕ) (so more : Bool) (r : A) → i < length l
    → r ≡ get_or l i d → more ≡ so && p r → more && every p (drop (i + 1) l) ≡ so && every p (drop i l)
blank_read p l d i so more r h e f = blank_step p l d i so more h (f ∙ ap (λ x. so && p x) e)

-- behind the last row, where those from m on were gone over
pub blank_from : {A : Type 0} (p : A → Bool) (rows : List A) (n m i : ℕ) (so : Bool) → m ≡ min n (length rows)
    → length rows ≤ i → so && every p (drop i rows) ≡ every p (drop m rows) → so ≡ every p (drop n rows)
unfolding every
blank_from p rows n m i so e over inv =
    sym (and_nil so) ∙ (rw (drop_of_length-le rows over) at inv) ∙ ap (every p) (rw (e, drop_min))

-- behind the last of the rows from n on
pub blank_end : {A : Type 0} (p : A → Bool) (rows : List A) (n m i : ℕ) (so : Bool) → m ≡ min n (length rows)
    → let rest = take (length rows - m) (drop m rows) in
    length rest ≤ i → so && every p (drop i rest) ≡ every p rest → so ≡ every p (drop n rows)
unfolding every
blank_end p rows n m i so e over inv =
    let rest = take (length rows - m) (drop m rows) in
    let whole : rest ≡ drop n rows = take_all _ _ (simp length-drop (omega arith)) ∙ rw (e, drop_min) in
    sym (and_nil so) ∙ (rw (drop_of_length-le rest over) at inv) ∙ ap (every p) whole
