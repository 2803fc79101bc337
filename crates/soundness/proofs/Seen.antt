-- The search for a row's like among the rows before it, and the slots that tell where there is none. Assumes nothing.
use Prim.Native.Nat.{ℕ, ◌+◌, ◌≤◌, ◌<◌}
use mathlib.Core.Path.{◌≡◌, refl, ◌∙◌}
use mathlib.Core.Bool.{Bool, true, false}
use mathlib.Core.List.{List, []}
use native.Mathlib.Omega.{arith}
use lib.ListN.{length, get_or, set, take, drop, length-set}
use lib.Seq.{length-take-le, get_or-take, get_or-set_same, get_or-set_other, drop-length}
use lib.Bits.{bit_and, and_le_r}
use lib.Dec.{eqb}
use borrow.Author.Tests.{eqb-true, eqb-false}
use Rattle.ideal.specs.State.{Entry, any}
use Rattle.ideal.specs.Tables.{RowsOf, entry_of, entries_of}
use Rattle.lists.proofs.Bools.{by_cases}
use Rattle.pairs.proofs.Search.{passes_nowhere}
use Rattle.soundness.specs.Tests.{differ_before}
use Rattle.soundness.proofs.Differ.{differ_step}

-- ---- slots

unfoldable pub slot_of : ℕ → ℕ
slot_of m = bit_and m 1023

pub slot_within : (m : ℕ) → slot_of m < 1024
unfolding slot_of
slot_within m = omega (arith, and_le_r m 1023)

module _ {Row : Type 0} (blank : Row) (number : Row → ℕ) (rows : List Row) where
  -- of 1,024 slots, those of the first i rows are seen
  pub record Seen (i : ℕ) (seen : List Bool) : Type 0 where
    pub count : length seen ≡ 1024
    pub slots : (k : ℕ) → k < i → get_or seen (slot_of (number (get_or rows k blank))) false ≡ true

  pub none_seen : (seen : List Bool) → length seen ≡ 1024 → Seen 0 seen
  none_seen seen e = record { count = e; slots = λ k h. absurd (omega arith) }

  pub seen_more : (i : ℕ) (seen : List Bool) → Seen i seen → Seen (i + 1) (set seen (slot_of (number (get_or rows i blank))) true)
  seen_more i seen s =
      let at = slot_of (number (get_or rows i blank)) in
      record {
        count = length-set seen at true ∙ s.count;
        slots = λ k p.
            let here = slot_of (number (get_or rows k blank)) in
            by_cases (eqb here at)
            (λ e. rw (eqb-true here at e) (get_or-set_same seen at true false (rw s.count (slot_within (number (get_or rows i blank))))))
            (λ e.
            let other = eqb-false here at e in
            by_cases (eqb k i)
            (λ f. absurd (other (rw (eqb-true k i f))))
            (λ f. let g = eqb-false k i f in get_or-set_other seen at here true false other ∙ s.slots k (omega arith)));
      }

-- ---- the search

module _ {Row Key : Type 0} (t : RowsOf Row Key) (same : Entry Key → Entry Key → Bool) (values : List ℕ) (rows : List Row) where
  -- one of the rows before row i is like it
  abbrev pub like_before : (i : ℕ) → Bool
  like_before i = any (same (entry_of t values (get_or rows i t.blank))) (entries_of t values (take i rows))

  -- the rows from i on differ from those before them just where all do
  abbrev pub DifferFrom : (i : ℕ) → Type 0
  DifferFrom i =
      differ_before same (entries_of t values (take i rows)) (entries_of t values (drop i rows))
      ≡ differ_before same [] (entries_of t values rows)

  pub from_first : DifferFrom 0
  unfolding entries_of
  from_first = refl

  -- a row whose slot is not seen is like none before it
  pub unseen : (number : Row → ℕ) → ((r q : Row) → same (entry_of t values r) (entry_of t values q) ≡ true → number q ≡ number r)
      → (i : ℕ) (seen : List Bool) → i ≤ length rows → Seen t.blank number rows i seen
      → get_or seen (slot_of (number (get_or rows i t.blank))) false ≡ false → like_before i ≡ false
  unseen number agree i seen fit s z =
      let r = get_or rows i t.blank in
      let e = length-take-le i rows fit in
      passes_nowhere t (same (entry_of t values r)) values (take i rows) (λ k h.
      let b : k < i = omega arith in
      let q = get_or rows k t.blank in
      rw (get_or-take i rows k t.blank b)
      (by_cases (same (entry_of t values r) (entry_of t values q)) (λ y. let w = rw (agree r q y, z) at (s.slots k b) in cc) (λ y. y)))

  module _ (i : ℕ) (within : i < length rows) (d : DifferFrom i) where
    pub differ_not : like_before i ≡ true → false ≡ differ_before same [] (entries_of t values rows)
    differ_not e = rw (differ_step t same values rows i within, e) at d

    pub differ_later : like_before i ≡ false → DifferFrom (i + 1)
    differ_later e = rw (differ_step t same values rows i within, e) at d

  pub differ_all : DifferFrom (length rows) → true ≡ differ_before same [] (entries_of t values rows)
  unfolding entries_of differ_before
  differ_all d = rw (drop-length rows) at d
