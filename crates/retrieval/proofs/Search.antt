-- What the index of the first row that passes tells of a search for it. Assumes nothing.
use Rattle.std.proofs.Common.{ℕ, ◌<◌, ◌≡◌, Bool, true, false, cond, List, length, get_or, Option, Some, None, MatchOption, unwrap_or, refl, sym, ap, ◌∙◌, arith}
use Rattle.std.proofs.Math.Option as math
use Rattle.std.proofs.Math.Option.{none, some}
use Rattle.std.proofs.lemmas.List.Recursion.{is_position_or_len, found_at, found_nowhere}
use Rattle.std.proofs.lemmas.List.Sums.{position_or_len_is}
use Rattle.std.specs.List.{position_or_len}
use Rattle.record.specs.Layout.{gives, refuses}
use Rattle.ideal.specs.declared.EscrowRow.{EscrowRow}
use Rattle.ideal.specs.State.{Escrowed, find, position}
use Rattle.ideal.specs.Tables.{escrow_table, entry_of, entries_of}
use Rattle.retrieval.specs.Search.{entry_found, sought}

module _ (rows : List EscrowRow) where
  -- no row passes, or this is the first that does
  abbrev pub First : (EscrowRow → Bool) → Option ℕ → Type 0
  First q r =
      MatchOption r ((k : ℕ) → k < length rows → q (get_or rows k escrow_table.blank) ≡ false)
      (λ i. (i < length rows) × (q (get_or rows i escrow_table.blank) ≡ true) × ((k : ℕ) → k < i → q (get_or rows k escrow_table.blank) ≡ false))

  module _ (q : EscrowRow → Bool) where
    positions : position q rows ≡ position_or_len q rows
    unfolding position
    positions =
        is_position_or_len (position q) q refl (λ r l. ap (cond (q r) 0) (omega arith)) rows

    pub first_position : (r : Option ℕ) → First q r → unwrap_or r (length rows) ≡ position q rows
    first_position None f =
        sym (positions ∙ position_or_len_is q rows (length rows) escrow_table.blank (omega arith) f (λ l. absurd (omega arith)))
    first_position (Some i) f =
        sym (positions ∙ position_or_len_is q rows i escrow_table.blank (omega arith) f.2 (λ _. f.1))

  module _ (p : Escrowed → Bool) (values : List ℕ) where
    among : List EscrowRow → math.Option Escrowed
    among l = find p (entries_of escrow_table values l)

    pub first_entry : (r : Option ℕ) → First (λ r. p (entry_of escrow_table values r)) r
        → entry_found values rows r ≡ sought (find p (entries_of escrow_table values rows))
    unfolding entry_found sought find entries_of among
    first_entry None f =
        sym (ap sought (found_nowhere among (λ r. p (entry_of escrow_table values r)) (λ r. some (entry_of escrow_table values r)) none refl (λ _ _. refl) rows escrow_table.blank f))
    first_entry (Some i) f =
        sym (ap sought (found_at among (λ r. p (entry_of escrow_table values r)) (λ r. some (entry_of escrow_table values r)) none refl (λ _ _. refl) rows i escrow_table.blank f.0 f.2 f.1))

-- a row that is found is what a search gives, and where none is, it gives nothing
pub given : {e : Escrowed} {o : math.Option Escrowed} → gives e ≡ sought o → o ≡ some e
unfolding sought
given {o = some x} h = cc
given {o = none} h = cc

pub not_given : {o : math.Option Escrowed} → refuses 10 ≡ sought o → o ≡ none
unfolding sought
not_given {o = some x} h = cc
not_given {o = none} h = refl
