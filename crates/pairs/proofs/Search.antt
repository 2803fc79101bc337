-- A search in a table, row by row. Assumes nothing.
use Rattle.std.proofs.Common.{ℕ, ◌<◌, ◌≡◌, Bool, false, List, length, get_or, refl}
use Rattle.std.proofs.lemmas.List.Recursion.{or_from_places}
use Rattle.ideal.specs.State.{Entry, any}
use Rattle.ideal.specs.Tables.{RowsOf, entry_of, entries_of}

pub passes_nowhere : {Row Key : Type 0} (t : RowsOf Row Key) (p : Entry Key → Bool) (values : List ℕ) (rows : List Row)
    → ((k : ℕ) → k < length rows → p (entry_of t values (get_or rows k t.blank)) ≡ false)
    → any p (entries_of t values rows) ≡ false
unfolding any entries_of
passes_nowhere t p values rows =
    or_from_places (λ l. any p (entries_of t values l)) (λ r. p (entry_of t values r)) refl (λ _ _. refl) rows t.blank
