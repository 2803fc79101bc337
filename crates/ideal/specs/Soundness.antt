-- Which lent buffers are of their size, and which boxes are sound: document 01's list, in its order.
use Rattle.std.specs.Prelude.{ℕ, ◌+◌, ◌/◌, ◌^◌, Bool, true, not, ◌&&◌, ◌||◌, cond, List, [], ◌∷◌, length, get_or, drop, eqb, ltb, leb}
use Rattle.fnv.specs.Fnv.{tag_of}
unfoldable pub use Rattle.lists.specs.Lists.{all_zero}
use Rattle.ideal.specs.declared.BoxRecord.{BoxRecord}
use Rattle.ideal.specs.declared.LogRow.{LogRow}
use Rattle.ideal.specs.declared.EscrowRow.{EscrowRow}
use Rattle.ideal.specs.State.{Logged, Escrowed, any, every}
use Rattle.ideal.specs.Step.{is_pair, has_handle}
use Rattle.ideal.specs.Tables.{Tables, RowsOf, log_table, escrow_table, taken_map, chunks, used_log, used_escrow, state_of}

infixr 20 ◌and◌
-- tests in a row, each of which must pass
pub data All : Type 0 where
  done : All
  ◌and◌ : Bool → All → All

unfoldable pub pass : All → Bool
pass done = true
pass (b and bs) = b && pass bs

-- everything that the tables lend is of its size
unfoldable pub tables_sized : Tables → Bool
tables_sized t =
    pass
    (eqb (length t.box.identities) 16
    and eqb (length t.heaps) 4096
    and eqb (length t.shared) 1024
    and eqb (length t.log_rows) 64
    and eqb (length t.log_values) 4096
    and eqb (length t.escrow_rows) 64
    and eqb (length t.escrow_values) 4096
    and done)

-- and so is the output buffer
unfoldable pub sizes_right : Tables → ℕ → Bool
sizes_right t output_size = tables_sized t && eqb output_size 1024

-- the running place is 16 or taken
unfoldable pub running_taken : BoxRecord → Bool
running_taken b = eqb b.running 16 || (ltb b.running 16 && not (eqb (get_or b.identities b.running 0) 0))

-- an empty place's heap is all zeros
unfoldable pub empty_heaps_zero : List ℕ → List (List ℕ) → Bool
empty_heaps_zero [] hs = true
empty_heaps_zero (i ∷ is) [] = true
empty_heaps_zero (i ∷ is) (h ∷ hs) = (not (eqb i 0) || all_zero h) && empty_heaps_zero is hs

module _ {Row Key : Type 0} (t : RowsOf Row Key) where
  -- each row begins where the one before ended, and the last ends at the bytes used
  unfoldable pub chained : ℕ → ℕ → List Row → Bool
  chained end at [] = eqb at end
  chained end at (r ∷ rs) = eqb (t.first r) at && chained end (at + t.size r) rs

  -- lengths are at most 256
  unfoldable pub short : List Row → Bool
  short rs = every (λ r. leb (t.size r) 256) rs

-- no two entries are the same, as `same` tells
unfoldable pub differ : {A : Type 0} → (A → A → Bool) → List A → Bool
differ same [] = true
differ same (a ∷ l) = not (any (same a) l) && differ same l

unfoldable pub same_pair : Logged → Logged → Bool
same_pair r q = is_pair r.key.identity r.value q

unfoldable pub same_handle : Escrowed → Escrowed → Bool
same_handle r q = has_handle r.key.handle q

unfoldable pub has_identity : LogRow → Bool
has_identity r = not (eqb r.identity 0)

unfoldable pub has_identities : EscrowRow → Bool
has_identities r = not (eqb r.source 0) && not (eqb r.recipient 0)

unfoldable pub right_tag : Logged → Bool
right_tag r = eqb r.key.tag.0 (tag_of r.key.identity r.value).0

-- the mark is 0, or 1 in a spent row
unfoldable pub right_mark : EscrowRow → Bool
right_mark r = leb r.mark 1

-- the handle carries the row's length; a spent row's length is 0, whatever its handle carries
unfoldable pub carries_length : EscrowRow → Bool
carries_length r = cond (eqb r.mark 0) (eqb (r.handle.0 / 2 ^ 48) r.length) (eqb r.length 0)

unfoldable pub sound_tests : Tables → All
sound_tests t =
    let b = t.box in
    let log = (state_of t).log in
    let escrow = (state_of t).escrow in
    running_taken b
    -- identities are non-zero in taken places and zero in empty ones
    and eqb b.taken (taken_map b.identities)
    and empty_heaps_zero b.identities (chunks 16 t.heaps)
    -- no used-count exceeds its table
    and leb b.log.rows 64
    and leb b.log.bytes 4096
    and leb b.escrow.rows 64
    and leb b.escrow.bytes 4096
    -- each used row begins where the one before ended, the first at 0, and lengths sum to the bytes used
    and chained log_table b.log.bytes 0 (used_log t)
    and chained escrow_table b.escrow.bytes 0 (used_escrow t)
    and short log_table (used_log t)
    and short escrow_table (used_escrow t)
    -- identities in used rows are non-zero
    and every has_identity (used_log t)
    and every has_identities (used_escrow t)
    -- log pairs differ from row to row and each tag is the right one
    and differ same_pair log
    and every right_tag log
    -- handles differ from row to row and carry the row's length, but for spent rows, whose length is 0 (document 02, P8)
    and differ same_handle escrow
    and every right_mark (used_escrow t)
    and every carries_length (used_escrow t)
    -- all unused rows and value bytes are zero
    and every log_table.is_blank (drop b.log.rows t.log_rows)
    and all_zero (drop b.log.bytes t.log_values)
    and every escrow_table.is_blank (drop b.escrow.rows t.escrow_rows)
    and all_zero (drop b.escrow.bytes t.escrow_values)
    and done

-- the box is sound
unfoldable pub sound : Tables → Bool
sound t = pass (sound_tests t)
