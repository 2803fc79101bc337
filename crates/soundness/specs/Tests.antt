-- The soundness test as the code makes it: the places, then each table by itself, several of the definition's clauses in one
-- pass over the rows.
use Rattle.std.specs.Prelude.{ℕ, ◌+◌, Bool, true, not, ◌&&◌, List, [], ◌∷◌, ◌++◌, eqb, leb, length, take, drop}
use Rattle.ideal.specs.declared.BoxRecord.{BoxRecord}
use Rattle.ideal.specs.declared.Used.{Used}
use Rattle.ideal.specs.declared.LogRow.{LogRow}
use Rattle.ideal.specs.declared.EscrowRow.{EscrowRow}
use Rattle.ideal.specs.State.{Entry, Logged, any, every}
use Rattle.ideal.specs.Step.{is_logged}
use Rattle.ideal.specs.Tables.{RowsOf, log_table, escrow_table, entry_of, entries_of, taken_map, chunks}
use Rattle.ideal.specs.Soundness.{done, ◌and◌, pass, running_taken, all_zero, empty_heaps_zero, same_handle, has_identity, has_identities, right_tag, right_mark, carries_length}

-- ---- places

unfoldable pub places_sound : BoxRecord → List ℕ → Bool
places_sound b heaps =
    pass
    (running_taken b
    and eqb b.taken (taken_map b.identities)
    and empty_heaps_zero b.identities (chunks 16 heaps)
    and done)

-- ---- a table

-- no entry is the same as one before it
unfoldable pub differ_before : {A : Type 0} → (A → A → Bool) → (before : List A) → List A → Bool
differ_before same before [] = true
differ_before same before (a ∷ l) = not (any (same a) before) && differ_before same (before ++ (a ∷ [])) l

module _ {Row Key : Type 0} (t : RowsOf Row Key) where
  -- a row begins at `at`, is at most 256 long, and is right by itself
  unfoldable pub row_sound : (right : Row → Bool) → (at : ℕ) → Row → Bool
  row_sound right at r = eqb (t.first r) at && (leb (t.size r) 256 && right r)

  -- such rows one after the other, and the last ends at `end`
  unfoldable pub rows_sound : (right : Row → Bool) → (end at : ℕ) → List Row → Bool
  rows_sound right end at [] = eqb at end
  rows_sound right end at (r ∷ rs) = row_sound right at r && rows_sound right end (at + t.size r) rs

  -- the value bytes from `end` on zero, the first n rows such, and the rest blank
  unfoldable pub bytes_and_rows : (right : Row → Bool) → (n end : ℕ) → List Row → List ℕ → Bool
  bytes_and_rows right n end rows values =
      all_zero (drop end values) && (rows_sound right end 0 (take n rows) && every t.is_blank (drop n rows))

  unfoldable pub table_sound : (right : Row → Bool) → (same : Entry Key → Entry Key → Bool) → List Row → List ℕ → Used → Bool
  table_sound right same rows values used =
      let n = used.rows in
      let end = used.bytes in
      pass
      (leb n 64
      and leb end 4096
      and bytes_and_rows right n end rows values
      and differ_before same [] (entries_of t values (take n rows))
      and done)

-- ---- the log

-- a log row by itself: its value lies within the value bytes, so that the tag can be compared
unfoldable pub log_row_right : List ℕ → LogRow → Bool
log_row_right values r =
    has_identity r && (leb (r.first + r.length) (length values) && right_tag (entry_of log_table values r))

-- pairs are compared with their tags
unfoldable pub same_logged : Logged → Logged → Bool
same_logged r q = is_logged r.key.identity r.key.tag r.value q

unfoldable pub log_sound : List LogRow → List ℕ → Used → Bool
log_sound rows values used = table_sound log_table (log_row_right values) same_logged rows values used

-- ---- the escrow

unfoldable pub escrow_row_right : EscrowRow → Bool
escrow_row_right r = has_identities r && (right_mark r && carries_length r)

unfoldable pub escrow_sound : List EscrowRow → List ℕ → Used → Bool
escrow_sound rows values used = table_sound escrow_table escrow_row_right same_handle rows values used
