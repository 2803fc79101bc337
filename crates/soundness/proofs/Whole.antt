-- The test in parts is the definition of soundness. Assumes nothing.
use Prim.Native.Nat.{ℕ, ◌+◌, ◌≤◌}
use mathlib.Core.Path.{◌≡◌, refl, sym, ap, ◌∙◌}
use mathlib.Core.Bool.{Bool, true, false, ◌&&◌}
use mathlib.Core.List.{List, []}
use native.Mathlib.Omega.{arith}
use lib.Dec.{eqb, leb}
use lib.ListN.{length, take, drop, replicate, length-replicate}
use borrow.Author.Tests.{eqb-true, eq-eqb, leb-true, le-leb}
use Rattle.ideal.specs.declared.BoxRecord.{BoxRecord}
use Rattle.ideal.specs.declared.Used.{Used}
use Rattle.ideal.specs.declared.LogRow.{LogRow}
use Rattle.ideal.specs.declared.EscrowRow.{EscrowRow}
use Rattle.ideal.specs.State.{Entry, every}
use Rattle.ideal.specs.Tables.{Tables, RowsOf, log_table, escrow_table, taken_map, chunks, entry_of, entries_of, state_of, lent_tables}
use Rattle.ideal.specs.Soundness.{pass, tables_sized, sizes_right, running_taken, all_zero, empty_heaps_zero, chained, short, has_identity, has_identities, right_tag, right_mark, carries_length, same_handle, sound_tests, sound}
use Rattle.lists.proofs.Bools.{and_left, and_right, and_true}
use Rattle.ideal.proofs.Table.{Stands}
use Rattle.ideal.proofs.Facts.{Facts, facts, facts_sound, every_both}
use Rattle.soundness.specs.Parts.{Counted, Lent}
use Rattle.soundness.specs.Tests.{places_sound, differ_before, rows_sound, bytes_and_rows, table_sound, log_row_right, same_logged, log_sound, escrow_row_right, escrow_sound}
use Rattle.soundness.proofs.Rows.{every_entry, chain_within, rows_clauses}
use Rattle.soundness.proofs.Differ.{pairs_differ, handles_differ}

-- two tests that pass together are the same
same_truth : (a b : Bool) → (a ≡ true → b ≡ true) → (b ≡ true → a ≡ true) → a ≡ b
same_truth true b f g = sym (f refl)
same_truth false true f g = g refl
same_truth false false f g = refl

-- ---- a table

record Right {Row Key : Type 0} (t : RowsOf Row Key) (right : Row → Bool) (same : Entry Key → Entry Key → Bool) (rows : List Row)
    (values : List ℕ) (used : Used) : Type 0 where
  stands : Stands t rows values used
  short_rows : short t (take used.rows rows) ≡ true
  each : every right (take used.rows rows) ≡ true
  apart : differ_before same [] (entries_of t values (take used.rows rows)) ≡ true

module _ {Row Key : Type 0} (t : RowsOf Row Key) (right : Row → Bool) (same : Entry Key → Entry Key → Bool) (rows : List Row)
    (values : List ℕ) (used : Used) where
  table_facts : length rows ≡ 64 → length values ≡ 4096 → table_sound t right same rows values used ≡ true → Right t right same rows values used
  unfolding table_sound bytes_and_rows pass
  table_facts l m h =
      let n = used.rows in
      let end = used.bytes in
      let front = take n rows in
      let r = rows_sound t right end 0 front in
      let d = differ_before same [] (entries_of t values front) in
      let b = every t.is_blank (drop n rows) in
      let h₁ = and_right (leb n 64) _ h in
      let h₂ = and_right (leb end 4096) _ h₁ in
      let z = all_zero (drop end values) in
      let h₃ = and_left (z && (r && b)) _ h₂ in
      let all = and_right z _ h₃ in
      let clauses = sym (rows_clauses t right end 0 front) ∙ and_left r _ all in
      let rest = and_right (chained t end 0 front) _ clauses in
      record {
        stands =
            record {
              row_count = l;
              value_count = m;
              few = leb-true n 64 (and_left (leb n 64) _ h);
              fits = leb-true end 4096 (and_left (leb end 4096) _ h₁);
              chain = and_left (chained t end 0 front) _ clauses;
              blank = and_right r _ all;
              zero = and_left z _ h₃;
            };
        short_rows = and_left (short t front) _ rest;
        each = and_right (short t front) _ rest;
        apart = and_left d true (and_right (z && (r && b)) _ h₂);
      }

  facts_table : Right t right same rows values used → table_sound t right same rows values used ≡ true
  unfolding table_sound bytes_and_rows pass
  facts_table k =
      let n = used.rows in
      let end = used.bytes in
      let s = k.stands in
      let r : rows_sound t right end 0 (take n rows) ≡ true =
      rows_clauses t right end 0 (take n rows) ∙ and_true _ _ s.chain (and_true _ _ k.short_rows k.each) in
      rw (le-leb n 64 s.few, le-leb end 4096 s.fits, s.zero, r, s.blank, k.apart)

-- ---- rows that are right by themselves

module _ (values : List ℕ) (rs : List LogRow) where
  log_each : (end : ℕ) → end ≤ length values → chained log_table end 0 rs ≡ true
      → every (log_row_right values) rs ≡ every has_identity rs && every right_tag (entries_of log_table values rs)
  unfolding log_row_right
  log_each end h c =
      let inside : LogRow → Bool = λ r. leb (r.first + r.length) (length values) in
      let tagged : LogRow → Bool = λ r. right_tag (entry_of log_table values r) in
      every_both has_identity (λ r. inside r && tagged r) (log_row_right values) (λ r. refl) rs
      ∙ ap (λ b. every has_identity rs && b)
      (every_both inside tagged (λ r. inside r && tagged r) (λ r. refl) rs
      ∙ rw ((chain_within log_table end 0 (length values) rs h c).1, every_entry log_table values right_tag rs))

escrow_each : (rs : List EscrowRow)
    → every escrow_row_right rs ≡ every has_identities rs && (every right_mark rs && every carries_length rs)
unfolding escrow_row_right
escrow_each rs =
    every_both has_identities (λ r. right_mark r && carries_length r) escrow_row_right (λ r. refl) rs
    ∙ ap (λ b. every has_identities rs && b) (every_both right_mark carries_length (λ r. right_mark r && carries_length r) (λ r. refl) rs)

-- ---- the whole box

module _ (b : BoxRecord) (log : List LogRow) (escrow : List EscrowRow) (heaps log_values escrow_values : List ℕ)
    (counted : Counted b log escrow) (lent : Lent heaps log_values escrow_values) where
  parts : Bool
  parts = places_sound b heaps && (log_sound log log_values b.log && escrow_sound escrow escrow_values b.escrow)

  -- soundness says nothing of shared memory
  t : Tables
  t = lent_tables b log escrow heaps (replicate 1024 0) log_values escrow_values

  parts_facts : parts ≡ true → Facts t
  unfolding parts t places_sound log_sound escrow_sound state_of pass
  parts_facts h =
      let p = and_left (places_sound b heaps) _ h in
      let p₁ = and_right (running_taken b) _ p in
      let p₂ = and_right (eqb b.taken (taken_map b.identities)) _ p₁ in
      let h₁ = and_right (places_sound b heaps) _ h in
      let l = table_facts log_table (log_row_right log_values) same_logged log log_values b.log counted.log_rows lent.log_bytes (and_left (log_sound log log_values b.log) _ h₁) in
      let e = table_facts escrow_table escrow_row_right same_handle escrow escrow_values b.escrow counted.escrow_rows lent.escrow_bytes (and_right (log_sound log log_values b.log) _ h₁) in
      let log_rows = take b.log.rows log in
      let escrow_rows = take b.escrow.rows escrow in
      let li = sym (log_each log_values log_rows b.log.bytes (omega (arith, l.stands.fits, lent.log_bytes)) l.stands.chain) ∙ l.each in
      let ei = sym (escrow_each escrow_rows) ∙ e.each in
      let right = and_right (every has_identities escrow_rows) _ ei in
      let tags = and_right (every has_identity log_rows) _ li in
      record {
        places = counted.identities;
        heaps = lent.heap_bytes;
        shared = length-replicate {A = ℕ} 1024 0;
        runs = and_left (running_taken b) _ p;
        map = eqb-true _ _ (and_left (eqb b.taken (taken_map b.identities)) _ p₁);
        empty = and_left (empty_heaps_zero b.identities (chunks 16 heaps)) true p₂;
        log = l.stands;
        escrow = e.stands;
        log_short = l.short_rows;
        escrow_short = e.short_rows;
        log_identities = and_left (every has_identity log_rows) _ li;
        escrow_identities = and_left (every has_identities escrow_rows) _ ei;
        pairs_differ = sym (pairs_differ _ tags) ∙ l.apart;
        tags = tags;
        handles_differ = sym (handles_differ _) ∙ e.apart;
        marks = and_left (every right_mark escrow_rows) _ right;
        lengths = and_right (every right_mark escrow_rows) _ right;
      }

  facts_parts : Facts t → parts ≡ true
  unfolding parts t places_sound log_sound escrow_sound state_of pass
  facts_parts f =
      let log_rows = take b.log.rows log in
      let escrow_rows = take b.escrow.rows escrow in
      let l =
      facts_table log_table (log_row_right log_values) same_logged log log_values b.log
      (record {
        stands = f.log;
        short_rows = f.log_short;
        each =
            log_each log_values log_rows b.log.bytes (omega (arith, f.log.fits, lent.log_bytes)) f.log.chain
            ∙ and_true _ _ f.log_identities f.tags;
        apart = pairs_differ _ f.tags ∙ f.pairs_differ;
      }) in
      let e =
      facts_table escrow_table escrow_row_right same_handle escrow escrow_values b.escrow
      (record {
        stands = f.escrow;
        short_rows = f.escrow_short;
        each = escrow_each escrow_rows ∙ and_true _ _ f.escrow_identities (and_true _ _ f.marks f.lengths);
        apart = handles_differ _ ∙ f.handles_differ;
      }) in
      rw (f.runs, eq-eqb _ _ f.map, f.empty, l, e)

  sizes : sizes_right t 1024 ≡ true
  unfolding sizes_right tables_sized pass t
  sizes =
      rw (
        eq-eqb _ _ counted.identities,
        eq-eqb _ _ lent.heap_bytes,
        eq-eqb _ _ counted.log_rows,
        eq-eqb _ _ lent.log_bytes,
        eq-eqb _ _ counted.escrow_rows,
        eq-eqb _ _ lent.escrow_bytes,
      )

  parts_sound : parts ≡ sound t
  parts_sound =
      same_truth parts (sound t) (λ h. (facts_sound t (parts_facts h)).box)
      (λ h. facts_parts (facts t 1024 (record { sizes = sizes; box = h })))

  pub sound_parts : (shared : List ℕ)
      → places_sound b heaps && (log_sound log log_values b.log && escrow_sound escrow escrow_values b.escrow)
      ≡ sound (lent_tables b log escrow heaps shared log_values escrow_values)
  unfolding parts t sound sound_tests state_of
  sound_parts shared = parts_sound
