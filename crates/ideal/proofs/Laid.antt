-- The laws by which proofs go between a state and its tables: the tables of a valid state are sound and stand for it, and
-- sound tables stand for a valid state and are its tables. Assumes nothing.
use Prim.Native.Nat.{ℕ, ◌≤◌, ◌<◌}
use mathlib.Core.Path.{◌≡◌, refl, sym, ap, ◌∙◌}
use mathlib.Core.Bool.{Bool, true, false, not, ◌&&◌, cond}
use mathlib.Core.List.{List}
use native.Mathlib.Omega.{arith}
use lib.ListN.{get_or, take, replicate}
use lib.Dec.{eqb, ltb}
use borrow.Author.Tests.{eqb-true, eqb-false, ltb-true, ne_eqb, lt-ltb, not-true}
use Rattle.ideal.specs.declared.BoxRecord.{BoxRecord}
use Rattle.ideal.specs.declared.Used.{Used}
use Rattle.ideal.specs.State.{Entry, State, cleared, fresh, every, bytes_used}
use Rattle.ideal.specs.Step.{Stepped, refuse, step_on}
use Rattle.ideal.specs.Tables.{Tables, RowsOf, log_table, escrow_table, padded, values_of, rows_from, rows_of, entries_of, taken_map, flat, chunks, box_record, tables, used_log, used_escrow, state_of, fresh_tables}
use Rattle.ideal.specs.Soundness.{sizes_right, running_taken, short, has_identity, has_identities, right_tag, right_mark, differ, same_pair, same_handle, sound}
use Rattle.ideal.specs.Box.{Element, laid, call_on, unsound, box_by}
use Rattle.ideal.specs.Layouts.{Sound, LayoutsAgree}
use Rattle.lists.proofs.Bools.{by_cases, and_left, and_right, and_true, or_true_left, or_true_right, not_is}
use Rattle.ideal.specs.Valid.{Valid}
use Rattle.ideal.proofs.Entries.{Good, LogGood, EscrowGood, log_of_lem, escrow_of_lem, Places, valid}
use Rattle.ideal.proofs.Table.{Lawful, Stands, held, used_rows, entries_back, laid_out, rows_of_entries, entry_count, byte_count, rows_back, values_back, log_lawful, escrow_lawful}
use Rattle.ideal.proofs.Heaps.{flat_length, chunks_flat, flat_chunks, chunks_length, chunks_sized, flat_replicate, cleared_is, empty_zero, zero_empty}
use Rattle.ideal.proofs.OwnHeap.{sized}
use Rattle.ideal.proofs.Facts.{short_tests, log_tests, escrow_tests, Facts, facts, output_size_lem, facts_sound}

-- ---- the tables of a valid state

module _ (s : State) (k : Valid s) where
  heaps_back : chunks 16 (flat s.heaps) ≡ s.heaps
  heaps_back =
      ap (λ n. chunks n (flat s.heaps)) (sym k.heaps) ∙ chunks_flat s.heaps (sized s k)

  pub state_tables : state_of (tables s) ≡ s
  unfolding state_of tables box_record
  state_tables = λ i.
      record {
        identities = s.identities;
        running = s.running;
        heaps = heaps_back i;
        shared = s.shared;
        log = entries_back log_lawful s.log i;
        escrow = entries_back escrow_lawful s.escrow i;
      }

  running_taken_lem : running_taken (box_record s) ≡ true
  unfolding running_taken box_record
  running_taken_lem =
      by_cases (eqb s.running 16)
      (λ e. or_true_left _ _ e)
      (λ e.
      let n = eqb-false s.running 16 e in
      let m = k.runs in
      let l : s.running < 16 = omega arith in
      or_true_right (eqb s.running 16) _ (and_true _ _ (lt-ltb _ _ l) (not_is _ (ne_eqb _ _ (k.live l)))))

  tables_facts : Facts (tables s)
  unfolding tables box_record
  tables_facts =
      let l = log_of_lem k in
      let e = escrow_of_lem k in
      let log-used = used_rows log_lawful s.log in
      let escrow-used = used_rows escrow_lawful s.escrow in
      let log_good = sym (log_tests s.log) ∙ l.good in
      let escrow_good = sym (escrow_tests s.escrow) ∙ e.good in
      let escrow-right = and_right (every has_identities (rows_from escrow_table 0 s.escrow)) _ escrow_good in
      record {
        places = k.places;
        heaps = flat_length s.heaps (sized s k) ∙ rw k.heaps;
        shared = k.shared;
        runs = running_taken_lem;
        map = refl;
        empty =
            rw heaps_back
            (empty_zero s.identities s.heaps (k.places ∙ sym k.heaps) (λ p h. k.empty p (omega (arith, k.places))));
        log = laid_out log_lawful s.log l.few l.fits;
        escrow = laid_out escrow_lawful s.escrow e.few e.fits;
        log_short = rw log-used (short_tests log_lawful s.log ∙ l.short);
        escrow_short = rw escrow-used (short_tests escrow_lawful s.escrow ∙ e.short);
        log_identities = rw log-used (and_left _ _ log_good);
        escrow_identities = rw escrow-used (and_left _ _ escrow_good);
        pairs_differ = ap (λ x. differ same_pair x.log) state_tables ∙ l.apart;
        tags = ap (λ x. every right_tag x.log) state_tables ∙ and_right (every has_identity (rows_from log_table 0 s.log)) _ log_good;
        handles_differ = ap (λ x. differ same_handle x.escrow) state_tables ∙ e.apart;
        marks = rw escrow-used (and_left _ _ escrow-right);
        lengths = rw escrow-used (and_right (every right_mark (rows_from escrow_table 0 s.escrow)) _ escrow-right);
      }

  pub sound_tables : Sound (tables s) 1024
  sound_tables = facts_sound (tables s) tables_facts

-- ---- the state of sound tables

taken : (b : BoxRecord) → running_taken b ≡ true
    → (b.running ≤ 16) × (b.running < 16 → get_or b.identities b.running 0 ≡ 0 → ⊥)
unfolding running_taken
taken b h =
    let p = b.running in
    let i = get_or b.identities p 0 in
    by_cases (eqb p 16)
    (λ e. let q = eqb-true p 16 e in (omega arith, λ l. absurd (omega arith)))
    (λ e.
    let g : ltb p 16 && not (eqb i 0) ≡ true = rw e at h in
    let l = ltb-true p 16 (and_left (ltb p 16) _ g) in
    (omega arith, λ m. eqb-false i 0 (not-true _ (and_right (ltb p 16) _ g))))

good_held : {Row Key : Type 0} {t : RowsOf Row Key} {rows : List Row} {values : List ℕ} {used : Used} → Lawful t
    → Stands t rows values used → short t (take used.rows rows) ≡ true → {ok : Entry Key → Bool}
    → {same : Entry Key → Entry Key → Bool} → every ok (held t rows values used) ≡ true
    → differ same (held t rows values used) ≡ true → Good ok same (held t rows values used)
good_held {t} {rows} {values} {used} law s h {ok} {same} good apart =
    let n = entry_count law s in
    let m = byte_count law s in
    let few = s.few in
    let fits = s.fits in
    record {
      few = omega arith;
      fits = omega arith;
      short = sym (short_tests law (held t rows values used)) ∙ rw (rows_of_entries law s) h;
      good = good;
      apart = apart;
    }

module _ (t : Tables) (n : ℕ) (h : Sound t n) where
  valid_places : Places t.box.identities t.box.running (chunks 16 t.heaps)
  valid_places =
      let f = facts t n h in
      let sizes = chunks_sized 16 t.heaps f.heaps in
      let count = chunks_length 16 t.heaps in
      let (runs, live) = taken t.box f.runs in
      record {
        places = f.places;
        heaps = count;
        sizes = sizes;
        runs = runs;
        live = live;
        empty = λ p l z.
            cleared_is _ (sizes p l)
            (zero_empty t.box.identities (chunks 16 t.heaps) f.empty p (omega (arith, f.places)) (omega (arith, count)) z);
      }

  valid_log : LogGood (state_of t).log
  unfolding state_of
  valid_log =
      let f = facts t n h in
      let l = entries_of log_table t.log_values (used_log t) in
      let back = rows_of_entries log_lawful f.log in
      good_held log_lawful f.log f.log_short (log_tests l ∙ rw back (and_true _ _ f.log_identities f.tags))
      f.pairs_differ

  valid_escrow : EscrowGood (state_of t).escrow
  unfolding state_of
  valid_escrow =
      let f = facts t n h in
      let l = entries_of escrow_table t.escrow_values (used_escrow t) in
      let back = rows_of_entries escrow_lawful f.escrow in
      good_held escrow_lawful f.escrow f.escrow_short
      (escrow_tests l ∙ rw back (and_true _ _ f.escrow_identities (and_true _ _ f.marks f.lengths))) f.handles_differ

  pub valid_sound : Valid (state_of t)
  unfolding state_of
  valid_sound = valid (state_of t) valid_places (facts t n h).shared valid_log valid_escrow

  pub tables_state : tables (state_of t) ≡ t
  unfolding tables state_of box_record
  tables_state =
      let f = facts t n h in
      λ i.
      record {
        box =
            record {
              taken = sym f.map i;
              running = t.box.running;
              identities = t.box.identities;
              log = record { rows = entry_count log_lawful f.log i; bytes = byte_count log_lawful f.log i };
              escrow = record { rows = entry_count escrow_lawful f.escrow i; bytes = byte_count escrow_lawful f.escrow i };
            };
        heaps = flat_chunks 16 t.heaps (omega (arith, f.heaps)) i;
        shared = t.shared;
        log_rows = rows_back log_lawful f.log i;
        log_values = values_back log_lawful f.log i;
        escrow_rows = rows_back escrow_lawful f.escrow i;
        escrow_values = values_back escrow_lawful f.escrow i;
      }

pub layouts_agree : LayoutsAgree
layouts_agree = tables_state

-- ---- a fresh box

pub fresh_tables_lem : fresh_tables ≡ tables fresh
unfolding fresh_tables tables box_record fresh cleared values_of rows_of rows_from padded bytes_used taken_map
fresh_tables_lem = λ i.
    record {
      box = box_record fresh;
      heaps = sym (flat_replicate 16 256 0) i;
      shared = replicate 1024 0;
      log_rows = replicate 64 log_table.blank;
      log_values = replicate 4096 0;
      escrow_rows = replicate 64 escrow_table.blank;
      escrow_values = replicate 4096 0;
    }

-- ---- one element on the state

-- 15 where the output buffer isn't of its size
unfoldable pub step_element : State → Element → Stepped
step_element s e = cond (eqb e.output_size 1024) (step_on s e.bytes) (refuse s 15 0 0)

-- only the output buffer can be of another size
pub ready_is : (s : State) (n : ℕ) → Valid s → sizes_right (tables s) n && sound (tables s) ≡ eqb n 1024
ready_is s n k =
    let g = sound_tables s k in
    by_cases (eqb n 1024)
    (λ x.
    let z : sizes_right (tables s) n ≡ true = rw (eqb-true n 1024 x) g.sizes in
    rw (x, z, g.box))
    (λ x.
    let z : sizes_right (tables s) n ≡ false =
    by_cases (sizes_right (tables s) n) (λ y. absurd (eqb-false n 1024 x (output_size_lem (tables s) n y))) (λ y. y) in
    rw (x, z))

pub call_is : (s : State) (e : Element) → Valid s → call_on (tables s) e ≡ laid (step_element s e)
unfolding box_by step_element laid unsound refuse
call_is s e k =
    rw (ready_is s e.output_size k, state_tables s k) (by_cases (eqb e.output_size 1024) (λ x. rw x) (λ x. rw x))
