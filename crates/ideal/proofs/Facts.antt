-- The tests of soundness as plain facts, and the tests of rows as tests of entries. Assumes nothing.
use Prim.Native.Nat.{ℕ, ◌/◌, ◌^◌}
use mathlib.Core.Path.{◌≡◌, refl, sym, ap, ◌∙◌}
use mathlib.Core.Bool.{Bool, true, not, ◌&&◌, cond}
use mathlib.Core.List.{List, [], ◌∷◌}
use lib.ListN.{length}
use lib.Dec.{eqb, leb}
use borrow.Author.Tests.{eqb-true, leb-true, eq-eqb, le-leb}
use Rattle.ideal.specs.State.{Entry, Logged, Escrowed, every}
use Rattle.ideal.specs.Tables.{Tables, RowsOf, log_table, escrow_table, rows_from, taken_map, chunks, used_log, used_escrow, state_of}
use Rattle.ideal.specs.Soundness.{All, done, ◌and◌, pass, tables_sized, sizes_right, running_taken, empty_heaps_zero, short, differ, same_pair, same_handle, has_identity, has_identities, right_tag, right_mark, carries_length, sound_tests, sound}
use Rattle.ideal.specs.Layouts.{Sound}
use Rattle.lists.proofs.Bools.{and_left, and_right, and_true, and_assoc, and_swap}
use Rattle.ideal.proofs.Entries.{is_short, good_logged, good_escrowed}
use Rattle.ideal.proofs.Table.{Lawful, Stands, rows_every, log_lawful, escrow_lawful}

infixr 20 ◌also◌
-- ---- tests in a row

abbrev Each : All → Type 0
Each done = Unit {0}
Each (b and bs) = (b ≡ true) × Each bs

each : (bs : All) → pass bs ≡ true → Each bs
unfolding pass
each done h = tt
each (b and bs) h = (and_left b (pass bs) h, each bs (and_right b (pass bs) h))

◌also◌ : {A B : Type 0} → A → B → A × B
x also y = (x, y)

all_pass : (bs : All) → Each bs → pass bs ≡ true
unfolding pass
all_pass done h = refl
all_pass (b and bs) h = and_true b (pass bs) h.0 (all_pass bs h.1)

-- ---- a test of rows is a test of entries

pub every_both : {A : Type 0} (p q r : A → Bool) → ((a : A) → r a ≡ p a && q a) → (l : List A) → every r l ≡ every p l && every q l
unfolding every
every_both p q r e [] = refl
every_both p q r e (a ∷ l) = rw (e a, every_both p q r e l) (and_swap (p a) (q a) (every p l) (every q l))

pub short_tests : {Row Key : Type 0} {t : RowsOf Row Key} → Lawful t → (l : List (Entry Key))
    → short t (rows_from t 0 l) ≡ every is_short l
unfolding short
short_tests {t} law l =
    rows_every law (λ r. leb (t.size r) 256) is_short
    (λ e at. ap (λ n. leb n 256) (law.size e.key at (length e.value))) 0 l

pub log_tests : (l : List Logged) → every good_logged l ≡ every has_identity (rows_from log_table 0 l) && every right_tag l
unfolding good_logged has_identity
log_tests l =
    let p : Logged → Bool = λ e. not (eqb e.key.identity 0) in
    every_both p right_tag good_logged (λ e. refl) l
    ∙ ap (λ b. b && every right_tag l) (sym (rows_every log_lawful has_identity p (λ e at. refl) 0 l))

pub escrow_tests : (l : List Escrowed)
    → let rows = rows_from escrow_table 0 l in
    every good_escrowed l ≡ every has_identities rows && (every right_mark rows && every carries_length rows)
unfolding good_escrowed has_identities right_mark carries_length
escrow_tests l =
    let p : Escrowed → Bool = λ e. not (eqb e.key.source 0) && not (eqb e.key.recipient 0) in
    let m : Escrowed → Bool = λ e. leb e.key.mark 1 in
    let q : Escrowed → Bool =
    λ e. cond (eqb e.key.mark 0) (eqb (e.key.handle.0 / 2 ^ 48) (length e.value)) (eqb (length e.value) 0) in
    let r : Escrowed → Bool = λ e. m e && q e in
    every_both p r good_escrowed (λ e. sym (and_assoc (not (eqb e.key.source 0)) (not (eqb e.key.recipient 0)) (r e))) l
    ∙ ap (λ b. every p l && b) (every_both m q r (λ e. refl) l)
    ∙ sym
    (rw (
      rows_every escrow_lawful has_identities p (λ e at. refl) 0 l,
      rows_every escrow_lawful right_mark m (λ e at. refl) 0 l,
      rows_every escrow_lawful carries_length q (λ e at. refl) 0 l,
    ))

-- ---- what the tests of soundness say

pub record Facts (t : Tables) : Type 0 where
  pub places : length t.box.identities ≡ 16
  pub heaps : length t.heaps ≡ 4096
  pub shared : length t.shared ≡ 1024
  pub runs : running_taken t.box ≡ true
  pub map : t.box.taken ≡ taken_map t.box.identities
  pub empty : empty_heaps_zero t.box.identities (chunks 16 t.heaps) ≡ true
  pub log : Stands log_table t.log_rows t.log_values t.box.log
  pub escrow : Stands escrow_table t.escrow_rows t.escrow_values t.box.escrow
  pub log_short : short log_table (used_log t) ≡ true
  pub escrow_short : short escrow_table (used_escrow t) ≡ true
  pub log_identities : every has_identity (used_log t) ≡ true
  pub escrow_identities : every has_identities (used_escrow t) ≡ true
  pub pairs_differ : differ same_pair (state_of t).log ≡ true
  pub tags : every right_tag (state_of t).log ≡ true
  pub handles_differ : differ same_handle (state_of t).escrow ≡ true
  pub marks : every right_mark (used_escrow t) ≡ true
  pub lengths : every carries_length (used_escrow t) ≡ true

pub facts : (t : Tables) (n : ℕ) → Sound t n → Facts t
unfolding sizes_right tables_sized sound sound_tests
facts t n s =
    let (places, (heaps, (shared, (log_rows, (log_values, (escrow_rows, (escrow_values, end))))))) = each _ (and_left (tables_sized t) _ s.sizes) in
    let (runs, (map, (empty, (lr, (lb, (er, (eb, (lc, (ec, (ls, (es, (li, (ei, (pairs, (tags, (handles, (marks, (lengths, (lk, (lz, (ek, (ez, last)))))))))))))))))))))) = each _ s.box in
    record {
      places = eqb-true _ _ places;
      heaps = eqb-true _ _ heaps;
      shared = eqb-true _ _ shared;
      runs = runs;
      map = eqb-true _ _ map;
      empty = empty;
      log =
          record {
            row_count = eqb-true _ _ log_rows;
            value_count = eqb-true _ _ log_values;
            few = leb-true _ _ lr;
            fits = leb-true _ _ lb;
            chain = lc;
            blank = lk;
            zero = lz;
          };
      escrow =
          record {
            row_count = eqb-true _ _ escrow_rows;
            value_count = eqb-true _ _ escrow_values;
            few = leb-true _ _ er;
            fits = leb-true _ _ eb;
            chain = ec;
            blank = ek;
            zero = ez;
          };
      log_short = ls;
      escrow_short = es;
      log_identities = li;
      escrow_identities = ei;
      pairs_differ = pairs;
      tags = tags;
      handles_differ = handles;
      marks = marks;
      lengths = lengths;
    }

pub output_size_lem : (t : Tables) (n : ℕ) → sizes_right t n ≡ true → n ≡ 1024
unfolding sizes_right
output_size_lem t n h = eqb-true n 1024 (and_right (tables_sized t) _ h)

pub facts_sound : (t : Tables) → Facts t → Sound t 1024
unfolding sizes_right tables_sized sound sound_tests
facts_sound t f =
    let l = f.log in
    let e = f.escrow in
    record {
      sizes =
          and_true (tables_sized t) _
          (all_pass _
          (eq-eqb _ _ f.places
          also eq-eqb _ _ f.heaps
          also eq-eqb _ _ f.shared
          also eq-eqb _ _ l.row_count
          also eq-eqb _ _ l.value_count
          also eq-eqb _ _ e.row_count
          also eq-eqb _ _ e.value_count
          also tt))
          refl;
      box =
          all_pass _
          (f.runs
          also eq-eqb _ _ f.map
          also f.empty
          also le-leb _ _ l.few
          also le-leb _ _ l.fits
          also le-leb _ _ e.few
          also le-leb _ _ e.fits
          also l.chain
          also e.chain
          also f.log_short
          also f.escrow_short
          also f.log_identities
          also f.escrow_identities
          also f.pairs_differ
          also f.tags
          also f.handles_differ
          also f.marks
          also f.lengths
          also l.blank
          also l.zero
          also e.blank
          also e.zero
          also tt);
    }
