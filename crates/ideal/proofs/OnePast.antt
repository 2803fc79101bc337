-- Two boxes that are as one past says are the same. Assumes nothing.
use Prim.Native.Nat.{ℕ, ◌+◌, ◌*◌, ◌/◌, ◌%◌, ◌<◌}
use mathlib.Core.Path.{◌≡◌, sym, ap, ◌∙◌}
use mathlib.Core.Bool.{Bool}
use mathlib.Core.List.{List, [], map}
use native.Mathlib.Omega.{arith}
use lib.ListN.{get_or, length-map, get_or-map}
use lib.Seq.{ext_get_or, get_or-take}
use Rattle.ideal.specs.declared.LogRow.{LogRow}
use Rattle.ideal.specs.declared.EscrowRow.{EscrowRow}
use Rattle.ideal.specs.State.{Logged, Escrowed, Move}
use Rattle.ideal.specs.Tables.{Tables, log_table, escrow_table, entry_of, entries_of, chunks, used_log, used_escrow, tables, state_of}
use Rattle.ideal.specs.History.{byte_at, pairs, protects, LogHolds, EscrowHolds, AsThePast}
use Rattle.ideal.proofs.Left.{left_by, left}
use Rattle.ideal.proofs.Table.{log_lawful, escrow_lawful, entries_length, entry_count}
use Rattle.ideal.proofs.Facts.{Facts, facts}
use Rattle.ideal.proofs.Hosted.{entry_at}
use Rattle.ideal.proofs.Laid.{tables_state}

-- ---- a table's entries

log_entry : {values : List ℕ} {r : LogRow} {e : Logged} → LogHolds values r e → entry_of log_table values r ≡ e
log_entry h = λ i. record { key = record { identity = h.identity i; tag = h.tag i }; value = h.value i }

escrow_entry : {values : List ℕ} {r : EscrowRow} {e : Escrowed} {b : Bool} → EscrowHolds values r e b
    → entry_of escrow_table values r ≡ left_by b e
unfolding left_by
escrow_entry h = λ i.
    record {
      key = record { source = h.source i; recipient = h.recipient i; handle = h.handle i; mark = h.mark i };
      value = h.value i;
    }

module _ {t : Tables} {past : List Move} (a : AsThePast t past) where
  facts_of : Facts t
  facts_of = facts t 1024 a.sound

  log_is : entries_of log_table t.log_values (used_log t) ≡ pairs past
  log_is =
      let d = entry_of log_table [] log_table.blank in
      let n = entry_count log_lawful facts_of.log in
      let m = entries_length log_lawful t.log_values (used_log t) in
      let c = a.log_rows in
      ext_get_or d _ _ (n ∙ c) λ k b.
      entry_at log_table t.log_values (used_log t) d log_table.blank k (omega arith)
      ∙ ap (entry_of log_table t.log_values) (get_or-take t.box.log.rows t.log_rows k log_table.blank (omega arith))
      ∙ log_entry (a.log k d (omega arith))

  escrow_is : entries_of escrow_table t.escrow_values (used_escrow t) ≡ map (left past) (protects past)
  escrow_is =
      let d = entry_of escrow_table [] escrow_table.blank in
      let n = entry_count escrow_lawful facts_of.escrow in
      let m = entries_length escrow_lawful t.escrow_values (used_escrow t) in
      let c = a.escrow_rows in
      ext_get_or (left past d) _ _ (n ∙ c ∙ sym (length-map (protects past) (left past))) λ k b.
      entry_at escrow_table t.escrow_values (used_escrow t) (left past d) escrow_table.blank k (omega arith)
      ∙ ap (entry_of escrow_table t.escrow_values) (get_or-take t.box.escrow.rows t.escrow_rows k escrow_table.blank (omega arith))
      ∙ escrow_entry (a.escrow k d (omega arith)) ∙ sym (get_or-map (left past) (protects past) k d)

  heap_byte_lem : (x : ℕ) → x < 4096 → get_or t.heaps x 0 ≡ byte_at past (x / 256) (x % 256)
  heap_byte_lem x b =
      let e : 256 * (x / 256) + x % 256 ≡ x = omega arith in
      ap (λ y. get_or t.heaps y 0) (sym e) ∙ a.heap (x / 256) (x % 256) (omega arith) (omega arith)

-- ---- two boxes

module _ {t u : Tables} {past : List Move} (a : AsThePast t past) (b : AsThePast u past) where
  same_heaps : t.heaps ≡ u.heaps
  same_heaps =
      let m = (facts_of a).heaps in
      ext_get_or 0 _ _ (m ∙ sym (facts_of b).heaps)
      λ x l. heap_byte_lem a x (omega arith) ∙ sym (heap_byte_lem b x (omega arith))

  same_shared : t.shared ≡ u.shared
  same_shared =
      let m = (facts_of a).shared in
      ext_get_or 0 _ _ (m ∙ sym (facts_of b).shared)
      λ x l. a.shared x (omega arith) ∙ sym (b.shared x (omega arith))

  same_identities : t.box.identities ≡ u.box.identities
  same_identities =
      let m = (facts_of a).places in
      ext_get_or 0 _ _ (m ∙ sym (facts_of b).places)
      λ x l. a.identity x (omega arith) ∙ sym (b.identity x (omega arith))

  same_state : state_of t ≡ state_of u
  unfolding state_of
  same_state =
      let log = log_is a ∙ sym (log_is b) in
      let escrow = escrow_is a ∙ sym (escrow_is b) in
      let running = a.running ∙ sym b.running in
      λ i.
      record {
        identities = same_identities i;
        running = running i;
        heaps = chunks 16 (same_heaps i);
        shared = same_shared i;
        log = log i;
        escrow = escrow i;
      }

  pub one_past : t ≡ u
  one_past = sym (tables_state t 1024 a.sound) ∙ ap tables same_state ∙ tables_state u 1024 b.sound
