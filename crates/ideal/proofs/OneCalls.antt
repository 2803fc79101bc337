-- What one accepted call leaves and answers on any sound box. Assumes nothing.
use Prim.Native.Nat.{ℕ, zero, suc, ◌+◌, ◌*◌, ◌-◌, ◌^◌, ◌≤◌, ◌<◌}
use mathlib.Core.Path.{◌≡◌, refl, sym, ap, ◌∙◌}
use mathlib.Core.Bool.{true, false, not, cond}
use mathlib.Core.List.{List, [], ◌∷◌, ◌++◌, map}
use mathlib.Core.Option.{Option, none, some}
use native.Mathlib.Omega.{arith}
use lib.ListN.{length, get_or, set}
use lib.Dec.{eqb, ltb}
use borrow.Author.Tests.{ltb-false, eqb-true, eqb-false, eq-eqb, ne_eqb, not-false}
use Rattle.record.specs.declared.Handle.{Handle}
use Rattle.record.specs.Call.{Call, create, exit, heap_write, heap_read, shared_write, shared_read, attest, check, protect, retrieve, report, hand_over, chain, release}
use Rattle.ideal.specs.State.{Entry, Logged, Escrowed, State, cleared, identity_at, caller, own_part, any, position, bytes_used}
use Rattle.ideal.specs.Step.{paired, full, with_pair, pair_of, is_named, is_escrowed, spent, given_up, found, value_in, protected, vacant, beyond, tests, refusal, move, apply, effect, number, shown, accepted}
use Rattle.ideal.specs.Tables.{taken_map, box_record, tables, used_log, used_escrow, state_of}
use Rattle.ideal.specs.Box.{laid, call_on}
use Rattle.ideal.specs.Valid.{Valid}
use Rattle.ideal.specs.Refusals.{caller_in, is_row, holds_pair, length_in, row_for}
use Rattle.ideal.specs.History.{ones}
use Rattle.ideal.specs.OneCall.{with_places_in, with_shared, with_log_row, with_escrow_row, with_released, leaves, counted_number, shows, AcceptedCalls}
use Rattle.lists.proofs.Bools.{by_cases, and_left, and_other, not_is, or_false_left, or_false_right}
use Rattle.ideal.proofs.Passing.{failed, passed}
use Rattle.ideal.proofs.Does.{busy, own_size, AttestPassed, attest_passed, protect_passed, ReleasePassed, release_passed}
use Rattle.ideal.proofs.Entries.{escrow_of_lem}
use Rattle.ideal.proofs.GivenUp.{given_among}
use Rattle.ideal.proofs.CloseUp.{released_tables}
use Rattle.lists.proofs.Lists.{Split, split}
use Rattle.ideal.proofs.Unique.{present}
use Rattle.ideal.proofs.Table.{log_lawful, escrow_lawful}
use Rattle.ideal.proofs.Kept.{cleared_length}
use Rattle.ideal.proofs.More.{row_added, value_added, counts_raised}
use Rattle.ideal.proofs.Memory.{ones_taken}
use Rattle.ideal.proofs.OwnHeap.{sized, own_bytes_lem, own_written}
use Rattle.ideal.proofs.HeapBytes.{flat_set}
use Rattle.ideal.proofs.FoundRows.{pair_rows, found_row, value_found, position_found, log_found}
use Rattle.ideal.proofs.Links.{chain_count}
use Rattle.ideal.proofs.Laid.{state_tables}
use Rattle.ideal.proofs.Accepts.{on_state}

-- ---- the map of taken places

taken_more : (is : List ℕ) (p i : ℕ) → p < length is → get_or is p 0 ≡ 0 → (i ≡ 0 → ⊥) → taken_map (set is p i) ≡ taken_map is + 2 ^ p
unfolding taken_map
taken_more [] p i h z n = absurd (omega arith)
taken_more (j ∷ is) zero i h z n = rw (ne_eqb i 0 n, eq-eqb j 0 z) (omega arith)
taken_more (j ∷ is) (suc p) i h z n =
    let e : 2 ^ suc p ≡ 2 * 2 ^ p = omega arith in
    rw (taken_more is p i (omega arith) z n, e) (omega arith)

taken_less : (is : List ℕ) (p : ℕ) → p < length is → (get_or is p 0 ≡ 0 → ⊥) → taken_map (set is p 0) + 2 ^ p ≡ taken_map is
unfolding taken_map
taken_less [] p h n = absurd (omega arith)
taken_less (j ∷ is) zero h n = rw (ne_eqb j 0 n) (omega arith)
taken_less (j ∷ is) (suc p) h n =
    let e : 2 ^ suc p ≡ 2 * 2 ^ p = omega arith in
    rw (e, ← taken_less is p (omega arith) n) (omega arith)

-- ---- one entry more

record Room {Key : Type 0} (l : List (Entry Key)) (n : ℕ) : Type 0 where
  rows : length l < 64
  bytes : bytes_used l + n ≤ 4096

room : {Key : Type 0} (l : List (Entry Key)) (n : ℕ) → length l ≤ 64 → full l n ≡ false → Room l n
unfolding full
room l n k f =
    let a = eqb-false (length l) 64 (or_false_left (eqb (length l) 64) _ f) in
    record { rows = omega arith; bytes = ltb-false 4096 _ (or_false_right (eqb (length l) 64) _ f) }

module _ (s : State) where
  log_more : (e : Logged) → e.key.identity ≡ caller s → Room s.log (length e.value)
      → tables (record {
        identities = s.identities;
        running = s.running;
        heaps = s.heaps;
        shared = s.shared;
        log = s.log ++ (e ∷ []);
        escrow = s.escrow;
      })
      ≡ with_log_row (tables s) e.key.tag.0 e.value
  unfolding tables box_record with_log_row
  log_more e q r =
      rw (counts_raised s.log e, row_added log_lawful s.log e r.rows, value_added s.log e r.bytes, ← q)

  escrow_more : (e : Escrowed) → e.key.source ≡ caller s → e.key.mark ≡ 0 → Room s.escrow (length e.value)
      → tables (record {
        identities = s.identities;
        running = s.running;
        heaps = s.heaps;
        shared = s.shared;
        log = s.log;
        escrow = s.escrow ++ (e ∷ []);
      })
      ≡ with_escrow_row (tables s) e.key.recipient e.key.handle.0 e.value
  unfolding tables box_record with_escrow_row
  escrow_more e q m r =
      rw (counts_raised s.escrow e, row_added escrow_lawful s.escrow e r.rows, value_added s.escrow e r.bytes, ← q, m)

none_some : {n : ℕ} → ◌≡◌ {A = Option ℕ} none (some n) → ⊥
none_some q = let z : ◌≡◌ {A = ℕ} 0 1 = cc in omega arith

the_some : {m n : ℕ} → some m ≡ some n → m ≡ n
the_some q = cc

-- ---- a release

-- the entry that a release names, among the others
pub given : (s : State) (i : ℕ) (h : Handle) → Valid s → ReleasePassed s i h → Split (is_escrowed h i (caller s)) s.escrow
unfolding found
given s i h k a =
    let p = is_escrowed h i (caller s) in
    split p s.escrow (present p s.escrow a.there)

pub given_escrow : (s : State) (i : ℕ) (h : Handle) (k : Valid s) (a : ReleasePassed s i h)
    → let g = given s i h k a in
    map (given_up h i (caller s)) s.escrow ≡ g.front ++ (spent g.here ∷ g.rest)
given_escrow s i h k a =
    let g = given s i h k a in
    let named : is_named h i (caller s) g.here ≡ true =
    unfold is_escrowed in and_left (is_named h i (caller s) g.here) _ g.passes in
    ap (map (given_up h i (caller s))) g.is
    ∙ given_among h i (caller s) g.front g.rest g.here (rw g.is at (escrow_of_lem k).apart) named

-- ---- what is left

module _ (s : State) (k : Valid s) where
  pair_there : (v : List ℕ)
      → any (holds_pair (tables s).log_values (caller_in (tables s)) v) (used_log (tables s)) ≡ paired (caller s) v s.log
  unfolding tables box_record
  pair_there v = sym (pair_rows s (state_tables s k) (caller s) v)

  attest_leaves : (o n : ℕ) → AttestPassed s o n → tables (effect s (attest o n)) ≡ leaves (tables s) (number s (attest o n)) (attest o n)
  unfolding effect move apply with_pair leaves number
  attest_leaves o n a =
      let v = own_part s o n in
      let size = own_size s o n k a.runs a.fits in
      let own = own_bytes_lem s k a.runs o n a.fits in
      by_cases (paired (caller s) v s.log)
      (λ e. rw (own, pair_there v, e))
      (λ e.
      let f = and_other (not (paired (caller s) v s.log)) _ (not_is _ e) a.room in
      let r = room s.log n k.log.few f in
      rw (own, pair_there v, e) (log_more s (pair_of (caller s) v) refl (rw size r)))

  exit_leaves : s.running < 16 → tables (effect s exit) ≡ leaves (tables s) (number s exit) exit
  unfolding effect move apply leaves tables box_record with_places_in
  exit_leaves h =
      let less = taken_less s.identities s.running (omega (arith, k.places)) (k.live h) in
      let map : taken_map (set s.identities s.running 0) ≡ taken_map s.identities - 2 ^ s.running = omega arith in
      rw (map, flat_set s.heaps (sized s k) s.running cleared (omega (arith, k.heaps)) cleared_length)

  pub release_leaves : (i : ℕ) (h : Handle) → ReleasePassed s i h
      → tables (effect s (release i h)) ≡ with_released (tables s) (position (is_row h i (caller_in (tables s))) (used_escrow (tables s)))
  unfolding effect move apply
  release_leaves i h a =
      let g = given s i h k a in
      let fits = rw g.is at k.escrow.fits in
      let who : caller_in (tables s) ≡ caller s = unfold tables box_record in refl in
      rw (who, position_found s i h, g.at, given_escrow s i h k a) (released_tables g.front g.rest g.here s g.is fits)

  leaves_is : (c : Call) → refusal s c ≡ 0 → tables (effect s c) ≡ leaves (tables s) (number s c) c
  unfolding effect move leaves refusal tests beyond
  leaves_is (create p i) r =
      unfold apply tables box_record with_places_in vacant in
      let r₁ = passed 5 (ltb 15 p) _ r in
      let h = ltb-false 15 p (failed 5 _ _ r) in
      let empty = eqb-true (identity_at s p) 0 (not-false _ (failed 6 _ _ r₁)) in
      rw (taken_more s.identities p i (omega (arith, k.places)) empty (eqb-false i 0 (failed 8 _ _ (passed 6 _ _ r₁))))
  leaves_is exit r = exit_leaves (busy s k (failed 3 _ _ r))
  leaves_is (heap_write p o v) r =
      own_written s k (busy s k (failed 3 _ _ r)) o v
      (ltb-false 256 (o + length v) (failed 10 _ _ (passed 7 _ _ (passed 5 _ _ (passed 3 _ _ r)))))
  leaves_is (heap_read p o n) r = unfold apply in refl
  leaves_is (shared_write o v) r = unfold apply tables box_record with_shared in refl
  leaves_is (shared_read o n) r = unfold apply in refl
  leaves_is (attest o n) r = attest_leaves o n (attest_passed s o n k r)
  leaves_is (check i g v) r = unfold apply in refl
  leaves_is (protect i o n d) r =
      let a = protect_passed s i o n d k r in
      let size = own_size s o n k a.runs a.fits in
      unfold apply number protected in
      rw (own_bytes_lem s k a.runs o n a.fits)
      (escrow_more s (protected s i o n d) refl refl (rw size (room s.escrow n k.escrow.few a.room)))
  leaves_is (retrieve i o h) r =
      rw (← value_found s i h)
      (own_written s k (busy s k (failed 3 _ _ r)) o (value_in (found s i h))
      (ltb-false 256 _ (failed 10 _ _ (passed 9 _ _ (passed 8 _ _ (passed 3 _ _ r))))))
  leaves_is report r = unfold apply in refl
  leaves_is (hand_over p) r = unfold apply tables box_record with_places_in in refl
  leaves_is (chain first v) r = unfold apply in refl
  leaves_is (release i h) r = release_leaves i h (release_passed s i h k r)

  -- ---- what is answered

  length_found : (i : ℕ) (h : Handle) → length (value_in (found s i h)) ≡ length_in (row_for (tables s) i h)
  unfolding row_for length_in value_in
  length_found i h = found_row s (state_tables s k) length_in (λ x. length (value_in x)) refl (λ e at. refl) i h

  counts : number s report ≡ ones 16 (tables s).box.taken + 256 * (tables s).box.log.rows + 65536 * (tables s).box.escrow.rows
  unfolding number tables box_record
  counts = rw (← ones_taken s.identities, k.places)

  counted : (c : Call) (n : ℕ) → counted_number (tables s) c ≡ some n → number s c ≡ n
  unfolding counted_number number
  counted (create p i) n q = absurd (none_some q)
  counted exit n q = absurd (none_some q)
  counted (heap_write p o v) n q = absurd (none_some q)
  counted (heap_read p o m) n q = absurd (none_some q)
  counted (shared_write o v) n q = absurd (none_some q)
  counted (shared_read o m) n q = absurd (none_some q)
  counted (attest o m) n q = absurd (none_some q)
  counted (check i g v) n q = ap (λ b. cond b 1 0) (log_found s i g v) ∙ the_some q
  counted (protect i o m d) n q = absurd (none_some q)
  counted (retrieve i o h) n q = length_found i h ∙ the_some q
  counted report n q = counts ∙ the_some q
  counted (hand_over p) n q = absurd (none_some q)
  counted (release i h) n q = absurd (none_some q)
  counted (chain first v) n q =
      chain_count s (state_tables s k) 16 first v ∙ the_some q

  shows_is : (c : Call) → refusal s c ≡ 0 → shown s c ≡ shows (tables s) c
  unfolding shown shows refusal tests beyond
  shows_is (create p i) r = refl
  shows_is exit r = refl
  shows_is (heap_write p o v) r = refl
  shows_is (heap_read p o n) r =
      sym (own_bytes_lem s k (busy s k (failed 3 _ _ r)) o n
      (ltb-false 256 (o + n) (failed 10 _ _ (passed 7 _ _ (passed 5 _ _ (passed 3 _ _ r))))))
  shows_is (shared_write o v) r = refl
  shows_is (shared_read o n) r = unfold tables in refl
  shows_is (attest o n) r = refl
  shows_is (check i g v) r = refl
  shows_is (protect i o n d) r = refl
  shows_is (retrieve i o h) r = refl
  shows_is report r = refl
  shows_is (hand_over p) r = refl
  shows_is (chain first v) r = refl
  shows_is (release i h) r = refl

-- ---- the promise, of the definition

pub accepted_calls : AcceptedCalls call_on
unfolding laid accepted
accepted_calls t e c used y z =
    let s = state_of t in
    let o = on_state t e c used y z in
    let n : (call_on t e).answer.number ≡ number s c = ap (λ r. r.answer.number) o.is in
    record {
      leaves = ap (λ r. r.tables) o.is ∙ leaves_is s o.valid c o.passes ∙ rw (o.back, n);
      counted = λ m q. n ∙ counted s o.valid c m (ap (λ x. counted_number x c) o.back ∙ q);
      shows =
          ap (λ r. r.answer.shown) o.is ∙ shows_is s o.valid c o.passes ∙ ap (λ x. shows x c) o.back;
    }
