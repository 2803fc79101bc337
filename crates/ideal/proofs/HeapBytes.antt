-- One heap of a state and the lent bytes of all heaps: a part of the one is a part of the other, and a store to the one a
-- store to the other. Assumes nothing.
use Prim.Native.Nat.{ℕ, ◌+◌, ◌*◌, ◌≤◌, ◌<◌}
use mathlib.Core.Path.{◌≡◌, sym, ap, ◌∙◌}
use mathlib.Core.List.{List, [], append-nil}
use native.Mathlib.Omega.{arith}
use native.Mathlib.Nat.{zero-add}
use lib.ListN.{length, get_or, set, drop_of_length-le}
use lib.Seq.{sets, sets-eq}
use Rattle.ideal.specs.State.{writes, shares, part, own_part}
use Rattle.ideal.specs.Step.{apply}
use Rattle.ideal.specs.Valid.{Valid}
use Rattle.ideal.specs.Tables.{Tables, flat, box_record, tables, state_of}
use Rattle.ideal.proofs.Heaps.{Sized}
use Rattle.ideal.proofs.OwnHeap.{flat_sets, sized, own_bytes_lem as own-part, own_written}
use Rattle.ideal.specs.Refusals.{own_bytes}
use Rattle.ideal.specs.Accuracy.{with_own_bytes}

-- a store of the whole list
sets_whole : (v a : List ℕ) → length v ≡ length a → sets a 0 v ≡ v
sets_whole v a e =
    let d : length a ≤ length v = omega arith in
    sets-eq v a 0 (omega arith) ∙ rw (zero-add (length v), drop_of_length-le a d, append-nil v)

-- a whole heap replaced, as an exit does
pub flat_set : (hs : List (List ℕ)) → Sized hs → (p : ℕ) (v : List ℕ) → p < length hs → length v ≡ 256
    → flat (set hs p v) ≡ sets (flat hs) (256 * p) v
flat_set hs k p v h e =
    let z : 256 * p + 0 ≡ 256 * p = omega arith in
    let w = sets_whole v (get_or hs p []) (e ∙ sym (k p h)) in
    rw (← z) (rw w at (flat_sets hs p 0 v k h (omega arith)))

-- ---- the host's tables

abbrev pub replace_heaps : Tables → List ℕ → Tables
replace_heaps t l =
    record {
      box = t.box;
      heaps = l;
      shared = t.shared;
      log_rows = t.log_rows;
      log_values = t.log_values;
      escrow_rows = t.escrow_rows;
      escrow_values = t.escrow_values;
    }

abbrev pub replace_shared : Tables → List ℕ → Tables
replace_shared t m =
    record {
      box = t.box;
      heaps = t.heaps;
      shared = m;
      log_rows = t.log_rows;
      log_values = t.log_values;
      escrow_rows = t.escrow_rows;
      escrow_values = t.escrow_values;
    }

module _ (t : Tables) (k : Valid (state_of t)) (e : tables (state_of t) ≡ t) where
  -- the place that runs has the 256 bytes from 256 times it
  pub own_bytes_lem : (o n : ℕ) → t.box.running < 16 → o + n ≤ 256
      → own_part (state_of t) o n ≡ part t.heaps (256 * t.box.running + o) n
  unfolding state_of
  own_bytes_lem o n h f = sym (own-part (state_of t) k h o n f) ∙ ap (λ x. own_bytes x o n) e

  -- bytes written to the running heap, by a heap write or a retrieve
  pub written_bytes : (o : ℕ) (v : List ℕ) → t.box.running < 16 → o + length v ≤ 256
      → tables (apply (state_of t) (writes t.box.running o v)) ≡ replace_heaps t (sets t.heaps (256 * t.box.running + o) v)
  unfolding state_of with_own_bytes
  written_bytes o v h f = own_written (state_of t) k h o v f ∙ ap (λ x. with_own_bytes x o v) e

  -- the running heap replaced
  pub replaced_bytes : (v : List ℕ) → t.box.running < 16 → length v ≡ 256
      → flat (set (state_of t).heaps t.box.running v) ≡ sets t.heaps (256 * t.box.running) v
  unfolding tables
  replaced_bytes v h n =
      flat_set (state_of t).heaps (sized (state_of t) k) t.box.running v (omega (arith, k.heaps)) n
      ∙ ap (λ x. sets x.heaps (256 * t.box.running) v) e

  pub shared_bytes : (o : ℕ) (v : List ℕ) → tables (apply (state_of t) (shares o v)) ≡ replace_shared t (sets t.shared o v)
  unfolding apply tables box_record state_of
  shared_bytes o v = ap (λ x. replace_shared x (sets t.shared o v)) e
