-- A call's tests against the conditions on the host's tables, kind by kind. Assumes nothing.
use Prim.Native.Nat.{◌+◌}
use mathlib.Core.Path.{◌≡◌, refl, ap, ◌∙◌}
use mathlib.Core.Bool.{not, ◌&&◌, cond, not-not}
use native.Mathlib.Omega.{arith}
use native.Mathlib.Nat.{zero-add, add-zero}
use lib.ListN.{length, get_or}
use lib.Dec.{eqb, ltb}
use Rattle.record.specs.Call.{Call, create, exit, heap_write, heap_read, shared_write, shared_read, attest, check, protect, retrieve, report, hand_over, chain, release, first_in}
use Rattle.record.specs.Write.{filled}
use Rattle.ideal.specs.State.{State, caller, any}
use Rattle.ideal.specs.Step.{paired, full, absent, value_in, first_holding, idle, vacant, beyond, tests, refusal}
use Rattle.ideal.specs.Tables.{box_record, tables, state_of}
use Rattle.ideal.specs.Valid.{Valid}
use Rattle.ideal.specs.Refusals.{own_bytes, one_of, is_absent, length_in, of_chain, call_conditions}
use Rattle.lists.proofs.Bools.{or_nil}
use Rattle.ideal.proofs.FoundRows.{pair_rows, found_row}
use Rattle.ideal.proofs.Links.{chain_first}
use Rattle.ideal.proofs.Conditions.{first_of}
use Rattle.ideal.proofs.Memory.{taken_at}
use Rattle.ideal.proofs.OwnHeap.{own_tested}

-- a state that is read back from its tables
module _ (s : State) (back : state_of (tables s) ≡ s) (valid : Valid s) where
  -- a call's refusal is the first of its conditions that holds
  pub call_first : (c : Call) → refusal s c ≡ first_of (call_conditions (tables s) c)
  unfolding refusal tests first_holding first_of call_conditions of_chain first_in filled one_of any idle vacant beyond full tables box_record is_absent absent length_in value_in
  call_first (create p i) = rw (taken_at s.identities p, or_nil (ltb 15 p), or_nil (not (eqb (get_or s.identities p 0) 0)))
  call_first exit = refl
  call_first (heap_write p o w) = rw (zero-add (length w), or_nil (ltb 15 p), or_nil (ltb 256 (o + length w)))
  call_first (heap_read p o n) = rw (add-zero n, or_nil (ltb 15 p), or_nil (ltb 256 (o + n)))
  call_first (shared_write o w) = rw (zero-add (length w), or_nil (ltb 1024 (o + length w)))
  call_first (shared_read o n) = rw (add-zero n, or_nil (ltb 1024 (o + n)))
  call_first (attest o n) =
      rw (add-zero n, or_nil (ltb 256 (o + n)))
      (
      own_tested s valid o n (λ w. cond (not (paired (caller s) w s.log) && full s.log n) 13 0)
      ∙ ap (λ x. cond (eqb s.running 16) 4 (cond (ltb 256 (o + n)) 11 (cond (not x && full s.log n) 13 0))) (pair_rows s back (caller s) (own_bytes (tables s) o n)))
  call_first (check i g w) = refl
  call_first (protect i o n d) = rw (add-zero n, or_nil (ltb 256 (o + n)))
  call_first (retrieve i o h) =
      rw (found_row s back is_absent absent refl (λ e at. refl) i h, found_row s back length_in (λ x. length (value_in x)) refl (λ e at. refl) i h)
  call_first report = refl
  call_first (hand_over p) = rw (taken_at s.identities p, not-not (eqb (get_or s.identities p 0) 0))
  call_first (chain first v) =
      ap (cond (idle s) 4) (chain_first s back 16 first v (omega arith))
  call_first (release i h) = rw (found_row s back is_absent absent refl (λ e at. refl) i h)
