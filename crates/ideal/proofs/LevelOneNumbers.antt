-- Level one's numbers: its tests against the conditions on the host's tables, kind by kind. Assumes nothing.
use Prim.Native.Nat.{ℕ, ◌+◌}
use mathlib.Core.Path.{◌≡◌, refl, sym, ap, ◌∙◌}
use mathlib.Core.Bool.{Bool, false, not, ◌&&◌, cond, not-not}
use mathlib.Core.List.{List, [], ◌∷◌}
use native.Mathlib.Nat.{add-zero}
use lib.ListN.{get_or}
use lib.Dec.{eqb, ltb}
use Rattle.record.specs.Call.{Call, create, exit, heap_write, heap_read, shared_write, shared_read, attest, check, protect, retrieve, report, hand_over, chain, release, first_in}
use Rattle.record.specs.Write.{filled}
use Rattle.ideal.specs.State.{State, caller, any}
use Rattle.ideal.specs.Step.{paired, full, first_holding, idle, vacant, beyond, tests, refusal}
use Rattle.ideal.specs.Tables.{Tables, box_record, tables, used_log, state_of}
use Rattle.ideal.specs.Valid.{Valid}
use Rattle.ideal.specs.Layouts.{Sound}
use Rattle.ideal.specs.Refusals.{own_bytes, one_of, of_chain, call_conditions, EachNumberBy}
use Rattle.ideal.specs.LevelOne.{put_after, is_other, logged_other, level_one_tests, level_one_refusal, level_one_on, row_after, holds_other, level_one_rows, level_one_conditions}
use Rattle.lists.proofs.Bools.{by_cases, or_nil}
use Rattle.ideal.proofs.FoundRows.{log_rows, pair_rows}
use Rattle.ideal.proofs.Conditions.{first_of}
use Rattle.ideal.proofs.Memory.{taken_at}
use Rattle.ideal.proofs.OwnHeap.{own_tested}
use Rattle.ideal.proofs.Laid.{valid_sound, state_tables, tables_state}
use Rattle.ideal.proofs.CallNumbers.{call_first}
use Rattle.ideal.proofs.Numbers.{each_number_by}

-- a row put in that does not hold alters nothing
unheld : (n m : ℕ) (cs : List (ℕ × Bool)) → first_of (row_after n (m, false) cs) ≡ first_of cs
unfolding first_of row_after
unheld n m [] = refl
unheld n m (c ∷ cs) = by_cases (eqb c.0 n) (λ h. rw h) (λ h. rw h (ap (cond c.1 c.0) (unheld n m cs)))

-- a state that is read back from its tables
module _ (s : State) (back : state_of (tables s) ≡ s) (valid : Valid s) where
  pub other_rows : (i : ℕ) (w : List ℕ) → any (is_other i w) s.log ≡ any (holds_other (tables s).log_values i w) (used_log (tables s))
  unfolding is_other holds_other
  other_rows i w = log_rows s back (is_other i w)

  -- a kind for which no row is put in
  none_put : (c : Call) → refusal s c ≡ first_of (row_after 6 (22, false) (row_after 11 (23, false) (call_conditions (tables s) c)))
  none_put c = call_first s back valid c ∙ sym (unheld 6 22 _ ∙ unheld 11 23 _)

  -- level one's refusal of a call is the first of its conditions that holds
  pub rows_first : (c : Call) → level_one_refusal s c ≡ first_of (level_one_rows (tables s) c)
  unfolding level_one_refusal level_one_tests level_one_rows first_of filled one_of any
  rows_first (create p i) =
      unfold put_after tests first_holding call_conditions of_chain first_in row_after idle vacant tables box_record in
      rw (taken_at s.identities p, or_nil (ltb 15 p), or_nil (ltb 3 p), or_nil (not (eqb (get_or s.identities p 0) 0)))
  rows_first exit = unfold refusal in none_put exit
  rows_first (heap_write p o w) = unfold refusal in none_put (heap_write p o w)
  rows_first (heap_read p o n) = unfold refusal in none_put (heap_read p o n)
  rows_first (shared_write o w) = unfold refusal in none_put (shared_write o w)
  rows_first (shared_read o n) = unfold refusal in none_put (shared_read o n)
  rows_first (attest o n) =
      unfold put_after tests first_holding call_conditions of_chain first_in row_after idle beyond full logged_other tables box_record in
      let pair = pair_rows s back (caller s) (own_bytes (tables s) o n) in
      let other = other_rows (caller s) (own_bytes (tables s) o n) in
      rw (add-zero n, or_nil (ltb 256 (o + n)))
      (
      own_tested s valid o n (λ w. cond (any (is_other (caller s) w) s.log) 23 (cond (not (paired (caller s) w s.log) && full s.log n) 13 0))
      ∙ (λ j. cond (eqb s.running 16) 4 (cond (ltb 256 (o + n)) 11 (cond (other j) 23 (cond (not (pair j) && full s.log n) 13 0)))))
  rows_first (check i g w) = unfold refusal in none_put (check i g w)
  rows_first (protect i o n d) = unfold first_holding in refl
  rows_first (retrieve i o h) = unfold first_holding in refl
  rows_first report = unfold refusal in none_put report
  rows_first (hand_over p) =
      unfold put_after tests first_holding call_conditions of_chain first_in row_after vacant tables box_record in
      rw (taken_at s.identities p, not-not (eqb (get_or s.identities p 0) 0))
  rows_first (chain first v) = unfold first_holding in refl
  rows_first (release i h) = unfold first_holding in refl

level_one_first : (t : Tables) (n : ℕ) → Sound t n → (c : Call) → level_one_refusal (state_of t) c ≡ first_of (level_one_rows t c)
level_one_first t n h c =
    let v = valid_sound t n h in
    rows_first (state_of t) (state_tables (state_of t) v) v c ∙ ap (λ x. first_of (level_one_rows x c)) (tables_state t n h)

pub each_number : EachNumberBy level_one_on level_one_conditions
each_number = each_number_by level_one_refusal level_one_rows level_one_first
