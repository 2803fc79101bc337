-- What the box answers to the check, by what is stated of each number.
--     answers_15, answers_9, answers_0    when each code is given
--     row_is_one, no_row_is_none          an accepted check answers 1 or 0, as the log has a row or none
-- Assumes nothing.
use mathlib.Core.Path.{◌≡◌, refl, sym, ap, subst, ◌∙◌}
use mathlib.Core.Bool.{Bool, true, false, not, cond, ◌&&◌}
use mathlib.Core.Logic.{◌⊎◌, inl, inr}
use mathlib.Core.List.{List, [], ◌∷◌, ◌++◌}
use Prim.Native.Nat.{ℕ, ◌<◌, ◌^◌}
use lib.ListN.{length}
use lib.Dec.{eqb}
use borrow.Author.Tests.{eq-eqb, ne_eqb}
use Rattle.lists.proofs.Bools.{by_cases}
use Rattle.fnv.specs.Fnv.{little}
use Rattle.record.specs.Call.{first_in}
use Rattle.record.specs.Layout.{stands, kinds, among, kind_of, map_in, map_of}
use Rattle.record.specs.Read.{from_little}
use Rattle.record.specs.Write.{only, record_of, filled, record_in, write}
use Rattle.ideal.specs.Tables.{Tables, used_log}
use Rattle.ideal.specs.Soundness.{sizes_right, sound}
use Rattle.ideal.specs.Step.{Answer}
use Rattle.ideal.specs.Box.{call_on}
use Rattle.ideal.specs.State.{any}
use Rattle.ideal.specs.Refusals.{First, here, later, none_holds, conditions, conditions_by, on_call_by, of_chain, call_conditions, reader_conditions, is_map, width, ends, cut_field, one_of, is_log_row}
use Rattle.ideal.specs.OneCall.{counted_number}
use Rattle.ideal.proofs.Demanded.{demands}
use Rattle.desk.specs.declared.Claim.{Claim}
use Rattle.desk.specs.Desk.{check_of, check_element}
use Rattle.desk.proofs.Record.{reads}

module _ (t : Tables) (size : ℕ) (g : Claim) (p : g.probe < 2 ^ 64) (x : g.tag.0 < 2 ^ 64) where
  abbrev a : Answer
  a = (call_on t (check_element g size)).answer

  abbrev ready : Bool
  ready = sizes_right t size && sound t

  -- the reader's numbers: none
  abbrev unread : List (ℕ × Bool)
  unread = (1, false) ∷ (2, false) ∷ (1, false) ∷ (2, false) ∷ (3, false) ∷ (1, false) ∷ []

  reader_rows : reader_conditions (write (check_of g)) ≡ unread
  unfolding reader_conditions is_map map_in map_of cut_field ends width one_of any from_little little stands kinds among kind_of only record_of filled record_in write check_of
  reader_rows = refl

  -- the call's: 9, if any
  abbrev uncalled : List (ℕ × Bool)
  uncalled =
      (4, false) ∷ (6, false) ∷ (7, false) ∷ (8, false) ∷ (9, eqb g.probe 0) ∷ (10, false) ∷ (11, false) ∷ (12, false) ∷ (13, false) ∷ (14, false) ∷ []

  call_rows : call_conditions t (check_of g) ≡ uncalled
  unfolding call_conditions of_chain first_in one_of any filled check_of
  call_rows = refl

  rows : conditions t (check_element g size) ≡ (15, not ready) ∷ (unread ++ uncalled)
  unfolding conditions_by on_call_by check_element
  rows = rw (reader_rows, reads g p x, call_rows)

  gives : (n : ℕ) → First n ((15, not ready) ∷ (unread ++ uncalled)) → a.code ≡ n
  gives n f = (demands.one.numbers t (check_element g size) n).1 (subst (First n) (sym rows) f)

  pub answers_15 : ready ≡ false → a.code ≡ 15
  answers_15 e = gives 15 (here (ap not e))

  -- past the reader, on a box that is ready
  past : (n : ℕ) → ready ≡ true → First n uncalled → a.code ≡ n
  past n e f = gives n (later (ap not e) (later refl (later refl (later refl (later refl (later refl (later refl f)))))))

  pub answers_9 : ready ≡ true → g.probe ≡ 0 → a.code ≡ 9
  answers_9 e z = past 9 e (later refl (later refl (later refl (later refl (here (eq-eqb _ _ z))))))

  pub answers_0 : ready ≡ true → (g.probe ≡ 0 → ⊥) → a.code ≡ 0
  answers_0 e z =
      past 0 e (later refl (later refl (later refl (later refl (later (ne_eqb _ _ z) (later refl (later refl (later refl (later refl (later refl (none_holds refl)))))))))))

  -- an accepted check counts the log's rows of that probe, tag and bytes
  abbrev row : Bool
  row = any (is_log_row t.log_values g.probe g.tag (g.low ∷ g.high ∷ [])) (used_log t)

  counts : a.code ≡ 0 → a.number ≡ cond row 1 0
  unfolding counted_number check_of check_element
  counts e = (demands.two.call.does t (check_element g size) (check_of g) (length (write (check_of g))) (reads g p x) e).counted (cond row 1 0) refl

  pub row_is_one : a.code ≡ 0 → row ≡ true → a.number ≡ 1
  row_is_one e h = counts e ∙ ap (λ (b : Bool). cond b 1 0) h

  pub no_row_is_none : a.code ≡ 0 → row ≡ false → a.number ≡ 0
  no_row_is_none e h = counts e ∙ ap (λ (b : Bool). cond b 1 0) h

  pub one_or_none : a.code ≡ 0 → (a.number ≡ 1) ⊎ (a.number ≡ 0)
  one_or_none e = by_cases row (λ h. inl (row_is_one e h)) (λ h. inr (no_row_is_none e h))
