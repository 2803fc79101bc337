-- A check alters nothing and shows nothing, whatever the box answers: by what is stated of one call and of refusals.
-- Assumes nothing.
use mathlib.Core.Path.{◌≡◌, ◌∙◌, ap}
use mathlib.Core.Bool.{cond}
use Rattle.std.proofs.Common.{Ok, Err}
use mathlib.Core.List.{List, []}
use Prim.Native.Nat.{ℕ, ◌<◌, ◌^◌}
use lib.ListN.{length}
use lib.Dec.{eqb}
use borrow.Author.Tests.{eqb-true, eqb-false}
use Rattle.lists.proofs.Bools.{by_cases}
use Rattle.record.specs.Write.{write}
use Rattle.ideal.specs.declared.BoxRecord.{BoxRecord}
use Rattle.ideal.specs.declared.LogRow.{LogRow}
use Rattle.ideal.specs.declared.EscrowRow.{EscrowRow}
use Rattle.ideal.specs.Tables.{Tables, lent_tables}
use Rattle.ideal.specs.Box.{Result, call_on, output_after}
use Rattle.ideal.specs.OneCall.{leaves, shows}
use Rattle.ideal.proofs.Demanded.{demands}
use Rattle.state.specs.declared.Change.{Change}
use Rattle.calls.specs.declared.Buffers.{Buffers}
use Rattle.calls.specs.Buffers.{tables_in, result_in}
use Rattle.calls.specs.Entry.{EntryResult, result_on, entry_on}
use Rattle.desk.specs.declared.Claim.{Claim}
use Rattle.desk.specs.Decision.{Checked}
use Rattle.desk.specs.Desk.{check_of, check_element, checked_on}
use Rattle.desk.specs.Results.{check_result, check_leaves}
use Rattle.desk.proofs.Record.{reads}

pub record Unaltered (t : Tables) (r : Result) : Type 0 where
  pub tables : r.tables ≡ t
  pub shown : r.answer.shown ≡ []

module _ (t : Tables) (g : Claim) (size : ℕ) (p : g.probe < 2 ^ 64) (x : g.tag.0 < 2 ^ 64) where
  abbrev answered : Result
  answered = call_on t (check_element g size)

  accepted : answered.answer.code ≡ 0 → Unaltered t answered
  unfolding check_element check_of leaves shows
  accepted e =
      let d = demands.two.call.does t (check_element g size) (check_of g) (length (write (check_of g))) (reads g p x) e in
      record { tables = d.leaves; shown = d.shows }

  refused : (answered.answer.code ≡ 0 → ⊥) → Unaltered t answered
  refused n = let r = demands.one.alters_nothing t (check_element g size) n in record { tables = r.tables; shown = r.shown }

  pub unaltered : Unaltered t answered
  unaltered = by_cases (eqb answered.answer.code 0) (λ e. accepted (eqb-true _ _ e)) (λ e. refused (eqb-false _ _ e))

  -- so no output buffer is
  pub output_kept : (out : List ℕ) → output_after answered.answer out ≡ out
  unfolding output_after
  output_kept out = rw unaltered.shown

-- what the entry answers and leaves to a check
module _ (held : BoxRecord) (log : List LogRow) (escrow : List EscrowRow) (l : Buffers) (g : Claim) (p : g.probe < 2 ^ 64) (x : g.tag.0 < 2 ^ 64) where
  abbrev t : Tables
  t = tables_in held log escrow l

  pub checked : (r : Change) (l' : Buffers) (bytes : List ℕ) → bytes ≡ write (check_of g)
      → result_in log escrow r l' ≡ entry_on call_on t bytes l.output.now
      → (c : Checked) → c ≡ cond (eqb r.answer.code 0) (Ok r.answer.number) (Err r.answer.code)
      → check_result c (tables_in held log escrow l') l'.output.now ≡ check_leaves call_on t l.output.now g
  unfolding entry_on result_on checked_on check_element
  checked r l' bytes b e c ec =
      let e' = e ∙ ap (λ (bs : List ℕ). entry_on call_on t bs l.output.now) b in
      let n = length l.output.now in
      let u = ap (λ (a : EntryResult). a.tables) e' ∙ (unaltered t g n p x).tables in
      λ i. record {
        answer = (ec ∙ ap (λ (a : EntryResult). cond (eqb a.answer.code 0) (Ok a.answer.number) (Err a.answer.code)) e') i;
        tables = lent_tables held log escrow (u i).heaps (u i).shared (u i).log_values (u i).escrow_values;
        output = (ap (λ (a : EntryResult). a.output) e' ∙ output_kept t g n p x l.output.now) i;
      }
