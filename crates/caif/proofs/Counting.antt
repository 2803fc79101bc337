-- Rows that no sound box has are refused; and a refusal leaves the box record. Assumes nothing.
use Prim.Native.Nat.{ℕ}
use mathlib.Core.Path.{◌≡◌, sym, ap, ◌∙◌}
use mathlib.Core.Bool.{false, true≢false}
use lib.Dec.{eqb}
use mathlib.Core.List.{List}
use lib.ListN.{length}
use Rattle.ideal.specs.declared.BoxRecord.{BoxRecord}
use Rattle.ideal.specs.declared.Profile.{Profile}
use Rattle.ideal.specs.declared.Profile.TheVariants.{Full, LevelOne}
use Rattle.ideal.specs.declared.LogRow.{LogRow}
use Rattle.ideal.specs.declared.EscrowRow.{EscrowRow}
use Rattle.ideal.specs.LevelOne.{refusal_in, box_of}
use Rattle.ideal.specs.Tables.{Tables, lent_tables}
use Rattle.state.specs.Answers.{refused_with}
use Rattle.calls.specs.Entry.{EntryResult, EntryRefuses, ready_on, entry_on}
use Rattle.calls.proofs.Whole.{refused_entry}
use Rattle.calls.proofs.Refuses.{entry_refuses, level_one_refuses}
use Rattle.caif.specs.declared.LentReply.{LentReply}
use Rattle.caif.specs.Lent.{lent_result}

pub refused_result : (p : Profile) (b : BoxRecord) (log_rows : List LogRow) (escrow_rows : List EscrowRow) (heaps shared lv ev output bytes : List ℕ)
    → ready_on (lent_tables b log_rows escrow_rows heaps shared lv ev) (length output) ≡ false
    → lent_result (record { held = b; answer = refused_with 15 }) log_rows escrow_rows heaps shared lv ev output
    ≡ entry_on (box_of p) (lent_tables b log_rows escrow_rows heaps shared lv ev) bytes output
refused_result p b log_rows escrow_rows heaps shared lv ev output bytes e =
    refused_entry (refusal_in p) (lent_tables b log_rows escrow_rows heaps shared lv ev) bytes output e

refuses_in : (p : Profile) → EntryRefuses (box_of p)
refuses_in Full = entry_refuses
refuses_in LevelOne = level_one_refuses

pub refused_leaves : (p : Profile) (b : BoxRecord) (log_rows : List LogRow) (escrow_rows : List EscrowRow) (heaps shared lv ev output bytes : List ℕ) (r : LentReply)
    {logRows' : List LogRow} {escrowRows' : List EscrowRow} {heaps' shared' lv' ev' output' : List ℕ}
    → lent_result r logRows' escrowRows' heaps' shared' lv' ev' output' ≡ entry_on (box_of p) (lent_tables b log_rows escrow_rows heaps shared lv ev) bytes output
    → (r.answer.code ≡ 0 → ⊥) → r.held ≡ b
refused_leaves p b log_rows escrow_rows heaps shared lv ev output bytes r e refused =
    ap (λ (x : EntryResult). x.tables.box) e
    ∙ ap (λ (t : Tables). t.box) (refuses_in p (lent_tables b log_rows escrow_rows heaps shared lv ev) bytes output (λ z. refused (ap (λ (x : EntryResult). x.answer.code) e ∙ z))).tables

pub not_zero : (n : ℕ) → eqb n 0 ≡ false → n ≡ 0 → ⊥
not_zero n e z = true≢false (sym (ap (λ (m : ℕ). eqb m 0) z) ∙ e)
