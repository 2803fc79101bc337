-- Each kind of call puts a row by the counts, or by a release, or none. Assumes nothing.
use Prim.Native.Nat.{ℕ}
use mathlib.Core.Path.{◌≡◌, refl, ap}
use mathlib.Core.List.{List}
use Rattle.record.specs.declared.Draw.{Draw}
use Rattle.record.specs.declared.Handle.{Handle}
use Rattle.ideal.specs.declared.BoxRecord.{BoxRecord}
use Rattle.ideal.specs.declared.LogRow.{LogRow}
use Rattle.ideal.specs.declared.EscrowRow.{EscrowRow}
use Rattle.ideal.specs.Layouts.{Sound}
use Rattle.ideal.specs.Tables.{lent_tables}
use Rattle.state.specs.declared.Answer.{Answer}
use Rattle.state.specs.declared.Change.{Change}
use Rattle.state.specs.Edits.{unchanged, EditsBy, Stored, stored}
use Rattle.state.proofs.Edited.{counts_kept, no_edits_lem}
use Rattle.services.specs.Narrow.{create_on, exit_on, hand_over_on}
use Rattle.attesting.specs.Narrow.{attest_on}
use Rattle.attesting.proofs.Bridge.{attest_edits}
use Rattle.escrow.specs.Narrow.{protect_on}
use Rattle.escrow.proofs.Bridge.{protect_edits}
use Rattle.release.specs.Narrow.{release_on}
use Rattle.release.proofs.Bridge.{release_edits}
use Rattle.calls.proofs.Ready.{ready}

abbrev Edited : BoxRecord → List EscrowRow → Change → Type 0
Edited b escrow r = EditsBy b escrow r.held r.edits

module _ {b : BoxRecord} {escrow : List EscrowRow} {r : Change} where
  pub none_put : {a : Answer} → r ≡ unchanged b a → Edited b escrow r
  none_put e = rw e (no_edits_lem b escrow b refl refl)

  pub create_put : (p i : ℕ) → r ≡ create_on b p i → Edited b escrow r
  unfolding create_on
  create_put p i e = rw e (counts_kept _ b escrow _ refl refl)

  pub hand_over_put : (p : ℕ) → r ≡ hand_over_on b p → Edited b escrow r
  unfolding hand_over_on
  hand_over_put p e = rw e (counts_kept _ b escrow _ refl refl)

  pub exit_put : r ≡ exit_on b → Edited b escrow r
  unfolding exit_on
  exit_put e = rw e (counts_kept _ b escrow _ refl refl)

  module _ {log : List LogRow} {heaps shared lv ev : List ℕ} {n : ℕ} (s : Sound (lent_tables b log escrow heaps shared lv ev) n) where
    pub attest_put : (o k : ℕ) {left : List ℕ} → stored r left ≡ attest_on b log heaps lv o k → Edited b escrow r
    attest_put o k e = rw (ap (λ (x : Stored). x.change) e) (attest_edits b log escrow heaps lv o k (ready s).runs (ready s).log.few)

    pub protect_put : (i o k : ℕ) (d : Draw) {left : List ℕ} → stored r left ≡ protect_on b escrow heaps ev i o k d → Edited b escrow r
    protect_put i o k d e = rw (ap (λ (x : Stored). x.change) e) (protect_edits b escrow heaps ev i o k d (ready s).runs (ready s).escrow.few)

    pub release_put : (i : ℕ) (h : Handle) {left : List ℕ} → stored r left ≡ release_on b escrow ev i h → Edited b escrow r
    release_put i h e = rw (ap (λ (x : Stored). x.change) e) (release_edits b escrow ev i h (ready s).escrow.few (ready s).escrow_count)
