-- What the reader finds, and what the first test says, of the whole box. Assumes nothing.
use Prim.Native.Nat.{ℕ, zero, suc}
use mathlib.Core.Path.{◌≡◌, refl, ap, ◌∙◌}
use mathlib.Core.Bool.{◌&&◌, true, false, cond, true≢false}
use mathlib.Core.List.{List}
use lib.ListN.{length}
use lib.Dec.{eqb}
use borrow.Author.Tests.{eqb-true}
use Rattle.record.specs.Call.{Call}
use Rattle.record.specs.declared.Call as code
use Rattle.std.specs.Prelude.{Result, Ok}
use Rattle.record.specs.declared.Read as found
use Rattle.record.specs.declared.Unread.{Unread}
use Rattle.record.specs.Read.{refused, read}
use Rattle.record.specs.Meaning.{call_in, reading_in}
use Rattle.ideal.specs.State.{State}
use Rattle.ideal.specs.Step.{refusal, refuse, refused_answer, accepted, settle, step_by, reading_by, step_on_by}
use Rattle.ideal.specs.Tables.{Tables, state_of}
use Rattle.ideal.specs.Soundness.{pass, tables_sized, sizes_right, sound}
use Rattle.ideal.specs.Box.{laid, unsound, box_by, output_after}
use Rattle.ideal.specs.Layouts.{Sound}
use Rattle.ideal.specs.declared.Profile.{Profile}
use Rattle.ideal.specs.LevelOne.{refusal_in, box_of}
use Rattle.lists.proofs.Bools.{and_left, and_right}
use Rattle.ideal.proofs.Laid.{valid_sound, tables_state}
use Rattle.ideal.specs.declared.BoxRecord.{BoxRecord}
use Rattle.ideal.specs.declared.LogRow.{LogRow}
use Rattle.ideal.specs.declared.EscrowRow.{EscrowRow}
use Rattle.state.specs.declared.Answer.{Answer}
use Rattle.state.specs.declared.Change.{Change}
use Rattle.state.specs.Edits.{unchanged}
use Rattle.soundness.specs.Parts.{Lent}
use Rattle.calls.specs.Entry.{EntryResult, result_of, with_used, result_on, entry_on, ready_on, sound_on, carried_in, carried_on}
use Rattle.levels.specs.Narrow.{own_refusal}
use Rattle.levels.proofs.Bridge.{refused_in}

-- a refusal that comes before any call
abbrev pub refused_on : Tables → (code number : ℕ) → (output : List ℕ) → EntryResult
refused_on t code number output =
    record { tables = t; answer = record { code = code; number = number; used = 0; shown = 0 }; output = output }

-- of a record with so many bytes
abbrev used_is : ℕ → EntryResult → EntryResult
used_is used x =
    record {
      tables = x.tables;
      answer = record { code = x.answer.code; number = x.answer.number; used = used; shown = x.answer.shown };
      output = x.output;
    }

-- a call with an answer alone puts no row
pub nothing_put : {b : BoxRecord} {log : List LogRow} {escrow : List EscrowRow} {heaps shared lv ev output : List ℕ} {r : Change} {x : EntryResult} {a : Answer}
    → r ≡ unchanged b a → result_of log escrow (unchanged b a) heaps shared lv ev output ≡ x → result_of log escrow r heaps shared lv ev output ≡ x
nothing_put e h = rw e h

-- the same of a record of so many bytes
pub with_used_lem : (log : List LogRow) (escrow : List EscrowRow) {heaps shared lv ev output : List ℕ} {r c : Change} {used : ℕ} {x y : EntryResult}
    → r ≡ with_used c used → result_of log escrow c heaps shared lv ev output ≡ y → used_is used y ≡ x → result_of log escrow r heaps shared lv ev output ≡ x
with_used_lem log escrow {used = used} e h w = rw e (ap (used_is used) h ∙ w)

-- ---- what the reader finds

settled_used : (t : Tables) (c : Call) (used : ℕ) (output : List ℕ) (r : ℕ)
    → used_is used (result_on (laid (settle r (state_of t) c 0)) output) ≡ result_on (laid (settle r (state_of t) c used)) output
unfolding result_on laid settle refuse refused_answer accepted output_after
settled_used t c used output zero = refl
settled_used t c used output (suc r) = refl

pub whole_read : (p : Profile) (t : Tables) (bytes output : List ℕ) (r : Result found.Read Unread) → reading_in bytes r ≡ read bytes
    → (x : found.Read) → r ≡ Ok x → used_is x.used (carried_in p t (call_in bytes x.call) output) ≡ sound_on p t bytes output
unfolding carried_in sound_on step_on_by reading_by step_by
whole_read p t bytes output r h x e =
    rw (← h, e) (settled_used t (call_in bytes x.call) x.used output (refusal_in p (state_of t) (call_in bytes x.call)))

pub refused_read : (p : Profile) {t : Tables} {n : ℕ} → Sound t n → (bytes output : List ℕ) (code number : ℕ)
    → read bytes ≡ refused code number → refused_on t code number output ≡ sound_on p t bytes output
unfolding sound_on step_on_by reading_by result_on laid refuse refused_answer output_after
refused_read p {t} {n} s bytes output code number h = rw (h, tables_state t n s)

-- ---- what a profile refuses itself

-- a refusal that reads no record
refused_call : {t : Tables} {n : ℕ} → Sound t n → (c : Call) (output : List ℕ) (code : ℕ) → eqb code 0 ≡ false
    → refused_on t code 0 output ≡ result_on (laid (settle code (state_of t) c 0)) output
unfolding result_on laid settle refuse refused_answer output_after
refused_call s c output zero h = absurd (true≢false h)
refused_call {t} {n} s c output (suc code) h = rw (tables_state t n s)

module _ {t : Tables} {n : ℕ} (s : Sound t n) (p : Profile) (bytes output : List ℕ) (c : code.Call) {own : ℕ}
    (is : own ≡ own_refusal p t.box t.log_rows t.heaps t.log_values c) where
  refused_is : refusal_in p (state_of t) (call_in bytes c) ≡ cond (eqb own 0) (refusal (state_of t) (call_in bytes c)) own
  refused_is = rw is (refused_in t (valid_sound t n s) (tables_state t n s) p bytes c)

  pub own_refused : eqb own 0 ≡ false → refused_on t own 0 output ≡ carried_in p t (call_in bytes c) output
  unfolding carried_in step_by
  own_refused h = rw (refused_is, h) (refused_call s (call_in bytes c) output own h)

  pub none_refused : eqb own 0 ≡ true → carried_on t (call_in bytes c) output ≡ carried_in p t (call_in bytes c) output
  unfolding carried_in step_by
  none_refused h = rw (refused_is, h)

-- ---- the first test

module _ (refuses : State → Call → ℕ) (t : Tables) (bytes output : List ℕ) where
  pub refused_entry : ready_on t (length output) ≡ false → refused_on t 15 0 output ≡ entry_on (box_by refuses) t bytes output
  unfolding ready_on entry_on box_by unsound result_on refused_answer output_after
  refused_entry h = rw h

pub sound_entry : (p : Profile) (t : Tables) (bytes output : List ℕ) → Sound t (length output)
    → sound_on p t bytes output ≡ entry_on (box_of p) t bytes output
unfolding entry_on box_by sound_on
sound_entry p t bytes output s = rw (s.sizes, s.box)

pub ready_sound : (t : Tables) (n : ℕ) → ready_on t n ≡ true → Sound t n
unfolding ready_on
ready_sound t n h =
    record { sizes = and_left (sizes_right t n) (sound t) h; box = and_right (sizes_right t n) (sound t) h }

pub unready : (t : Tables) (n : ℕ) → sizes_right t n && sound t ≡ false → ready_on t n ≡ false
unfolding ready_on
unready t n h = h

pub not_ready : (t : Tables) (n : ℕ) → ready_on t n ≡ false → sizes_right t n && sound t ≡ false
unfolding ready_on
not_ready t n h = h

pub sizes_lent : (t : Tables) (n : ℕ) → sizes_right t n ≡ true → Lent t.heaps t.log_values t.escrow_values
unfolding sizes_right tables_sized pass
sizes_lent t n h =
    let h₁ = and_right (eqb (length t.box.identities) 16) _ (and_left (tables_sized t) _ h) in
    let h₂ = and_right (eqb (length t.heaps) 4096) _ h₁ in
    let h₃ = and_right (eqb (length t.shared) 1024) _ h₂ in
    let h₄ = and_right (eqb (length t.log_rows) 64) _ h₃ in
    let h₅ = and_right (eqb (length t.log_values) 4096) _ h₄ in
    let h₆ = and_right (eqb (length t.escrow_rows) 64) _ h₅ in
    record {
      heap_bytes = eqb-true _ _ (and_left (eqb (length t.heaps) 4096) _ h₁);
      log_bytes = eqb-true _ _ (and_left (eqb (length t.log_values) 4096) _ h₄);
      escrow_bytes = eqb-true _ _ (and_left (eqb (length t.escrow_values) 4096) _ h₆);
    }
