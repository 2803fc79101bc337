-- What the function of each kind leaves and answers on a sound box is the laid-out step of the box's state. Assumes nothing.
use Prim.Native.Nat.{ℕ, zero, suc}
use mathlib.Core.Path.{◌≡◌, refl, sym, ap, ◌∙◌}
use mathlib.Core.List.{List, []}
use Rattle.record.specs.declared.Call as code
use Rattle.record.specs.declared.Call.TheVariants.{Create, Exit, HeapWrite, HeapRead, SharedWrite, SharedRead, Attest, Check, Protect, Retrieve, Report, HandOver, Chain, Release}
use Rattle.record.specs.Call.{Call}
use Rattle.record.specs.Meaning.{bytes_in, link_in, call_in}
use Rattle.ideal.specs.Step.{step_by}
use Rattle.ideal.specs.Tables.{Tables, tables, state_of}
use Rattle.ideal.specs.Box.{Result, laid, output_after}
use Rattle.ideal.specs.Layouts.{Sound}
use Rattle.ideal.specs.Valid.{Valid}
use Rattle.ideal.proofs.HeapBytes.{replace_heaps, replace_shared}
use Rattle.ideal.proofs.Laid.{valid_sound, tables_state}
use Rattle.state.specs.declared.Answer.{Answer}
use Rattle.state.specs.declared.Change.{Change}
use Rattle.state.specs.Answers.{settled, showed}
use Rattle.state.proofs.Settled.{answer_of, ShowsNone, answered_alone}
use Rattle.state.proofs.Showing.{Shows}
use Rattle.state.proofs.Stores.{on_log, on_escrow}
use Rattle.services.specs.Narrow.{create_on, exit_on, exit_heaps, report_on, hand_over_on}
use Rattle.services.proofs.Bridge.{replace_places, create_step, exit_step, report_step, hand_over_step}
use Rattle.shared.specs.Narrow.{shared_write_answer, shared_write_shared, shared_read_answer, shared_read_output}
use Rattle.shared.proofs.Bridge.{shared_write_step, shared_read_step}
use Rattle.heap.specs.Narrow.{heap_write_answer, heap_write_heaps, heap_read_answer, heap_read_output}
use Rattle.heap.proofs.Bridge.{heap_write_step, heap_read_step}
use Rattle.attesting.specs.Narrow.{attest_on, check_on}
use Rattle.attesting.proofs.Bridge.{attest_step, attest_alone, check_step}
use Rattle.escrow.specs.Narrow.{protect_on}
use Rattle.escrow.proofs.Bridge.{protect_step, protect_alone}
use Rattle.retrieval.specs.Narrow.{retrieve_answer, retrieve_heaps}
use Rattle.retrieval.proofs.Bridge.{retrieve_step}
use Rattle.chain.specs.Narrow.{chain_answer}
use Rattle.release.specs.Narrow.{release_on}
use Rattle.release.proofs.Bridge.{release_step, release_alone}
use Rattle.chain.proofs.Bridge.{chain_step}
use Rattle.calls.specs.Entry.{EntryResult, result_on, carried_in, carried_on}

-- ---- what each kind leaves and answers

-- the tables left, the answer, the output buffer left
abbrev replied : Tables → Answer → (output : List ℕ) → EntryResult
replied t a output = record { tables = t; answer = a; output = output }

abbrev replied_box : Tables → Change → (heaps output : List ℕ) → EntryResult
replied_box t r heaps output = replied (replace_places t r.held heaps) r.answer output

unfoldable pub by_kind : Tables → (output bytes : List ℕ) → code.Call → EntryResult
by_kind t output bytes (Create p i) = replied_box t (create_on t.box p i) t.heaps output
by_kind t output bytes Exit = replied_box t (exit_on t.box) (exit_heaps t.box t.heaps) output
by_kind t output bytes (HeapWrite p o part) =
    let v = bytes_in bytes part in
    replied (replace_heaps t (heap_write_heaps t.box t.heaps p o v)) (heap_write_answer t.box p o v) output
by_kind t output bytes (HeapRead p o n) =
    replied t (heap_read_answer t.box p o n) (heap_read_output t.box t.heaps output p o n)
by_kind t output bytes (SharedWrite o part) =
    let v = bytes_in bytes part in
    replied (replace_shared t (shared_write_shared t.shared o v)) (shared_write_answer o v) output
by_kind t output bytes (SharedRead o n) = replied t (shared_read_answer o n) (shared_read_output t.shared output o n)
by_kind t output bytes (Attest o n) =
    let r = attest_on t.box t.log_rows t.heaps t.log_values o n in
    replied (on_log t r) r.change.answer output
by_kind t output bytes (Check i g part) =
    replied t (check_on t.box t.log_rows t.log_values i g (bytes_in bytes part)) output
by_kind t output bytes (Protect i o n d) =
    let r = protect_on t.box t.escrow_rows t.heaps t.escrow_values i o n d in
    replied (on_escrow t r) r.change.answer output
by_kind t output bytes (Retrieve i o h) =
    replied (replace_heaps t (retrieve_heaps t.box t.escrow_rows t.heaps t.escrow_values i o h))
    (retrieve_answer t.box t.escrow_rows t.escrow_values i o h) output
by_kind t output bytes Report = replied t (report_on t.box) output
by_kind t output bytes (HandOver p) = replied_box t (hand_over_on t.box p) t.heaps output
by_kind t output bytes (Chain i f part) =
    replied t
    (chain_answer t.box t.log_rows t.escrow_rows t.log_values t.escrow_values (link_in i f) (bytes_in bytes part)) output
by_kind t output bytes (Release i h) =
    let r = release_on t.box t.escrow_rows t.escrow_values i h in
    replied (on_escrow t r) r.change.answer output

-- ---- bytes shown: none but by the reads

shows_none : {x : Result} (t : Tables) (a : Answer) (output : List ℕ) → x ≡ record { tables = t; answer = answer_of a 0 [] } → ShowsNone a
    → replied t a output ≡ result_on x output
unfolding result_on output_after
shows_none t a output e h =
    rw e (λ j. record { tables = t; answer = record { code = a.code; number = a.number; used = h.0 j; shown = h.1 j }; output = output })

showed_unused : (r n : ℕ) → (showed r n).used ≡ 0
unfolding showed settled
showed_unused zero n = refl
showed_unused (suc r) n = refl

shows_bytes : (t : Tables) (c : Call) (a : Answer) (before after : List ℕ) → a.used ≡ 0 → Shows t c 0 a before after
    → replied t a after ≡ carried_on t c before
unfolding carried_in result_on laid step_by
shows_bytes t c a before after u s =
    let q = sym s.answers in
    let unused = u ∙ ap (λ x. x.answer.used) q in
    λ j.
    record {
      tables = (q j).tables;
      answer = record { code = (q j).answer.code; number = (q j).answer.number; used = unused j; shown = s.count j };
      output = s.output j;
    }

-- ---- each kind

module _ (t : Tables) (k : Valid (state_of t)) (e : tables (state_of t) ≡ t) (output bytes : List ℕ) where
  by_kind_valid : (c : code.Call) → by_kind t output bytes c ≡ carried_on t (call_in bytes c) output
  unfolding by_kind call_in carried_in create_on exit_on heap_write_answer heap_read_answer shared_write_answer shared_read_answer check_on retrieve_answer report_on hand_over_on chain_answer
  by_kind_valid (Create p i) = shows_none _ _ output (create_step t k e p i 0) (answered_alone _ _)
  by_kind_valid Exit = shows_none _ _ output (exit_step t k e 0) (answered_alone _ _)
  by_kind_valid (HeapWrite p o part) =
      shows_none _ _ output (heap_write_step t k e p o (bytes_in bytes part) 0) (answered_alone _ _)
  by_kind_valid (HeapRead p o n) = shows_bytes t _ _ output _ (showed_unused _ n) (heap_read_step t k e p o n output 0)
  by_kind_valid (SharedWrite o part) =
      shows_none _ _ output (shared_write_step t k e o (bytes_in bytes part) 0) (answered_alone _ _)
  by_kind_valid (SharedRead o n) = shows_bytes t _ _ output _ (showed_unused _ n) (shared_read_step t k e o n output 0)
  by_kind_valid (Attest o n) = shows_none _ _ output (attest_step t k e o n 0) (attest_alone t.box _ _ _ o n)
  by_kind_valid (Check i g part) = shows_none _ _ output (check_step t k e i g (bytes_in bytes part) 0) (answered_alone _ _)
  by_kind_valid (Protect i o n d) = shows_none _ _ output (protect_step t k e i o n d 0) (protect_alone t.box _ _ _ i o n d)
  by_kind_valid (Retrieve i o h) = shows_none _ _ output (retrieve_step t k e i o h 0) (answered_alone _ _)
  by_kind_valid Report = shows_none _ _ output (report_step t k e 0) (answered_alone _ _)
  by_kind_valid (HandOver p) = shows_none _ _ output (hand_over_step t k e p 0) (answered_alone _ _)
  by_kind_valid (Chain i f part) = shows_none _ _ output (chain_step t e (link_in i f) (bytes_in bytes part) 0) (answered_alone _ _)
  by_kind_valid (Release i h) =
      shows_none _ _ output (release_step t k e i h 0) (release_alone t.box t.escrow_rows t.escrow_values i h)

-- what is as `by_kind` says is the laid-out step
pub by_kind_lem : {x : EntryResult} {t : Tables} {n : ℕ} → Sound t n → (output bytes : List ℕ) (c : code.Call)
    → x ≡ by_kind t output bytes c → x ≡ carried_on t (call_in bytes c) output
by_kind_lem {t} {n} s output bytes c h = h ∙ by_kind_valid t (valid_sound t n s) (tables_state t n s) output bytes c
