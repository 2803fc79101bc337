-- A box that differs from the definition only where no run comes meets what is said of runs, and falls to what is said of one
-- call. Assumes nothing.
use Prim.Native.Nat.{ℕ, ◌*◌, ◌/◌, ◌^◌}
use mathlib.Core.Path.{◌≡◌, refl, sym, ap, ◌∙◌}
use mathlib.Core.Bool.{Bool, false, true, ◌&&◌}
use mathlib.Core.List.{List, [], ◌∷◌, ◌++◌}
use native.Mathlib.Omega.{arith}
use lib.ListN.{length, get_or, replicate, length-replicate}
use lib.Seq.{take-length}
use lib.Dec.{eqb}
use borrow.Author.Tests.{le-ltb}
use Rattle.record.specs.declared.Handle.{Handle}
use Rattle.record.specs.Call.{Call, report}
use Rattle.record.specs.Layout.{stands, kinds, among, kind_of}
use Rattle.record.specs.Read.{whole, read, from_little, field, contents, bytes_field, fields, read_fields, read_kind, after_map}
use Rattle.record.specs.Write.{write, only, record_of, filled, record_in}
use Rattle.ideal.specs.State.{Escrowed, State, fresh, any, every, bytes_used}
use Rattle.ideal.specs.Step.{is_named, spent, given_up, protected, move, apply, effect, first_holding, tests, refusal, accepted, settle, with_common, reading_by, step_on_by, step_by}
use Rattle.ideal.specs.Tables.{Tables, tables, fresh_tables, state_of}
use Rattle.ideal.specs.Soundness.{differ}
use Rattle.ideal.specs.Box.{Element, laid, call_on, tables_from, tables_after, tables_before}
use Rattle.ideal.specs.OneCall.{with_shared, leaves, AcceptedCalls}
use Rattle.ideal.specs.Valid.{Valid}
use Rattle.ideal.specs.Witness.{element}
use Rattle.ideal.specs.Demands.{SinceFresh}
use Rattle.ideal.specs.Fakes.{kind_in, of_kind, carries_too_much, clears_shared, OnlyOneCallTells}
use Rattle.lists.proofs.Bools.{by_cases, clash, and_true, and_false, and_nil}
use Rattle.ideal.proofs.GivenUp.{any_map}
use Rattle.ideal.proofs.Entries.{good_escrowed, valid, places_of, log_of_lem}
use Rattle.ideal.proofs.Kept.{valid_fresh}
use Rattle.ideal.proofs.Laid.{step_element, state_tables, call_is}
use Rattle.ideal.proofs.Runs.{state_before, valid_before, tables_before_lem}
use Rattle.ideal.proofs.Since.{Fed, since}
use Rattle.ideal.proofs.Escrows.{Protects, protects, entry, Releases, releases, others, more}
use Rattle.ideal.proofs.Handles.{carries_length_lem}
use Rattle.ideal.proofs.FixedRuns.{tables_more}
use Rattle.ideal.proofs.StandIns.{in_full, Reaches, history_kept, reports_kept, handles_once, check_kept, retrieve_kept, release_kept, chain_kept}
use Rattle.ideal.proofs.Faked.{fakes, serves}

-- ---- no run leaves such a row

stays : (h : Handle) (i r : ℕ) (e : Escrowed) → carries_too_much (given_up h i r e) ≡ carries_too_much e
unfolding given_up spent carries_too_much
stays h i r e = by_cases (is_named h i r e) (λ t. rw t) (λ f. rw f)

abbrev ends : (s : State) (c : Call) → Releases s c → Bool
ends s c a = false

less : (s : State) (c : Call) (a : Releases s c)
    → any carries_too_much (effect s c).escrow ≡ any carries_too_much s.escrow && true
unfolding effect move apply
less s c (releases {i = i} {h = h} a) = any_map _ carries_too_much carries_too_much (stays h i _) s.escrow ∙ sym (and_nil _)

fed : Fed Protects Releases entry ends carries_too_much (λ s. s.escrow)
unfolding any fresh
fed = record { empty = refl; others = others; more = more carries_too_much; less = less }

small : (s : State) (c : Call) (a : Protects s c) → Valid s → carries_too_much (entry s c a) ≡ false
unfolding entry carries_too_much
small s c (protects {i = i} {o = o} {n = n} {d = d} a) v =
    let q = carries_length_lem s i o n d v a in
    let f = a.fits in
    le-ltb 256 ((protected s i o n d).key.handle.0 / 2 ^ 48) (omega arith)

none_before : (es : List Element) (k : ℕ) → any carries_too_much (state_before es k).escrow ≡ false
none_before es k =
    by_cases (any carries_too_much (state_before es k).escrow)
    (λ t.
    let a = (since Protects Releases entry ends carries_too_much (λ s. s.escrow) fed es _ _ (λ j. (λ x. x, λ x. x)) (λ j. (λ x. x, λ x. x)) k).0 t in
    clash _ a.there.passes (small _ a.there.call a.there.adds (valid_before es a.index)))
    (λ f. f)

-- ---- what is said of runs

abbrev Reached : Tables → Type 0
Reached t = (es : List Element) × (tables_after call_on es ≡ t)

none_reached : (t : Tables) → Reached t → any carries_too_much (state_of t).escrow ≡ false
unfolding tables_before
none_reached t (es, q) =
    let n = length es in
    let s = state_before es n in
    ap (λ x. any carries_too_much (state_of x).escrow) (sym q ∙ ap (tables_after call_on) (sym (take-length es)) ∙ tables_before_lem es n)
    ∙ ap (λ x. any carries_too_much x.escrow) (state_tables s (valid_before es n)) ∙ none_before es n

as_defined : (t : Tables) (e : Element) → Reached t → clears_shared t e ≡ call_on t e
as_defined t e g = serves _ _ t e (and_false (of_kind 13 t e) _ (none_reached t g))

reaches : Reaches clears_shared (λ t e. ⊥) Reached
unfolding tables_after tables_from
reaches =
    record {
      first = ([], refl);
      next = λ t e g. (
        g.0 ++ (e ∷ []),
        tables_more call_on g.0 (e ∷ []) fresh_tables ∙ ap (λ x. (call_on x e).tables) g.1
            ∙ ap (λ r. r.tables) (sym (as_defined t e g)),
      );
      turn = λ t e g. in_full (as_defined t e g);
    }

since_fresh : SinceFresh clears_shared
since_fresh =
    record {
      checks = λ es k. check_kept reaches es k (λ b. b);
      retrieves = λ es k. retrieve_kept reaches es k (λ b. b);
      releases = λ es k. release_kept reaches es k (λ b. b);
      chains = λ es k. chain_kept reaches es k (λ b. b);
      handles_once = handles_once reaches;
      holds = history_kept reaches;
      reports = reports_kept reaches;
    }

-- ---- what is said of one call

-- a fresh state but for one byte of shared memory and one spent row
unfoldable made : State
made =
    with_common fresh (1 ∷ replicate 1023 0) []
    (record {
      key = record { source = 1; recipient = 1; handle = record { 0 = 257 * 2 ^ 48 }; mark = 1 };
      value = [];
    } ∷ [])

valid_made : Valid made
unfolding made fresh good_escrowed every differ any bytes_used
valid_made =
    valid made (places_of valid_fresh) (length-replicate {A = ℕ} 1024 0) (log_of_lem valid_fresh)
    (record { few = omega arith; fits = omega arith; short = refl; good = refl; apart = refl })

record Computed : Type 0 where
  reads : read (element report).bytes ≡ whole report 2
  code : (step_element made (element report)).answer.code ≡ 0
  much : any carries_too_much made.escrow ≡ true

computed : Computed
unfolding made carries_too_much element step_element stands kinds among kind_of from_little field contents bytes_field fields read_fields read_kind after_map read write only record_of filled record_in any first_holding tests refusal accepted settle step_by reading_by step_on_by
computed = record { reads = refl; code = refl; much = refl }

falls : AcceptedCalls clears_shared → ⊥
unfolding laid leaves with_shared kind_in filled made tables
falls a =
    let c = computed in
    let e = element report in
    let t = tables made in
    let z = ap (λ r. r.answer.code) (call_is made e valid_made) ∙ c.code in
    let test = and_true _ _ (ap (λ x. eqb (kind_in x) 13) c.reads) (ap (λ s. any carries_too_much s.escrow) (state_tables made valid_made) ∙ c.much) in
    let r = fakes _ _ t e z test in
    let same = sym (ap (λ x. x.tables) r) ∙ (a t e report 2 c.reads (ap (λ x. x.answer.code) r ∙ z)).leaves in
    let n : ◌≡◌ {A = ℕ} 0 1 = ap (λ x. get_or x.shared 0 0) same in
    omega arith

pub only_one_call_tells : OnlyOneCallTells
only_one_call_tells = record { since_fresh = since_fresh; falls = falls; shut_out = λ two. falls two.call.does }
