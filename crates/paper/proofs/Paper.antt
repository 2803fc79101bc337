-- The lemmas of specs/Paper.antt, proved of the box; Lemma 3 is in Unretrieved and Schematic. Assumes nothing.
use Prim.Native.Nat.{ℕ, ◌/◌, ◌^◌, ◌<◌}
use mathlib.Core.Path.{◌≡◌, refl, sym, ap, ◌∙◌}
use mathlib.Core.Bool.{true, cond, false≢true}
use mathlib.Core.List.{List}
use mathlib.Core.Option.{none}
use native.Mathlib.Omega.{arith}
use lib.Dec.{eqb, ltb}
use borrow.Author.Tests.{eqb-true, eq-eqb, ltb-true, ltb-false}
use Rattle.record.specs.declared.Handle.{Handle}
use Rattle.record.specs.declared.Draw.{Draw}
use Rattle.record.specs.Call.{attest, protect, retrieve, release}
use Rattle.ideal.specs.Step.{idle, tests, first_holding, refusal}
use Rattle.ideal.specs.Tables.{Tables, state_of, fresh_tables}
use Rattle.ideal.specs.Box.{Element, call_on, element_at, tables_before, answer_at}
use Rattle.ideal.specs.Refusals.{own_bytes}
use Rattle.ideal.specs.Accuracy.{EarlierNot, ProtectsAt, ReleasesAt, candidate, handle_used, FirstFree}
use Rattle.paper.specs.Paper.{Command, iattest, icheck, iprotect, iretrieve, irelease, Response, truth, value, fails, behaviour, needs_service, Lemma1-1, Lemma1-2, Lemma2-1, Lemma2-2, OnlyServices, Definition1, Gives, Assumption-i, Assumption-ii, Assumption-iii}
use Rattle.lists.proofs.Bools.{by_cases, clash}
use Rattle.ideal.proofs.Runs.{state_before, running_before, code_at}
use Rattle.ideal.proofs.Checks.{check_at}
use Rattle.ideal.proofs.Retrieves.{retrieve_at, handed}
use Rattle.ideal.proofs.Free.{handle_size}
use Rattle.ideal.proofs.Handles.{handle_once}
use Rattle.ideal.proofs.FirstFree.{gives, handle_is_first_free}
use Rattle.paper.proofs.Behaviours.{event_of_lem}
use Rattle.paper.proofs.Events.{EventOf, fails?, event_at_lem, earlier, event_earlier, event_earlier_not, none_between, sized, reads_as, gave, logs_at, protects_at, releases_at, caller_is, runs_none, gave_it, attest_event, check_event, protect_event, retrieve_event, release_event, after_retrieve}

-- ---- Definition 1

pub definition1 : Definition1 call_on
unfolding behaviour
definition1 =
    record {
      attests = λ es k p v τ l. event_of_lem call_on es fresh_tables k _ (attest_event es k p v τ l);
      checks = λ es k p n used τ v reads z. event_of_lem call_on es fresh_tables k _ (check_event es k p n used τ v reads z);
      protects = λ es k p q η v l. event_of_lem call_on es fresh_tables k _ (protect_event es k p q η v l);
      retrieves = λ es k p o used η v reads h. event_of_lem call_on es fresh_tables k _ (retrieve_event es k p o used η v reads h);
      releases = λ es k p q η l. event_of_lem call_on es fresh_tables k _ (release_event es k p q η l);
    }

-- ---- the lemmas

pub lemma1_1 : Lemma1-1 call_on
unfolding answer_at
lemma1_1 es i j v p τ q r l a b =
    let x = event_at_lem es i _ a in
    let y = event_at_lem es j _ b in
    let c = check_at es y.index p τ v y.seen.used (reads_as es j _ _ _ y _ y.seen.did.was) in
    let says =
    c.yes.1
    (sized es j _ _ _ y, record { index = x.index; before = earlier es i j _ _ x y l; there = logs_at es i v p τ x }) in
    sym y.seen.did.result ∙ gave_it _ _ says.0 ∙ ap (λ n. truth (eqb n 1)) says.1

pub lemma1_2 : Lemma1-2 call_on
unfolding answer_at fails?
lemma1_2 es j v p τ q b =
    let y = event_at_lem es j _ b in
    let c = check_at es y.index p τ v y.seen.used (reads_as es j _ _ _ y _ y.seen.did.was) in
    let g = gave es j _ _ _ y refl in
    let e = g.is in
    let one : eqb (answer_at call_on es y.index).number 1 ≡ true = cc in
    let x = (c.yes.0 (g.accepts, eqb-true _ 1 one)).1 in
    event_earlier es j _ y x.index _ x.before (attest_event es x.index p v τ x.there)

pub lemma2_1 : Lemma2-1 call_on
unfolding answer_at
lemma2_1 es i j v p q η o r l a b kept fits =
    let x = event_at_lem es i _ a in
    let y = event_at_lem es j _ b in
    let k = y.index in
    let c = retrieve_at es k p o η y.seen.used (reads_as es j _ _ _ y _ y.seen.did.was) in
    let by = caller_is (tables_before call_on es k) q y.seen.did.principal in
    let out =
    (c.hands_out v).1 (
      sized es j _ _ _ y,
      rw by
          (record {
            index = x.index;
            before = earlier es i j _ _ x y l;
            there = protects_at es i v p q η x;
            since = λ m f g d. none_between es i j _ _ x y _ kept m f g (release_event es m p q η d);
          }),
      fits,
    ) in
    sym y.seen.did.result ∙ gave_it _ _ out.accepts.0 ∙ ap value (after_retrieve es k o v out)

pub lemma2_2 : Lemma2-2 call_on
unfolding answer_at fails?
lemma2_2 es j v p q η o b =
    let y = event_at_lem es j _ b in
    let k = y.index in
    let reads = reads_as es j _ _ _ y _ y.seen.did.was in
    let g = gave es j _ _ _ y refl in
    let e = g.is in
    let out = handed es k p o η y.seen.used reads g.accepts in
    let w : own_bytes (call_on (tables_before call_on es k) (element_at es k)).tables o (answer_at call_on es k).number ≡ v = cc in
    let same : out.value ≡ v = sym (after_retrieve es k o out.value out.is) ∙ w in
    let by = caller_is (tables_before call_on es k) q y.seen.did.principal in
    let x : EarlierNot (ProtectsAt call_on es p q η v) (ReleasesAt call_on es p q η) k =
    rw (same, by) at (((retrieve_at es k p o η y.seen.used reads).hands_out out.value).0 out.is).1 in
    event_earlier_not es j _ y _ _ _ _ (λ m. protect_event es m p q η v) (λ m. releases_at es m p q η) x

-- no service runs
none_runs : (es : List Element) (j : ℕ) (c : Command) (r : Response)
    (y : EventOf es j (record { command = c; principal = none; result = r }))
    → idle (state_before es y.index) ≡ true
unfolding idle
none_runs es j c r y =
    eq-eqb _ 16 (sym (running_before es y.index) ∙ runs_none (tables_before call_on es y.index) y.seen.did.principal)

gives_four : (code : ℕ) (x r : Response) → cond (eqb code 0) x (fails code) ≡ r → code ≡ 4 → r ≡ fails 4
gives_four code x r h e = sym h ∙ rw e

pub only_services : OnlyServices call_on
unfolding needs_service answer_at refusal tests first_holding
only_services es i (iattest v) r n h =
    let y = event_at_lem es i _ h in
    let w = y.seen.did.was in
    let code = code_at es y.index (attest w.offset w.size) y.seen.used (reads_as es i _ _ _ y _ w.call)
    (sized es i _ _ _ y) in
    gives_four _ _ r y.seen.did.result (code ∙ rw (none_runs es i _ r y))
only_services es i (icheck p v τ) r n h = absurd (false≢true n)
only_services es i (iprotect q v) r n h =
    let y = event_at_lem es i _ h in
    let w = y.seen.did.was in
    let c = protect q w.offset w.size w.draw in
    let code = code_at es y.index c y.seen.used (reads_as es i _ _ _ y _ w.call) (sized es i _ _ _ y) in
    gives_four _ _ r y.seen.did.result (code ∙ rw (none_runs es i _ r y))
only_services es i (iretrieve p η o) r n h =
    let y = event_at_lem es i _ h in
    let code = code_at es y.index (retrieve p o η) y.seen.used (reads_as es i _ _ _ y _ y.seen.did.was)
    (sized es i _ _ _ y) in
    gives_four _ _ r y.seen.did.result (code ∙ rw (none_runs es i _ r y))
only_services es i (irelease p η) r n h =
    let y = event_at_lem es i _ h in
    let code = code_at es y.index (release p η) y.seen.used (reads_as es i _ _ _ y _ y.seen.did.was)
    (sized es i _ _ _ y) in
    gives_four _ _ r y.seen.did.result (code ∙ rw (none_runs es i _ r y))

-- ---- the assumptions on handles

first_free_of : (t : Tables) (n : ℕ) (d : Draw) (η : ℕ) → Gives call_on t n d η → FirstFree t n d.0 (record { 0 = η })
first_free_of t n d η g =
    rw g.gets at (handle_is_first_free t g.element g.recipient g.offset n d g.used g.reads g.accepts)

-- a draw that one box passes over is not what another, with the same handles in use, stops at
not_passed : (t u : Tables) (n d : ℕ) (a b : Handle) → ((h : Handle) → handle_used t h ≡ handle_used u h)
    → (f : FirstFree t n d a) (g : FirstFree u n d b) → f.passed < g.passed → ⊥
not_passed t u n d a b same f g l =
    clash (handle_used u (candidate n d f.passed)) (g.used f.passed l)
    (sym (same _) ∙ ap (handle_used t) (sym f.is) ∙ f.free)

pub assumption_i : Assumption-i call_on
assumption_i t u n d η ζ same x y =
    let f = first_free_of t n d η x in
    let g = first_free_of u n d ζ y in
    let e : f.passed ≡ g.passed =
    by_cases (ltb f.passed g.passed)
    (λ q. absurd (not_passed t u n d.0 _ _ same f g (ltb-true _ _ q)))
    (λ q.
    by_cases (ltb g.passed f.passed)
    (λ r. absurd (not_passed u t n d.0 _ _ (λ h. sym (same h)) g f (ltb-true _ _ r)))
    (λ r. let a = ltb-false f.passed g.passed q in let b = ltb-false g.passed f.passed r in omega arith)) in
    ap (λ h. h.0) (f.is ∙ ap (candidate n d.0) e ∙ sym g.is)

handle_of_lem : (t : Tables) (n : ℕ) (d : Draw) (η : ℕ) → Gives call_on t n d η → η / 2 ^ 48 ≡ n
handle_of_lem t n d η g =
    let f = gives t g.element g.recipient g.offset n d g.used g.reads g.accepts in
    let s = handle_size n d (state_of t).escrow f.few f.small in
    rw (← g.gets, f.is) s

pub assumption_ii : Assumption-ii call_on
assumption_ii t u n m d c η x y = sym (handle_of_lem t n d η x) ∙ handle_of_lem u m c η y

pub assumption_iii : Assumption-iii call_on
assumption_iii = record { no_re_use = handle_once; resamples = handle_is_first_free }
