-- What a check says of history. Assumes nothing.
use Prim.Native.Nat.{ℕ, suc, ◌<◌}
use mathlib.Core.Path.{◌≡◌, refl, sym, ◌∙◌, ap}
use mathlib.Core.Bool.{Bool, true, false, cond}
use mathlib.Core.List.{List, [], ◌∷◌}
use lib.ListN.{length}
use lib.Dec.{eqb, leb}
use native.Mathlib.Omega.{arith}
use borrow.Author.Tests.{eqb-false, ne_eqb, leb-true}
use Rattle.fnv.specs.declared.Tag.{Tag}
use Rattle.record.specs.Call.{Call, attest, check}
use Rattle.record.specs.Read.{whole, read}
use Rattle.ideal.specs.State.{State, Logged, any, every, same_bytes}
use Rattle.ideal.specs.Step.{is_logged, logged, tests, first_holding, refusal, number, accepted}
use Rattle.ideal.specs.Tables.{state_of}
use Rattle.ideal.specs.Box.{Element, laid, call_on, element_at}
use Rattle.ideal.specs.Accuracy.{LogsAt, Says, Sized, CheckAt, CheckIsAccurate, LongCheckIsNo}
use Rattle.lists.proofs.Bools.{by_cases, clash, and_left, and_right, and_false, or_false}
use Rattle.lists.proofs.Lists.{same_bytes_lem}
use Rattle.ideal.proofs.Entries.{is_short, short_entries}
use Rattle.ideal.proofs.Facts.{output_size_lem}
use Rattle.ideal.proofs.Laid.{valid_sound, tables_state, call_is}
use Rattle.ideal.proofs.Passing.{failed}
use Rattle.ideal.proofs.Runs.{state_before, valid_before, caller_before, accepted_at_lem, accepts_at, accepted_call, Accepted, number_at_lem}
use Rattle.ideal.proofs.Does.{attest_passed}
use Rattle.ideal.proofs.Logs.{logged_since}

check_refusal : (s : State) (i : ℕ) (g : Tag) (v : List ℕ) → (i ≡ 0 → ⊥) → refusal s (check i g v) ≡ 0
unfolding refusal tests first_holding
check_refusal s i g v h = rw (ne_eqb i 0 h)

check_named : (s : State) (i : ℕ) (g : Tag) (v : List ℕ) → refusal s (check i g v) ≡ 0 → i ≡ 0 → ⊥
unfolding refusal tests
check_named s i g v h = eqb-false i 0 (failed 8 _ _ h)

-- who logs has an identity
pub logs_named : (es : List Element) (k i : ℕ) (g : Tag) (v : List ℕ) → LogsAt call_on es i v g k → i ≡ 0 → ⊥
logs_named es k i g v l e =
    let a = accepted_at_lem es k (attest l.offset l.size) l.used l.reads l.accepts in
    let w = attest_passed (state_before es k) l.offset l.size (valid_before es k) a.passes in
    (valid_before es k).live w.runs (sym (caller_before es k) ∙ l.by ∙ e)

pub same_cond : (n : ℕ) (a b : Bool) → cond a (suc n) 0 ≡ cond b (suc n) 0 → a ≡ b
same_cond n true true e = refl
same_cond n true false e = absurd (omega arith)
same_cond n false true e = absurd (omega arith)
same_cond n false false e = refl

module _ (es : List Element) (k i : ℕ) (g : Tag) (v : List ℕ) (used : ℕ)
    (reads : read (element_at es k).bytes ≡ whole (check i g v) used) where
  abbrev s : State
  s = state_before es k

  abbrev c : Call
  c = check i g v

  -- what the log must say for the answer 1, where b is true, or 0
  record Told (b : Bool) : Type 0 where
    sized : Sized call_on es k
    named : i ≡ 0 → ⊥
    log : logged i g v s.log ≡ b

  says : (b : Bool) → Told b → Says call_on es (cond b 1 0) k
  unfolding number
  says b t =
      let a : Accepted s (element_at es k) c used =
      record { sized = t.sized; reads = reads; passes = check_refusal s i g v t.named } in
      (accepts_at es k c used a, number_at_lem es k c used a ∙ ap (λ x. cond x 1 0) t.log)

  said : (b : Bool) → Says call_on es (cond b 1 0) k → Told b
  unfolding number
  said b p =
      let a = accepted_at_lem es k c used reads p.0 in
      let n = sym (number_at_lem es k c used a) ∙ p.1 in
      record { sized = a.sized; named = check_named s i g v a.passes; log = same_cond 0 _ b n }

  pub check_at : CheckAt call_on es k i g v
  check_at =
      let log = logged_since es i g v k in
      record {
        yes = (
          λ p. let q = said true p in (q.sized, log.0 q.log),
          λ p. let x = p.1 in
              says true (record { sized = p.0; named = logs_named es x.index i g v x.there; log = log.1 x }),
        );
        no = (
          λ p. let q = said false p in (q.sized, q.named, λ x. clash _ (log.1 x) q.log),
          λ p. let f = by_cases (logged i g v s.log) (λ t. absurd (p.2 (log.0 t))) (λ f. f) in
              says false (record { sized = p.0; named = p.1; log = f }),
        );
      }

pub check_is_accurate : CheckIsAccurate call_on
check_is_accurate = check_at

-- where no value is longer than 256 bytes, a longer one is not among them
not_logged : (i : ℕ) (g : Tag) (v : List ℕ) (l : List Logged) → 256 < length v
    → every is_short l ≡ true → logged i g v l ≡ false
unfolding logged any every is_logged
not_logged i g v [] long short = refl
not_logged i g v (e ∷ l) long short =
    let fits = leb (length e.value) 256 in
    let few = leb-true (length e.value) 256 (and_left fits _ short) in
    let other : same_bytes e.value v ≡ false =
    by_cases (same_bytes e.value v) (λ y. absurd (omega (arith, ap length (same_bytes_lem e.value v y)))) (λ n. n) in
    or_false (is_logged i g v e) _
    (and_false (eqb e.key.identity i) _ (and_false (eqb e.key.tag.0 g.0) _ other))
    (not_logged i g v l long (and_right fits _ short))

pub long_check_is_no : LongCheckIsNo call_on
unfolding laid accepted number
long_check_is_no t e i g v used reads long ok named =
    let s = state_of t in
    let k = valid_sound t e.output_size ok in
    let step = accepted_call s e (check i g v) used reads (output_size_lem t e.output_size ok.sizes) (check_refusal s i g v named) in
    let q : (call_on t e).answer ≡ (accepted s (check i g v) used).answer =
    ap (λ x. (call_on x e).answer) (sym (tables_state t e.output_size ok)) ∙ ap (λ x. x.answer) (call_is s e k) ∙ ap (λ o. o.answer) step in
    rw (q, not_logged i g v s.log long (short_entries k.log)) (refl, refl)
