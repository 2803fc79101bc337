-- An attest on a level-one box: 23 exactly where its program has logged another value, and so each logs one. Assumes nothing.
use Prim.Native.Nat.{ℕ, ◌+◌, ◌≤◌, ◌<◌}
use mathlib.Core.Path.{◌≡◌, refl, sym, ap, ◌∙◌, subst}
use mathlib.Core.Logic.{◌↔◌}
use mathlib.Core.Bool.{Bool, true, false, not, ◌&&◌, cond}
use mathlib.Core.List.{List}
use native.Mathlib.Omega.{arith}
use lib.ListN.{get_or}
use lib.Dec.{eqb, ltb}
use borrow.Author.Tests.{eqb-true, eqb-false, eq-eqb, ne_eqb, ltb-true, ltb-false, le-ltb, not-true}
use Rattle.fnv.specs.declared.Tag.{Tag}
use Rattle.record.specs.Call.{attest}
use Rattle.record.specs.Read.{whole, read}
use Rattle.ideal.specs.State.{Logged, State, caller, own_part, any, same_bytes}
use Rattle.ideal.specs.Step.{is_logged, logged, pair_of, paired, full, idle, beyond, tests, first_holding}
use Rattle.ideal.specs.Tables.{Tables, box_record, tables}
use Rattle.ideal.specs.Box.{Element, Result, element_at, tables_before, answer_at}
use Rattle.ideal.specs.Refusals.{caller_in, own_bytes}
use Rattle.ideal.specs.Accuracy.{LogsAt, Sized, Runs}
use Rattle.ideal.specs.LevelOne.{put_after, is_other, logged_other, level_one_tests, level_one_refusal, level_one_on}
use Rattle.ideal.specs.LevelOneDemands.{OtherBefore, AttestYields, OneValueEach}
use Rattle.lists.proofs.Bools.{by_cases, and_left, and_right, and_true, not_is, clash}
use Rattle.lists.proofs.Lists.{same_bytes_lem, same_bytes_refl, any_at, at_any}
use Rattle.ideal.proofs.LevelOneHistory.{Either, turns, s, valid, before, code_at, all_one}
use Rattle.ideal.proofs.Befores.{back_before, logged_too}
use Rattle.ideal.proofs.OwnHeap.{own_bytes_lem}
use Rattle.ideal.proofs.Does.{busy}
use Rattle.ideal.proofs.Logs.{is_logged_lem, logged_is, logged_since}
use Rattle.ideal.proofs.StandIns.{fs, before as before-calls}

-- ---- another value in the log

other_bytes : (v w : List ℕ) → (v ≡ w → ⊥) → same_bytes v w ≡ false
other_bytes v w f = by_cases (same_bytes v w) (λ y. absurd (f (same_bytes_lem v w y))) (λ n. n)

same_not : (v w : List ℕ) → same_bytes v w ≡ false → v ≡ w → ⊥
same_not v w n q = clash (same_bytes v w) (rw q (same_bytes_refl w)) n

module _ {box : Tables → Element → Result} {One : Element → Type 0} (either : (t : Tables) (e : Element) → Either box One t e)
    (es : List Element) (k i : ℕ) (v : List ℕ) where
  abbrev log : List Logged
  log = (s either es k).log

  other_logged : any (is_other i v) log ≡ true → OtherBefore box es k i v
  unfolding is_other logged
  other_logged h =
      let p = any_at (is_other i v) log h in
      let d = pair_of i v in
      let r = get_or log p.index d in
      let named = eqb-true r.key.identity i (and_left (eqb r.key.identity i) _ (p.passes d)) in
      let differs = not-true _ (and_right (eqb r.key.identity i) _ (p.passes d)) in
      let there = at_any (is_logged i r.key.tag r.value) log d p.index p.within
      (logged_is i r.key.tag r.value r (record { identity = named; tag = refl; value = refl })) in
      record {
        value = r.value;
        tag = r.key.tag;
        logged = logged_too (before-calls (turns either) es k) ((logged_since (fs (turns either) es) i r.key.tag r.value k).0 there);
        other = same_not r.value v differs;
      }

  logged_other_lem : OtherBefore box es k i v → any (is_other i v) log ≡ true
  unfolding is_other logged
  logged_other_lem x =
      let g = x.tag in
      let w = x.value in
      let p = any_at (is_logged i g w) log ((logged_since (fs (turns either) es) i g w k).1 (logged_too (back_before (before-calls (turns either) es k)) x.logged)) in
      let d = pair_of i v in
      let is = is_logged_lem i g w _ (p.passes d) in
      at_any (is_other i v) log d p.index p.within
      (and_true _ _ (eq-eqb _ _ is.identity) (not_is _ (other_bytes _ v (λ q. x.other (sym is.value ∙ q)))))

-- ---- its refusal

-- none runs, the part lies beyond the heap, another value is logged, the log is full
numbered : (none far other full : Bool) → ℕ
numbered none far other full = cond none 4 (cond far 11 (cond other 23 (cond full 13 0)))

refusal_is : (s : State) (o n : ℕ)
    → level_one_refusal s (attest o n)
    ≡ numbered (idle s) (beyond 256 o n) (logged_other s o n) (not (paired (caller s) (own_part s o n) s.log) && full s.log n)
unfolding level_one_refusal level_one_tests put_after tests first_holding numbered
refusal_is s o n = refl

is_23 : (a b c d : Bool) → numbered a b c d ≡ 23 → (a ≡ false) × (b ≡ false) × (c ≡ true)
unfolding numbered
is_23 true b c d q = absurd (omega arith)
is_23 false true c d q = absurd (omega arith)
is_23 false false true d q = (refl, refl, refl)
is_23 false false false true q = absurd (omega arith)
is_23 false false false false q = absurd (omega arith)

is_0 : (a b c d : Bool) → numbered a b c d ≡ 0 → (a ≡ false) × (b ≡ false)
unfolding numbered
is_0 true b c d q = absurd (omega arith)
is_0 false true c d q = absurd (omega arith)
is_0 false false c d q = (refl, refl)

-- ---- at an index

module _ {box : Tables → Element → Result} {One : Element → Type 0} (either : (t : Tables) (e : Element) → Either box One t e)
    (es : List Element) (k o n : ℕ) where
  abbrev t : State
  t = s either es k

  runs_at : idle t ≡ false → Runs box es k
  unfolding idle tables box_record
  runs_at h q = eqb-false _ 16 h (ap (λ x. x.box.running) (sym (before either es k)) ∙ q)

  at_runs : Runs box es k → idle t ≡ false
  unfolding idle tables box_record
  at_runs f = ne_eqb _ 16 (λ q. f (ap (λ x. x.box.running) (before either es k) ∙ q))

  caller_at : caller_in (tables_before box es k) ≡ caller t
  unfolding tables box_record
  caller_at = ap (λ x. caller_in x) (before either es k)

  own_at : idle t ≡ false → o + n ≤ 256 → own_bytes (tables_before box es k) o n ≡ own_part t o n
  own_at h f = ap (λ x. own_bytes x o n) (before either es k) ∙ own_bytes_lem t (valid either es k) (busy t (valid either es k) h) o n f

  module _ (one : One (element_at es k)) (used : ℕ) (reads : read (element_at es k).bytes ≡ whole (attest o n) used) where
    -- an accepted attest
    accepted_at_lem : (answer_at box es k).code ≡ 0 → Sized box es k × Runs box es k × (o + n ≤ 256)
    unfolding beyond
    accepted_at_lem q =
        let a = (code_at either es k one (attest o n) used reads 0 (λ z. omega arith)).0 q in
        let b = is_0 _ _ _ _ (sym (refusal_is t o n) ∙ a.1) in
        (a.0, runs_at b.0, ltb-false 256 (o + n) b.1)

    pub yields_at : ((answer_at box es k).code ≡ 23)
        ↔ (
        Sized box es k × Runs box es k × (o + n ≤ 256)
        × OtherBefore box es k (caller_in (tables_before box es k)) (own_bytes (tables_before box es k) o n)
        )
    unfolding beyond logged_other
    yields_at = (
      λ q.
          let a = (code_at either es k one (attest o n) used reads 23 (λ z. omega arith)).0 q in
          let b = is_23 _ _ _ _ (sym (refusal_is t o n) ∙ a.1) in
          let f = ltb-false 256 (o + n) b.1 in
          (a.0, runs_at b.0, f, rw (caller_at, own_at b.0 f) (other_logged either es k (caller t) (own_part t o n) b.2)),
      λ x.
          let h = at_runs x.1 in
          let f = x.2 in
          let l = logged_other_lem either es k (caller t) (own_part t o n) (rw (caller_at, own_at h f) at x.3) in
          (code_at either es k one (attest o n) used reads 23 (λ z. omega arith)).1
          (x.0, refusal_is t o n ∙ unfold numbered in rw (h, le-ltb 256 (o + n) f, l)),
    )

pub attest_yields : AttestYields level_one_on
attest_yields es k o n used r = yields_at all_one es k o n refl used r

-- ---- one value each

same_index : (es : List Element) (i k : ℕ) (v w : List ℕ) (g h : Tag) → LogsAt level_one_on es i v g k → LogsAt level_one_on es i w h k → v ≡ w
same_index es i k v w g h a b =
    let q = sym a.reads ∙ b.reads in
    let o : a.offset ≡ b.offset = cc in
    let n : a.size ≡ b.size = cc in
    sym a.bytes ∙ (λ j. own_bytes (tables_before level_one_on es k) (o j) (n j)) ∙ b.bytes

later_index : (es : List Element) (i j k : ℕ) (v w : List ℕ) (g h : Tag) → LogsAt level_one_on es i v g j → LogsAt level_one_on es i w h k
    → j < k → v ≡ w
later_index es i j k v w g h a b l =
    by_cases (same_bytes v w)
    (λ y. same_bytes_lem v w y)
    (λ n.
    let p = accepted_at_lem all_one es k b.offset b.size refl b.used b.reads b.accepts in
    let x : OtherBefore level_one_on es k i w =
    record { value = v; tag = g; logged = record { index = j; before = l; there = a }; other = same_not v w n } in
    let z = (attest_yields es k b.offset b.size b.used b.reads).1
    (p.0, p.1, p.2, rw (b.by, b.bytes) x) in
    absurd (omega (arith, sym b.accepts ∙ z)))

pub one_value_each : OneValueEach level_one_on
one_value_each es i j k v w g h a b =
    by_cases (ltb j k)
    (λ l. later_index es i j k v w g h a b (ltb-true j k l))
    (λ l. by_cases (ltb k j)
    (λ m. sym (later_index es i k j w v h g b a (ltb-true k j m)))
    (λ m.
    let q : k ≡ j = omega (arith, ltb-false j k l, ltb-false k j m) in
    same_index es i j v w g h a (subst (λ x. LogsAt level_one_on es i w h x) q b)))
