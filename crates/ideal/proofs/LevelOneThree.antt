-- Each of level one's three numbers by itself, of a call that is read, on any sound box. Assumes nothing.
use Prim.Native.Nat.{ℕ, suc, ◌+◌, ◌≤◌, ◌<◌}
use mathlib.Core.Path.{◌≡◌, refl, sym, ap, ◌∙◌}
use mathlib.Core.Logic.{◌↔◌}
use mathlib.Core.Bool.{Bool, true, false, false≢true}
use mathlib.Core.List.{List}
use native.Mathlib.Omega.{arith}
use lib.ListN.{length, get_or}
use lib.Seq.{get_or-take, length-take-le}
use lib.Dec.{eqb, ltb}
use borrow.Author.Tests.{eqb-true, eqb-false, eq-eqb, ne_eqb, ltb-true, ltb-false, lt-ltb, le-ltb, not-true}
use Rattle.record.specs.Call.{Call, create, exit, heap_write, heap_read, shared_write, shared_read, attest, check, protect, retrieve, report, hand_over, chain, release}
use Rattle.record.specs.Read.{whole, read}
use Rattle.ideal.specs.State.{State, caller, part, own_part, any, every, same_bytes}
use Rattle.ideal.specs.Step.{refusal, idle, beyond}
use Rattle.ideal.specs.Tables.{Tables, log_table, used_log, state_of}
use Rattle.ideal.specs.Box.{Element, laid}
use Rattle.ideal.specs.Layouts.{Sound}
use Rattle.ideal.specs.Refusals.{caller_in, own_bytes, one_of}
use Rattle.ideal.specs.LevelOne.{is_other, logged_other, level_one_refusal, level_one_on, holds_other}
use Rattle.ideal.specs.LevelOneDemands.{barring, UsesEscrow, in_protect, in_retrieve, in_chain, in_release, HighPlace, in_create, in_hand_over, OtherRow, LogsAnother, in_attest, ThreeNumbers}
use Rattle.lists.proofs.Bools.{by_cases, and_left, and_right, and_true, not_is, clash}
use Rattle.lists.proofs.Lists.{same_bytes_lem, same_bytes_refl, any_at, at_any}
use Rattle.ideal.proofs.LevelOneNumbers.{other_rows}
use Rattle.ideal.proofs.Facts.{facts}
use Rattle.ideal.proofs.Laid.{valid_sound, state_tables, tables_state}
use Rattle.ideal.proofs.OwnHeap.{own_bytes_lem}
use Rattle.ideal.proofs.Does.{busy}
use Rattle.ideal.proofs.Numbers.{settle_code, never_refused}
use Rattle.ideal.proofs.OwnRefusals.{then22, then23, barred_with, level_one}
use Rattle.ideal.proofs.OneAnswer.{box_settles}

-- ---- by level one's own refusal

module _ (s : State) (c : Call) (n : ℕ) (b : barring n ≡ true) where
  unbarred : eqb (barred_with s c) 0 ≡ true → barred_with s c ≡ n → ⊥
  unfolding barring one_of any
  unbarred z q = false≢true (rw (sym q ∙ eqb-true _ 0 z) at b)

  pub own_number : barring (refusal s c) ≡ false → (level_one_refusal s c ≡ n) ↔ (barred_with s c ≡ n)
  own_number none = (
    λ q. by_cases (eqb (barred_with s c) 0)
        (λ z. let r : refusal s c ≡ n = rw z at (sym (level_one s c) ∙ q) in clash (barring n) b (rw (← r) none))
        (λ z. rw z at (sym (level_one s c) ∙ q)),
    λ q. by_cases (eqb (barred_with s c) 0)
        (λ z. absurd (unbarred z q))
        (λ z. level_one s c ∙ rw z q),
  )

-- ---- which number that is

is_22 : (far high : Bool) (n : ℕ) → then22 far high ≡ suc n → (n ≡ 21) × (far ≡ false) × (high ≡ true)
unfolding then22
is_22 true high n q = absurd (omega arith)
is_22 false false n q = absurd (omega arith)
is_22 false true n q = (omega arith, refl, refl)

is_23 : (none far other : Bool) (n : ℕ) → then23 none far other ≡ suc n → (n ≡ 22) × (none ≡ false) × (far ≡ false) × (other ≡ true)
unfolding then23
is_23 true far other n q = absurd (omega arith)
is_23 false true other n q = absurd (omega arith)
is_23 false false false n q = absurd (omega arith)
is_23 false false true n q = (omega arith, refl, refl, refl)

-- ---- 21

escrow_from : (s : State) {c : Call} → UsesEscrow c → barred_with s c ≡ 21
unfolding barred_with
escrow_from s in_protect = refl
escrow_from s in_retrieve = refl
escrow_from s in_chain = refl
escrow_from s in_release = refl

escrow_to : (s : State) (c : Call) → barred_with s c ≡ 21 → UsesEscrow c
unfolding barred_with
escrow_to s (create p i) q = let x = (is_22 _ _ 20 q).0 in absurd (omega arith)
escrow_to s exit q = absurd (omega arith)
escrow_to s (heap_write p o v) q = absurd (omega arith)
escrow_to s (heap_read p o n) q = absurd (omega arith)
escrow_to s (shared_write o v) q = absurd (omega arith)
escrow_to s (shared_read o n) q = absurd (omega arith)
escrow_to s (attest o n) q = let x = (is_23 _ _ _ 20 q).0 in absurd (omega arith)
escrow_to s (check i g v) q = absurd (omega arith)
escrow_to s (protect i o n d) q = in_protect
escrow_to s (retrieve i o h) q = in_retrieve
escrow_to s report q = absurd (omega arith)
escrow_to s (hand_over p) q = let x = (is_22 _ _ 20 q).0 in absurd (omega arith)
escrow_to s (chain first v) q = in_chain
escrow_to s (release i h) q = in_release

-- ---- 22

high_from : (s : State) {c : Call} → HighPlace c → barred_with s c ≡ 22
unfolding barred_with then22
high_from s (in_create {p = p} l m) = rw (le-ltb 15 p (omega arith), lt-ltb 3 p l)
high_from s (in_hand_over {p = p} l m) = rw (le-ltb 16 p (omega arith), lt-ltb 3 p l, ne_eqb p 16 (λ q. omega arith))

high_to : (s : State) (c : Call) → barred_with s c ≡ 22 → HighPlace c
unfolding barred_with
high_to s (create p i) q =
    let x = is_22 _ _ 21 q in
    let m = ltb-false 15 p x.1 in
    in_create (ltb-true 3 p x.2) (omega arith)
high_to s exit q = absurd (omega arith)
high_to s (heap_write p o v) q = absurd (omega arith)
high_to s (heap_read p o n) q = absurd (omega arith)
high_to s (shared_write o v) q = absurd (omega arith)
high_to s (shared_read o n) q = absurd (omega arith)
high_to s (attest o n) q = let x = (is_23 _ _ _ 21 q).0 in absurd (omega arith)
high_to s (check i g v) q = absurd (omega arith)
high_to s (protect i o n d) q = absurd (omega arith)
high_to s (retrieve i o h) q = absurd (omega arith)
high_to s report q = absurd (omega arith)
high_to s (hand_over p) q =
    let x = is_22 _ _ 21 q in
    let m = ltb-false 16 p x.1 in
    let n = eqb-false p 16 (not-true _ (and_right (ltb 3 p) _ x.2)) in
    in_hand_over (ltb-true 3 p (and_left (ltb 3 p) _ x.2)) (omega arith)
high_to s (chain first v) q = absurd (omega arith)
high_to s (release i h) q = absurd (omega arith)

-- ---- 23

differs : (v w : List ℕ) → (v ≡ w → ⊥) → same_bytes v w ≡ false
differs v w f = by_cases (same_bytes v w) (λ y. absurd (f (same_bytes_lem v w y))) (λ n. n)

module _ (t : Tables) (size : ℕ) (h : Sound t size) where
  abbrev s : State
  s = state_of t

  used_count : length (used_log t) ≡ t.box.log.rows
  used_count = let f = (facts t size h).log in length-take-le t.box.log.rows t.log_rows (omega (arith, f.few, f.row_count))

  row_is : (k : ℕ) → k < t.box.log.rows → get_or (used_log t) k log_table.blank ≡ get_or t.log_rows k log_table.blank
  row_is k l = get_or-take t.box.log.rows t.log_rows k log_table.blank l

  module _ (i : ℕ) (v : List ℕ) where
    row_to : any (holds_other t.log_values i v) (used_log t) ≡ true → OtherRow t i v
    unfolding holds_other
    row_to y =
        let p = any_at (holds_other t.log_values i v) (used_log t) y in
        let k = p.index in
        let l : k < t.box.log.rows = omega (arith, p.within, used_count) in
        let r = get_or t.log_rows k log_table.blank in
        let is = rw (row_is k l) at (p.passes log_table.blank) in
        record {
          index = k;
          used = l;
          identity = eqb-true _ _ (and_left (eqb r.identity i) _ is);
          other = λ q. clash (same_bytes (part t.log_values r.first r.length) v) (rw q (same_bytes_refl v)) (not-true _ (and_right (eqb r.identity i) _ is));
        }

    row_from : OtherRow t i v → any (holds_other t.log_values i v) (used_log t) ≡ true
    unfolding holds_other
    row_from x =
        at_any (holds_other t.log_values i v) (used_log t) log_table.blank x.index (omega (arith, x.used, used_count))
        (rw (row_is x.index x.used) (and_true _ _ (eq-eqb _ _ x.identity) (not_is _ (differs _ v x.other))))

  -- the search on the state is that in the rows
  searched : (o n : ℕ) → idle s ≡ false → o + n ≤ 256 → logged_other s o n ≡ any (holds_other t.log_values (caller_in t) (own_bytes t o n)) (used_log t)
  unfolding logged_other
  searched o n r f =
      let v = valid_sound t size h in
      let back = tables_state t size h in
      let who : caller s ≡ caller_in t = unfold state_of in refl in
      let own : own_part s o n ≡ own_bytes t o n = sym (own_bytes_lem s v (busy s v r) o n f) ∙ ap (λ x. own_bytes x o n) back in
      ap (λ w. any (is_other (caller s) w) s.log) own
      ∙ other_rows s (state_tables s v) v (caller s) (own_bytes t o n)
      ∙ ap (λ x. any (holds_other x.log_values (caller s) (own_bytes t o n)) (used_log x)) back
      ∙ ap (λ i. any (holds_other t.log_values i (own_bytes t o n)) (used_log t)) who

  other_from : {c : Call} → LogsAnother t c → barred_with s c ≡ 23
  unfolding barred_with then23 beyond
  other_from (in_attest {o = o} {n = n} r f x) =
      let run : idle s ≡ false = unfold idle state_of in ne_eqb t.box.running 16 r in
      rw (run, le-ltb 256 (o + n) f, searched o n run f ∙ row_from (caller_in t) (own_bytes t o n) x)

  other_to : (c : Call) → barred_with s c ≡ 23 → LogsAnother t c
  unfolding barred_with beyond
  other_to (create p i) q = let x = (is_22 _ _ 22 q).0 in absurd (omega arith)
  other_to exit q = absurd (omega arith)
  other_to (heap_write p o v) q = absurd (omega arith)
  other_to (heap_read p o n) q = absurd (omega arith)
  other_to (shared_write o v) q = absurd (omega arith)
  other_to (shared_read o n) q = absurd (omega arith)
  other_to (attest o n) q =
      let x = is_23 _ _ _ 22 q in
      let f = ltb-false 256 (o + n) x.2 in
      in_attest (unfold idle state_of in eqb-false t.box.running 16 x.1) f
      (row_to (caller_in t) (own_bytes t o n) (sym (searched o n x.1 f) ∙ x.3))
  other_to (check i g v) q = absurd (omega arith)
  other_to (protect i o n d) q = absurd (omega arith)
  other_to (retrieve i o a) q = absurd (omega arith)
  other_to report q = absurd (omega arith)
  other_to (hand_over p) q = let x = (is_22 _ _ 22 q).0 in absurd (omega arith)
  other_to (chain first v) q = absurd (omega arith)
  other_to (release i a) q = absurd (omega arith)

  -- ---- the code

  none_barring : (c : Call) → barring (refusal s c) ≡ false
  unfolding barring one_of any every
  none_barring = never_refused t size h barring refl refl refl

  module _ (e : Element) (sized : e.output_size ≡ size) (c : Call) (used : ℕ) (reads : read e.bytes ≡ whole c used) where
    code_is : (level_one_on t e).answer.code ≡ level_one_refusal s c
    unfolding laid
    code_is =
        ap (λ r. r.answer.code) (box_settles level_one_refusal t e (rw sized h) c used reads)
        ∙ settle_code (level_one_refusal s c) s c used

    pub code_when : (n : ℕ) → barring n ≡ true → ((level_one_on t e).answer.code ≡ n) ↔ (barred_with s c ≡ n)
    code_when n b =
        let x = own_number s c n b (none_barring c) in
        (λ q. x.0 (sym code_is ∙ q), λ q. code_is ∙ x.1 q)

pub three_numbers : ThreeNumbers level_one_on
unfolding barring one_of any
three_numbers t e c used h r =
    let s = state_of t in
    let at = code_when t e.output_size h e refl c used r in
    record {
      no_escrow = (λ q. escrow_to s c ((at 21 refl).0 q), λ x. (at 21 refl).1 (escrow_from s x));
      high_place = (λ q. high_to s c ((at 22 refl).0 q), λ x. (at 22 refl).1 (high_from s x));
      other_value = (λ q. other_to t e.output_size h c ((at 23 refl).0 q), λ x. (at 23 refl).1 (other_from t e.output_size h x));
    }
