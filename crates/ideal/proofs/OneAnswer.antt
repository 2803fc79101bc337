-- What the statements about one call fix of its answer. Assumes nothing.
use Prim.Native.Nat.{ℕ, ◌<◌}
use mathlib.Core.Path.{◌≡◌, refl, sym, ap, ◌∙◌}
use mathlib.Core.Bool.{cond, false≢true}
use mathlib.Core.List.{List}
use native.Mathlib.Omega.{arith}
use lib.Dec.{eqb, ltb}
use borrow.Author.Tests.{ltb-true, ltb-false}
use Rattle.record.specs.declared.Handle.{Handle}
use Rattle.record.specs.Call.{Call}
use Rattle.record.specs.Read.{Reading, refused, whole, read}
use Rattle.ideal.specs.State.{State, any}
use Rattle.ideal.specs.Step.{Answer, refuse, refused_answer, settle, reading_by, step_on_by, step_by}
use Rattle.ideal.specs.Tables.{Tables, tables, state_of}
use Rattle.ideal.specs.Box.{Element, Result, laid, unsound, call_on, box_by}
use Rattle.ideal.specs.Layouts.{Sound}
use Rattle.ideal.specs.Valid.{Valid}
use Rattle.ideal.specs.Refusals.{one_of, UsedAt, unread, was_read, number_at, Refused}
use Rattle.ideal.specs.Accuracy.{candidate, handle_used, FirstFree}
use Rattle.lists.proofs.Bools.{by_cases, clash}
use Rattle.ideal.proofs.Laid.{ready_is, state_tables}
use Rattle.ideal.proofs.Numbers.{settle_code, read_refused}
use Rattle.ideal.proofs.Accepts.{sound_of}

-- the first free handle is one
no_later : (t : Tables) (size draw : ℕ) (h g : Handle) (a : FirstFree t size draw h) (b : FirstFree t size draw g)
    → a.passed < b.passed → ⊥
no_later t size draw h g a b l =
    clash (handle_used t h) (rw a.is (b.used a.passed l)) a.free

pub one_free : (t : Tables) (size draw : ℕ) (h g : Handle) → FirstFree t size draw h → FirstFree t size draw g → h ≡ g
one_free t size draw h g a b =
    let x = a.passed in
    let y = b.passed in
    let n : x ≡ y =
    by_cases (ltb x y)
    (λ l. absurd (no_later t size draw h g a b (ltb-true x y l)))
    (λ l. by_cases (ltb y x)
    (λ m. absurd (no_later t size draw g h b a (ltb-true y x m)))
    (λ m. omega (arith, ltb-false x y l, ltb-false y x m))) in
    a.is ∙ ap (candidate size draw) n ∙ sym b.is

pub same_used : (bs : List ℕ) (c m n : ℕ) → UsedAt bs c m → UsedAt bs c n → m ≡ n
same_used bs c m n (unread x p) (unread y q) = p ∙ sym q
same_used bs c m n (unread x p) (was_read y d q) = clash _ x y
same_used bs c m n (was_read x d p) (unread y q) = clash _ y x
same_used bs c m n (was_read x d p) (was_read y f q) = cc

pub same_answer : (a b : Answer) → a.code ≡ b.code → a.number ≡ b.number → a.used ≡ b.used → a.shown ≡ b.shown → a ≡ b
same_answer a b c n u s = λ i. record { code = c i; number = n i; used = u i; shown = s i }

pub same_result : (r s : Result) → r.tables ≡ s.tables → r.answer ≡ s.answer → r ≡ s
same_result r s t a = λ i. record { tables = t i; answer = a i }

-- a refusal is its code
pub same_refusal : {t : Tables} {e : Element} {r s : Result} → r.answer.code ≡ s.answer.code → Refused t e r → Refused t e s
    → r ≡ s
same_refusal {e = e} q a b =
    let u = rw q at a.used in
    same_result _ _ (a.tables ∙ sym b.tables)
    (same_answer _ _ q (a.number ∙ ap (number_at e.bytes) q ∙ sym b.number) (same_used e.bytes _ _ _ u b.used) (a.shown ∙ sym b.shown))

-- what is accepted is a whole record
pub record Whole (bs : List ℕ) : Type 0 where
  pub call : Call
  pub used : ℕ
  pub reads : read bs ≡ whole call used

pub accepted_reads : (t : Tables) (e : Element) → (call_on t e).answer.code ≡ 0 → Whole e.bytes
unfolding box_by laid step_on_by reading_by refuse refused_answer one_of any
accepted_reads t e z = at (read e.bytes) refl
  where
    at : (r : Reading) → read e.bytes ≡ r → Whole e.bytes
    at (whole c used) q = record { call = c; used = used; reads = q }
    at (refused code n) q =
        let ok = sound_of t e z in
        let y : code ≡ 0 = rw (ok.sizes, ok.box, q) at z in
        absurd (false≢true (rw y at (read_refused e.bytes code n q).1))

-- ---- a box that refuses calls with any numbers

-- a call that is read, on a sound box
pub box_settles : (refuses : State → Call → ℕ) (t : Tables) (e : Element) → Sound t e.output_size → (c : Call) (used : ℕ)
    → read e.bytes ≡ whole c used → box_by refuses t e ≡ laid (settle (refuses (state_of t) c) (state_of t) c used)
unfolding box_by step_on_by reading_by step_by
box_settles refuses t e h c used r = rw (h.sizes, h.box, r)

-- its code, where the tables are those of a valid state
pub code_is : (refuses : State → Call → ℕ) (s : State) (e : Element) (c : Call) (used : ℕ) → Valid s → read e.bytes ≡ whole c used
    → (box_by refuses (tables s) e).answer.code ≡ cond (eqb e.output_size 1024) (refuses s c) 15
unfolding box_by laid unsound refused_answer step_on_by reading_by step_by
code_is refuses s e c used v r =
    rw (ready_is s e.output_size v, state_tables s v, r)
    (by_cases (eqb e.output_size 1024) (λ x. rw x (settle_code (refuses s c) s c used)) (λ x. rw x))
