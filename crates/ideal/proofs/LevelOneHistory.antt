-- Runs of a box that is the level-one box at some elements and the full one at the others, or the level-one box at all: what is
-- said of history, and where it yields to the three refusals. Assumes nothing.
use Prim.Native.Nat.{ℕ}
use mathlib.Core.Path.{◌≡◌, refl, sym, ap, ◌∙◌}
use mathlib.Core.Logic.{◌↔◌}
use mathlib.Core.Bool.{Bool, true, false, cond, true≢false}
use mathlib.Core.List.{List, [], ◌∷◌}
use native.Mathlib.Omega.{arith}
use lib.Dec.{eqb}
use borrow.Author.Tests.{eqb-true, eqb-false, eq-eqb}
use Rattle.fnv.specs.declared.Tag.{Tag}
use Rattle.record.specs.Call.{Call, check, protect, retrieve}
use Rattle.record.specs.Read.{whole, read}
use Rattle.record.specs.Write.{filled}
use Rattle.ideal.specs.State.{State, any}
use Rattle.ideal.specs.Step.{refused_answer}
use Rattle.ideal.specs.Tables.{Tables, tables, state_of}
use Rattle.ideal.specs.Box.{Element, Result, call_on, element_at, tables_before, answer_at}
use Rattle.ideal.specs.Refusals.{one_of}
use Rattle.ideal.specs.Valid.{Valid}
use Rattle.ideal.specs.History.{HistoryHolds, Reports}
use Rattle.ideal.specs.Accuracy.{Sized, CheckIsAccurate, HandleOnce}
use Rattle.ideal.specs.LevelOne.{level_one_refusal, level_one_on, level_one_rows}
use Rattle.ideal.specs.LevelOneDemands.{EscrowIsBarred, RetrieveHandsOut}
use Rattle.ideal.proofs.LevelOneNumbers.{rows_first}
use Rattle.ideal.proofs.Laid.{state_tables}
use Rattle.ideal.proofs.Conditions.{first_of}
use Rattle.ideal.proofs.Runs.{state_before, valid_before, tables_before_lem}
use Rattle.ideal.proofs.OwnRefusals.{barred_with}
use Rattle.ideal.proofs.OneAnswer.{code_is}
use Rattle.ideal.proofs.Yields.{as_full, barred, yields}
use Rattle.ideal.proofs.StandIns.{Turns, in_full, bars, Reaches, fs, tables_before_lem as tables-in-full, history_kept, reports_kept, handles_once, check_kept}

-- ---- a box that is the level-one box at these elements, and the full one at the others

pub data Either (box : Tables → Element → Result) (One : Element → Type 0) (t : Tables) (e : Element) : Type 0 where
  is_full_lem : (One e → ⊥) → box t e ≡ call_on t e → Either box One t e
  is_one : One e → box t e ≡ level_one_on t e → Either box One t e

-- it bars some calls, and is else the full one
pub record Bars (One : Element → Type 0) (t : Tables) (e : Element) : Type 0 where
  pub one : One e
  pub call : Call
  pub used : ℕ
  pub reads : read e.bytes ≡ whole call used
  pub some : eqb (barred_with (state_of t) call) 0 ≡ false

check_passes : {One : Element → Type 0} (t : Tables) (e : Element) (i : ℕ) (g : Tag) (v : List ℕ) (used : ℕ)
    → read e.bytes ≡ whole (check i g v) used → Bars One t e → ⊥
unfolding barred_with
check_passes t e i g v used r b =
    let q : b.call ≡ check i g v = let w = sym b.reads ∙ r in cc in
    true≢false (rw q at b.some)

-- ---- the code at an index

sized_code : (b : Bool) (x n : ℕ) → (n ≡ 15 → ⊥) → cond b x 15 ≡ n → (b ≡ true) × (x ≡ n)
sized_code true x n f q = (refl, q)
sized_code false x n f q = absurd (f (sym q))

module _ {box : Tables → Element → Result} {One : Element → Type 0} (either : (t : Tables) (e : Element) → Either box One t e) where
  turn : (t : Tables) (e : Element) → Turns box (Bars One) t e
  unfolding refused_answer
  turn t e =
      elim (either t e) [
        | is_full_lem n q ↦ in_full q
        | is_one o p ↦ elim (yields t e) [
          | as_full n q ↦ in_full (p ∙ q)
          | barred s c used r b z q ↦ bars (record { one = o; call = c; used = used; reads = r; some = z })
              (λ y. eqb-false _ 0 z (sym (ap (λ x. x.answer.code) (p ∙ q)) ∙ y)) (ap (λ x. x.tables) (p ∙ q))
        ]
      ]

  -- on any tables
  pub turns : Reaches box (Bars One) (λ t. t ≡ t)
  turns = record { first = refl; next = λ t e g. refl; turn = λ t e g. turn t e }

  pub holds_either : HistoryHolds box
  holds_either = history_kept turns

  pub reports_either : Reports box
  reports_either = reports_kept turns

  pub once_either : HandleOnce box
  once_either = handles_once turns

  pub checks_either : CheckIsAccurate box
  checks_either es k i g v used r = check_kept turns es k (check_passes _ (element_at es k) i g v used r) i g v used r

  at_one : (t : Tables) (e : Element) → One e → box t e ≡ level_one_on t e
  at_one t e o = elim (either t e) [ is_full_lem n q ↦ absurd (n o) | is_one p q ↦ q ]

  module _ (es : List Element) (k : ℕ) where
    -- the state that the tables before the index stand for
    abbrev pub s : State
    s = state_before (fs turns es) k

    pub valid : Valid s
    valid = valid_before (fs turns es) k

    pub before : tables_before box es k ≡ tables s
    before = sym (tables-in-full turns es k) ∙ tables_before_lem (fs turns es) k

    module _ (one : One (element_at es k)) (c : Call) (used : ℕ) (reads : read (element_at es k).bytes ≡ whole c used) where
      pub code_at : (n : ℕ) → (n ≡ 15 → ⊥) → ((answer_at box es k).code ≡ n) ↔ (Sized box es k × (level_one_refusal s c ≡ n))
      unfolding answer_at
      code_at n f =
          let e = element_at es k in
          let is = ap (λ t. (box t e).answer.code) before ∙ ap (λ r. r.answer.code) (at_one (tables s) e one) ∙ code_is level_one_refusal s e c used valid reads in (
            λ q. let x = sized_code _ _ n f (sym is ∙ q) in (eqb-true _ _ x.0, x.1),
            λ x. is ∙ rw (eq-eqb _ 1024 x.0) x.1,
          )

      -- kinds 11, 12, 15 and 16
      module _ (kind : one_of (11 ∷ 12 ∷ 15 ∷ 16 ∷ []) (filled c).kind ≡ true) where
        refuses_escrow : level_one_refusal s c ≡ 21
        unfolding level_one_rows first_of
        refuses_escrow = rows_first s (state_tables s valid) valid c ∙ rw kind

        pub barred_at : ((answer_at box es k).code ≡ 21) ↔ Sized box es k
        barred_at =
            let a = code_at 21 (λ z. omega arith) in
            (λ q. (a.0 q).0, λ z. a.1 (z, refuses_escrow))

        never_accepted : (answer_at box es k).code ≡ 0 → ⊥
        never_accepted q = let z = sym refuses_escrow ∙ ((code_at 0 (λ z. omega arith)).0 q).1 in omega arith

-- ---- the level-one box

pub all_one : (t : Tables) (e : Element) → Either level_one_on (λ e. e ≡ e) t e
all_one t e = is_one refl refl

pub holds : HistoryHolds level_one_on
holds = holds_either all_one

pub reports : Reports level_one_on
reports = reports_either all_one

pub once : HandleOnce level_one_on
once = once_either all_one

pub checks : CheckIsAccurate level_one_on
checks = checks_either all_one

pub escrow_is_barred : EscrowIsBarred level_one_on
escrow_is_barred es k = barred_at all_one es k refl

pub retrieve_hands_out : RetrieveHandsOut level_one_on
unfolding one_of any filled
retrieve_hands_out es k source offset handle used r v = (
  λ h. absurd (never_accepted all_one es k refl (retrieve source offset handle) used r refl h.accepts.0),
  λ x.
      let p = x.1.there in
      absurd (never_accepted all_one es x.1.index refl (protect _ p.offset p.size p.draw) p.used p.reads refl p.accepts),
)
