-- A box that does at each call what the full box does, or bars it and alters nothing: its runs are runs of the full box, in
-- which an element that reads to no call stands in for each barred one. So it keeps what is said of history. Assumes nothing.
use Prim.Native.Nat.{ℕ, zero, suc, ◌+◌, ◌*◌}
use mathlib.Core.Path.{◌≡◌, refl, sym, ap, ◌∙◌, subst, subst₂}
use mathlib.Core.Logic.{◌↔◌}
use mathlib.Core.List.{List, [], ◌∷◌}
use native.Mathlib.Omega.{arith}
use lib.ListN.{length, take}
use Rattle.fnv.specs.declared.Tag.{Tag}
use Rattle.record.specs.declared.Handle.{Handle}
use Rattle.record.specs.Call.{Link, Call, check, retrieve, chain, release}
use Rattle.record.specs.Read.{whole, cut, read}
use Rattle.ideal.specs.State.{Move}
use Rattle.ideal.specs.Tables.{Tables, fresh_tables}
use Rattle.ideal.specs.Box.{Element, Result, call_on, element_at, tables_from, tables_after, tables_before, answer_at}
use Rattle.ideal.specs.Refusals.{caller_in}
use Rattle.ideal.specs.History.{added, past_from, past_of, pairs, protects, ones, AsThePast, HistoryHolds, Accepts, Shows, Reports}
use Rattle.ideal.specs.Accuracy.{HeldBefore, Says, Sized, Runs, HandsOut, CheckAt, RetrieveAt, ReleaseAt, ChainAt, HandleOnce}
use Rattle.ideal.proofs.Numbers.{refusals_alter_nothing}
use Rattle.ideal.proofs.Histories.{history_holds, reports}
use Rattle.ideal.proofs.Accurate.{check_is_accurate, retrieve_is_accurate, release_is_accurate, chain_is_accurate, handle_once}
use Rattle.ideal.proofs.OneAnswer.{accepted_reads}
use Rattle.ideal.proofs.Befores.{alike_same, SameCalls, same_calls, SameBefore, back_before, logged_too, held_too, custody_too}
use Rattle.ideal.proofs.FixedRuns.{refused_adds}

-- ---- an element that reads to no call

abbrev unread : Element → Element
unread e = record { bytes = []; output_size = e.output_size; profile = e.profile }

none_read : (c : Call) (used : ℕ) → read [] ≡ whole c used → ⊥
unfolding read cut
none_read c used q = let z : ◌≡◌ {A = ℕ} 0 1 = cc in omega arith

unread_alters_nothing : (t : Tables) (e : Element) → (call_on t (unread e)).tables ≡ t
unread_alters_nothing t e =
    (refusals_alter_nothing t (unread e)
    (λ z. let w = accepted_reads t (unread e) z in none_read w.call w.used w.reads)).tables

-- ---- such a box

pub data Turns (box : Tables → Element → Result) (Bars : Tables → Element → Type 0) (t : Tables) (e : Element) : Type 0 where
  in_full : box t e ≡ call_on t e → Turns box Bars t e
  bars : Bars t e → ((box t e).answer.code ≡ 0 → ⊥) → (box t e).tables ≡ t → Turns box Bars t e

-- on the tables that its runs reach
pub record Reaches (box : Tables → Element → Result) (Bars : Tables → Element → Type 0) (Good : Tables → Type 0) : Type 0 where
  pub first : Good fresh_tables
  pub next : (t : Tables) (e : Element) → Good t → Good (box t e).tables
  pub turn : (t : Tables) (e : Element) → Good t → Turns box Bars t e

module _ {box : Tables → Element → Result} {Bars : Tables → Element → Type 0} {Good : Tables → Type 0} (turns : Reaches box Bars Good) where
  -- f does on the full box what e does on this one
  data StandsFor (t : Tables) (e f : Element) : Type 0 where
    itself : e ≡ f → box t e ≡ call_on t e → StandsFor t e f
    unread_one : f ≡ unread e → Bars t e → ((box t e).answer.code ≡ 0 → ⊥) → (box t e).tables ≡ t → StandsFor t e f

  unfoldable pub chosen : {t : Tables} {e : Element} → Turns box Bars t e → Element
  chosen {e = e} (in_full q) = e
  chosen {e = e} (bars b f q) = unread e

  chosen_stands : {t : Tables} {e : Element} (x : Turns box Bars t e) → StandsFor t e (chosen x)
  unfolding chosen
  chosen_stands (in_full q) = itself refl q
  chosen_stands (bars b f q) = unread_one refl b f q

  unfoldable pub stand_ins : (t : Tables) → Good t → List Element → List Element
  stand_ins t g [] = []
  stand_ins t g (e ∷ es) = chosen (turns.turn t e g) ∷ stand_ins (box t e).tables (turns.next t e g) es

  -- ---- one element

  tables_one : {t : Tables} {e f : Element} → StandsFor t e f → (call_on t f).tables ≡ (box t e).tables
  tables_one {t} (itself q r) = ap (λ x. (call_on t x).tables) (sym q) ∙ ap (λ x. x.tables) (sym r)
  tables_one {t} {e} (unread_one q b f r) = ap (λ x. (call_on t x).tables) q ∙ unread_alters_nothing t e ∙ sym r

  added_one : {t : Tables} {e f : Element} (past : List Move) → StandsFor t e f
      → added t (call_on t f) (read f.bytes) past ≡ added t (box t e) (read e.bytes) past
  unfolding added read cut
  added_one {t} past (itself q r) = rw (← q, r)
  added_one {t} {e} past (unread_one q b f r) = rw q (sym (refused_adds t (box t e) (read e.bytes) past f))

  -- ---- a list from some tables on

  tables_all : (t : Tables) (g : Good t) (es : List Element) → tables_from call_on t (stand_ins t g es) ≡ tables_from box t es
  unfolding tables_from stand_ins
  tables_all t g [] = refl
  tables_all t g (e ∷ es) =
      let n = turns.next t e g in
      ap (λ x. tables_from call_on x (stand_ins (box t e).tables n es)) (tables_one (chosen_stands (turns.turn t e g)))
      ∙ tables_all (box t e).tables n es

  past_all : (t : Tables) (g : Good t) (past : List Move) (es : List Element)
      → past_from call_on t past (stand_ins t g es) ≡ past_from box t past es
  unfolding past_from stand_ins
  past_all t g past [] = refl
  past_all t g past (e ∷ es) =
      let x = chosen_stands (turns.turn t e g) in
      let n = turns.next t e g in
      (λ i. past_from call_on (tables_one x i) (added_one past x i) (stand_ins (box t e).tables n es)) ∙ past_all (box t e).tables n _ es

  take_all : (t : Tables) (g : Good t) (es : List Element) (k : ℕ) → take k (stand_ins t g es) ≡ stand_ins t g (take k es)
  unfolding stand_ins
  take_all t g es zero = refl
  take_all t g [] (suc k) = refl
  take_all t g (e ∷ es) (suc k) = ap (λ l. chosen (turns.turn t e g) ∷ l) (take_all (box t e).tables (turns.next t e g) es k)

  length_all : (t : Tables) (g : Good t) (es : List Element) → length (stand_ins t g es) ≡ length es
  unfolding stand_ins
  length_all t g [] = refl
  length_all t g (e ∷ es) = ap suc (length_all (box t e).tables (turns.next t e g) es)

  past_end : {t : Tables} {e : Element} → unread e ≡ e → Turns box Bars t e → StandsFor t e e
  past_end u (in_full q) = itself refl q
  past_end u (bars b f q) = unread_one (sym u) b f q

  -- past the end of both lists too
  stands_at : (t : Tables) (g : Good t) (es : List Element) (k : ℕ)
      → StandsFor (tables_from box t (take k es)) (element_at es k) (element_at (stand_ins t g es) k)
  unfolding tables_from stand_ins element_at
  stands_at t g [] zero = past_end refl (turns.turn t (element_at [] 0) g)
  stands_at t g [] (suc k) = past_end refl (turns.turn t (element_at [] k) g)
  stands_at t g (e ∷ es) zero = chosen_stands (turns.turn t e g)
  stands_at t g (e ∷ es) (suc k) = stands_at (box t e).tables (turns.next t e g) es k

  -- ---- a run from a fresh box

  module _ (es : List Element) where
    -- the run of the full box
    abbrev pub fs : List Element
    fs = stand_ins fresh_tables turns.first es

    tables_after_lem : tables_after call_on fs ≡ tables_after box es
    unfolding tables_after
    tables_after_lem = tables_all fresh_tables turns.first es

    past_of_lem : past_of call_on fs ≡ past_of box es
    unfolding past_of
    past_of_lem = past_all fresh_tables turns.first [] es

    module _ (k : ℕ) where
      pub tables_before_lem : tables_before call_on fs k ≡ tables_before box es k
      unfolding tables_before tables_after
      tables_before_lem = ap (tables_from call_on fresh_tables) (take_all fresh_tables turns.first es k) ∙ tables_all fresh_tables turns.first (take k es)

      past_before : past_of call_on (take k fs) ≡ past_of box (take k es)
      unfolding past_of
      past_before = ap (past_from call_on fresh_tables []) (take_all fresh_tables turns.first es k) ∙ past_all fresh_tables turns.first [] (take k es)

      -- the call at this index is the same in both runs
      record Agree : Type 0 where
        element : element_at fs k ≡ element_at es k
        answer : answer_at call_on fs k ≡ answer_at box es k

      -- or it is barred in this run, and reads to none in that of the full box
      data AtIndex : Type 0 where
        same : Agree → AtIndex
        other : Bars (tables_before box es k) (element_at es k) → ((answer_at box es k).code ≡ 0 → ⊥)
            → ((c : Call) (used : ℕ) → read (element_at fs k).bytes ≡ whole c used → ⊥) → AtIndex

      at_index : AtIndex
      unfolding answer_at tables_before tables_after
      at_index =
          elim (stands_at fresh_tables turns.first es k) [
            | itself q r ↦ same
                (record {
                  element = sym q;
                  answer = (λ i. (call_on (tables_before_lem i) (sym q i)).answer) ∙ ap (λ x. x.answer) (sym r);
                })
            | unread_one q b f r ↦ other b f (λ c used y. none_read c used (ap (λ x. read x.bytes) (sym q) ∙ y))
          ]

      output_same : (element_at fs k).output_size ≡ (element_at es k).output_size
      output_same =
          elim (stands_at fresh_tables turns.first es k) [
            | itself q r ↦ ap (λ x. x.output_size) (sym q)
            | unread_one q b f r ↦ ap (λ x. x.output_size) q
          ]

      agree_accepted : (answer_at box es k).code ≡ 0 → Agree
      agree_accepted z = elim at_index [ same a ↦ a | other b f n ↦ absurd (f z) ]

      agree_read : {c : Call} {used : ℕ} → read (element_at fs k).bytes ≡ whole c used → Agree
      agree_read {c} {used} y = elim at_index [ same a ↦ a | other b f n ↦ absurd (n c used y) ]

      agree_unbarred : (Bars (tables_before box es k) (element_at es k) → ⊥) → Agree
      agree_unbarred n = elim at_index [ same a ↦ a | other b f m ↦ absurd (n b) ]

      calls_here : SameCalls call_on box fs es k
      calls_here =
          let at : Agree → SameCalls call_on box fs es k = λ a. same_calls call_on box fs es k a.element tables_before_lem (alike_same a.answer) in
          record {
            logs = λ l. (at (agree_read l.reads)).logs l;
            protects = λ l. (at (agree_read l.reads)).protects l;
            releases = λ l. (at (agree_read l.reads)).releases l;
          }

      pub calls_in_full : SameCalls box call_on es fs k
      calls_in_full =
          let at : Agree → SameCalls box call_on es fs k =
          λ a. same_calls box call_on es fs k (sym a.element) (sym tables_before_lem) (alike_same (sym a.answer)) in
          record {
            logs = λ l. (at (agree_accepted l.accepts)).logs l;
            protects = λ l. (at (agree_accepted l.accepts)).protects l;
            releases = λ l. (at (agree_accepted l.accepts)).releases l;
          }

    pub before : (k : ℕ) → SameBefore call_on box fs es k
    before k =
        record { caller = ap (λ t. caller_in t) (tables_before_lem k); there = λ j l. calls_here j; back = λ j l. calls_in_full j }

    -- what is said of a call that is the same in both runs, with what was so before it
    module _ (k : ℕ) (a : Agree k) where
      sized : Sized call_on fs k ↔ Sized box es k
      sized = (λ z. sym (output_same k) ∙ z, λ z. output_same k ∙ z)

      runs : Runs call_on fs k ↔ Runs box es k
      runs =
          let q = ap (λ t. t.box.running) (tables_before_lem k) in
          (λ f z. f (q ∙ z), λ f z. f (sym q ∙ z))

      says : (n : ℕ) → Says call_on fs n k ↔ Says box es n k
      says n = (
        λ x. subst (λ y. (y.code ≡ 0) × (y.number ≡ n)) a.answer x,
        λ x. subst (λ y. (y.code ≡ 0) × (y.number ≡ n)) (sym a.answer) x,
      )

      code : (n : ℕ) → ((answer_at call_on fs k).code ≡ n) ↔ ((answer_at box es k).code ≡ n)
      code n = let q = ap (λ x. x.code) a.answer in (λ z. sym q ∙ z, λ z. q ∙ z)

      read_there : {c : Call} {used : ℕ} → read (element_at es k).bytes ≡ whole c used → read (element_at fs k).bytes ≡ whole c used
      read_there r = ap (λ x. read x.bytes) a.element ∙ r

  -- ---- the statements

  pub history_kept : HistoryHolds box
  history_kept es = subst₂ (λ t past. AsThePast t past) (tables_after_lem es) (past_of_lem es) (history_holds (fs es))

  pub handles_once : HandleOnce box
  handles_once es h i₁ r₁ i₂ r₂ v₁ v₂ k₁ k₂ a b =
      handle_once (fs es) h i₁ r₁ i₂ r₂ v₁ v₂ k₁ k₂ ((calls_in_full es k₁).protects a) ((calls_in_full es k₂).protects b)

  -- an accepted call, in the run of the full box
  accepts_in_full : (es : List Element) (k : ℕ) (c : Call) (used : ℕ) → Accepts box es k c used → Accepts call_on (fs es) k c used
  accepts_in_full es k c used x =
      let a = agree_accepted es k x.1 in
      (ap (λ e. read e.bytes) a.element ∙ x.0, ap (λ e. e.code) a.answer ∙ x.1)

  shows_here : (es : List Element) (k m o n : ℕ) → (answer_at box es k).code ≡ 0
      → Shows (past_of call_on (take k (fs es))) m o n (answer_at call_on (fs es) k) → Shows (past_of box (take k es)) m o n (answer_at box es k)
  shows_here es k m o n z = subst₂ (λ past a. Shows past m o n a) (past_before es k) (agree_accepted es k z).answer

  pub reports_kept : Reports box
  reports_kept =
      record {
        heap_reads = λ es k p o n used l x.
            shows_here es k p o n x.1
            (reports.heap_reads (fs es) k p o n used (omega (arith, length_all fresh_tables turns.first es)) (accepts_in_full es k _ used x));
        shared_reads = λ es k o n used l x.
            shows_here es k 16 o n x.1
            (reports.shared_reads (fs es) k o n used (omega (arith, length_all fresh_tables turns.first es)) (accepts_in_full es k _ used x));
        report = λ es k used l x.
            let r = reports.report (fs es) k used (omega (arith, length_all fresh_tables turns.first es)) (accepts_in_full es k _ used x) in
            ap (λ a. a.number) (sym (agree_accepted es k x.1).answer) ∙ r
            ∙ (λ i.
            ones 16 (tables_before_lem es k i).box.taken + 256 * length (pairs (past_before es k i))
            + 65536 * length (protects (past_before es k i)));
      }

  -- those of one call at an index, where it is not barred
  module _ (es : List Element) (k : ℕ) (free : Bars (tables_before box es k) (element_at es k) → ⊥) where
    abbrev here : Agree es k
    here = agree_unbarred es k free

    abbrev past : SameBefore call_on box (fs es) es k
    past = before es k

    held : {i : ℕ} {h : Handle} {v : List ℕ} → HeldBefore call_on (fs es) k i h v ↔ HeldBefore box es k i h v
    held = (held_too past, held_too (back_before past))

    pub check_kept : (i : ℕ) (g : Tag) (v : List ℕ) (used : ℕ) → read (element_at es k).bytes ≡ whole (check i g v) used
        → CheckAt box es k i g v
    check_kept i g v used r =
        let c = check_is_accurate (fs es) k i g v used (read_there es k here r) in
        let size = sized es k here in
        let there = logged_too past in
        let back = logged_too (back_before past) in
        record {
          yes = (
            λ x. let y = c.yes.0 ((says es k here 1).1 x) in (size.0 y.0, there y.1),
            λ x. (says es k here 1).0 (c.yes.1 (size.1 x.0, back x.1)),
          );
          no = (
            λ x. let y = c.no.0 ((says es k here 0).1 x) in (size.0 y.0, y.1, λ z. y.2 (back z)),
            λ x. (says es k here 0).0 (c.no.1 (size.1 x.0, x.1, λ z. x.2 (there z))),
          );
        }

    absent : (i : ℕ) (h : Handle)
        → ((answer_at call_on (fs es) k).code ≡ 10)
        ↔ (Sized call_on (fs es) k × Runs call_on (fs es) k × (i ≡ 0 → ⊥) × ((v : List ℕ) → HeldBefore call_on (fs es) k i h v → ⊥))
        → ((answer_at box es k).code ≡ 10)
        ↔ (Sized box es k × Runs box es k × (i ≡ 0 → ⊥) × ((v : List ℕ) → HeldBefore box es k i h v → ⊥))
    absent i h q =
        let size = sized es k here in
        let run = runs es k here in (
          λ x. let y = q.0 ((code es k here 10).1 x) in (size.0 y.0, run.0 y.1, y.2, λ v z. y.3 v (held.1 z)),
          λ x. (code es k here 10).0 (q.1 (size.1 x.0, run.1 x.1, x.2, λ v z. x.3 v (held.0 z))),
        )

    pub release_kept : (i : ℕ) (h : Handle) (used : ℕ) → read (element_at es k).bytes ≡ whole (release i h) used
        → ReleaseAt box es k i h
    release_kept i h used r =
        let c = release_is_accurate (fs es) k i h used (read_there es k here r) in
        let size = sized es k here in
        record {
          gives_up = (
            λ x. let y = c.gives_up.0 ((says es k here 0).1 x) in (size.0 y.0, y.1, held.0 y.2),
            λ x. (says es k here 0).0 (c.gives_up.1 (size.1 x.0, x.1, held.1 x.2)),
          );
          not_there = absent i h c.not_there;
        }

    pub chain_kept : (first : Link) (v : List ℕ) (used : ℕ) → read (element_at es k).bytes ≡ whole (chain first v) used
        → ChainAt box es k first v
    chain_kept first v used r n =
        let c = chain_is_accurate (fs es) k first v used (read_there es k here r) n in
        let size = sized es k here in
        let run = runs es k here in (
          λ y. let z = c.0 ((says es k here n).1 y) in (size.0 z.0, run.0 z.1, custody_too past z.2),
          λ y. (says es k here n).0 (c.1 (size.1 y.0, run.1 y.1, custody_too (back_before past) y.2)),
        )

    hands : (o : ℕ) (v : List ℕ) → HandsOut call_on (fs es) o v k ↔ HandsOut box es o v k
    hands o v =
        let before = tables_before_lem es k in
        let after = tables_before_lem es (suc k) in (
          λ x.
              record {
                accepts = (says es k here (length v)).0 x.accepts;
                stands = rw after at x.stands;
                alters = rw (before, after) at x.alters;
              },
          λ x.
              record {
                accepts = (says es k here (length v)).1 x.accepts;
                stands = rw after x.stands;
                alters = rw (before, after) x.alters;
              },
        )

    pub retrieve_kept : (i o : ℕ) (h : Handle) (used : ℕ) → read (element_at es k).bytes ≡ whole (retrieve i o h) used
        → RetrieveAt box es k i o h
    retrieve_kept i o h used r =
        let c = retrieve_is_accurate (fs es) k i o h used (read_there es k here r) in
        let size = sized es k here in
        record {
          hands_out = λ v. (
            λ x. let y = (c.hands_out v).0 ((hands o v).1 x) in (size.0 y.0, held.0 y.1, y.2),
            λ x. (hands o v).0 ((c.hands_out v).1 (size.1 x.0, held.1 x.1, x.2)),
          );
          one_value = λ v w x y. c.one_value v w (held.1 x) (held.1 y);
          not_there = absent i h c.not_there;
          too_far = λ v x.
              let q = c.too_far v (held.1 x) in (
                λ y. let z = q.0 ((code es k here 11).1 y) in (size.0 z.0, z.1),
                λ y. (code es k here 11).0 (q.1 (size.1 y.0, y.1)),
              );
        }
