-- A value that is escrowed and not retrieved shows nowhere: Lemma 3 of specs/Paper.antt. Assumes nothing.
use Prim.Native.Nat.{ℕ, suc, ◌+◌, ◌*◌, ◌-◌, ◌<◌}
use mathlib.Core.Path.{◌≡◌, refl, sym, ap, ◌∙◌, subst, subst₂}
use mathlib.Core.Bool.{true, false, ◌&&◌, cond, false≢true}
use mathlib.Core.List.{List, [], ◌∷◌, ◌++◌}
use native.Mathlib.Omega.{arith}
use mathlib.Core.Option.{Option, none, some}
use lib.ListN.{length, get_or, length-take}
use lib.Seq.{ext_get_or, get_or-take}
use lib.Dec.{eqb}
use borrow.Author.Tests.{eqb-true}
use Rattle.record.specs.declared.Handle.{Handle}
use Rattle.record.specs.Call.{Link, escrowed_link, Call, retrieve, chain}
use Rattle.record.specs.Read.{Reading, refused, whole, read}
use Rattle.ideal.specs.declared.EscrowRow.{EscrowRow}
use Rattle.ideal.specs.State.{State, caller, part}
use Rattle.ideal.specs.Step.{found, absent, refusal}
use Rattle.ideal.specs.Tables.{Tables, escrow_table, entry_of, entries_of, used_escrow, box_record, tables, state_of}
use Rattle.ideal.specs.Box.{Element, Result, laid, call_on, element_at, tables_from, answers_from}
use Rattle.ideal.specs.Layouts.{Sound}
use Rattle.ideal.specs.Refusals.{own_bytes, is_row, is_absent}
use Rattle.ideal.specs.Valid.{Valid}
use Rattle.paper.specs.Paper.{Command, iattest, icheck, iprotect, iretrieve, irelease, principal_in, command_of, event_of, events, behaviour_from, OnlyValue, NeverRetrieved, NeverFollowed, AgreeBut, Lemma3}
use Rattle.lists.proofs.Bools.{by_cases, and_left, and_right}
use Rattle.ideal.proofs.Facts.{facts}
use Rattle.ideal.proofs.FoundRows.{found_row}
use Rattle.ideal.proofs.Laid.{step_element, valid_sound, state_tables, tables_state, call_is}
use Rattle.ideal.proofs.Kept.{valid_step}
use Rattle.ideal.proofs.Following.{Comes}
use Rattle.ideal.proofs.TwoEscrows.{SameEntry, SameEscrow, no_entries, entry}
use Rattle.ideal.proofs.TwoStates.{Secrets, SameBut, length_part, NoneTold}
use Rattle.paper.proofs.Comings.{comes_to}
use Rattle.ideal.proofs.Secret.{chained, both_element, all_equal, accepted_code, same_box, same_escrow_rows, same_escrow_values}

-- the value under one key may differ, and no heap
abbrev pub unretrieved : ℕ → ℕ → Handle → Secrets
unretrieved p q η =
    record {
      heap = λ _ _. false;
      value = λ k. (eqb k.handle.0 η.0 && (eqb k.source p && eqb k.recipient q)) && eqb k.mark 0;
      none_empty = λ _. refl;
    }

module _ (p q : ℕ) (η : Handle) where
  abbrev z : Secrets
  z = unretrieved p q η

  -- ---- one element on two states

  -- the call neither hands the value out nor follows a chain through it
  record Quiet (s : State) (c : Call) : Type 0 where
    retrieves : (o : ℕ) → c ≡ retrieve p o η → caller s ≡ q → refusal s c ≡ 0 → ⊥
    follows : (first : Link) (v : List ℕ) → c ≡ chain first v → caller s ≡ q → (left : ℕ) (rest : List ℕ)
        → Comes s.log (found s) first v (suc left) (escrowed_link p η) rest → absent (found s p η) ≡ false → ⊥

  record IsKey (i j : ℕ) (h : Handle) : Type 0 where
    source : i ≡ p
    recipient : j ≡ q
    handle : h ≡ η

  is_key : (i j : ℕ) (h : Handle) → z.value (record { source = i; recipient = j; handle = h; mark = 0 }) ≡ true → IsKey i j h
  is_key i j h e =
      let named = and_left _ _ e in
      let a = eqb-true h.0 η.0 (and_left _ _ named) in
      let f = and_right (eqb h.0 η.0) _ named in
      record {
        source = eqb-true i p (and_left _ _ f);
        recipient = eqb-true j q (and_right (eqb i p) _ f);
        handle = λ m. record { 0 = a m };
      }

  none_told : {s t : State} {c : Call} → Quiet s c → NoneTold z s t c
  none_told {s} {t} {c} h =
      record {
        attests = λ g. absurd (false≢true g);
        protects = λ g. absurd (false≢true g);
        retrieves = λ g i o a e r.
            by_cases (z.value (record { source = i; recipient = caller s; handle = a; mark = 0 }))
            (λ y. let k = is_key i (caller s) a y in
            absurd (h.retrieves o (e ∙ (λ m. retrieve (k.source m) o (k.handle m))) k.recipient r))
            (λ n. n);
        follows = λ g first v e left i a rest come some.
            by_cases (z.value (record { source = i; recipient = caller s; handle = a; mark = 0 }))
            (λ y. let k = is_key i (caller s) a y in
            absurd (h.follows first v e k.recipient left rest
            (subst₂ (λ i a. Comes s.log (found s) first v (suc left) (escrowed_link i a) rest) k.source k.handle come)
            (subst₂ (λ i a. absent (found s i a) ≡ false) k.source k.handle some)))
            (λ n. n);
      }

  -- ---- the tables of both states

  same_heaps : {s t : State} → SameBut z s t → s.heaps ≡ t.heaps
  same_heaps {s} {t} k = ext_get_or [] s.heaps t.heaps k.heaps.places (λ i _. k.heaps.open_places i refl)

  only_value : {s t : State} → SameBut z s t → Valid s → Valid t → OnlyValue p q η (tables s) (tables t)
  unfolding tables box_record is_row
  only_value k v w =
      record {
        box = same_box z k;
        heaps = rw (same_heaps k);
        shared = k.shared;
        log_rows = rw k.log;
        log_values = rw k.log;
        escrow_rows = same_escrow_rows z k;
        escrow_values = same_escrow_values z k v w;
      }

  -- ---- and from tables to states

  same_entries : (vs ws : List ℕ) (rs : List EscrowRow) → length vs ≡ length ws
      → ((k : ℕ) → k < length rs
      → let r = get_or rs k escrow_table.blank in is_row η p q r ≡ false
      → part vs r.first r.length ≡ part ws r.first r.length)
      → SameEscrow z.value (entries_of escrow_table vs rs) (entries_of escrow_table ws rs)
  unfolding entries_of is_row
  same_entries vs ws [] n h = no_entries
  same_entries vs ws (r ∷ rs) n h =
      let one : SameEntry z.value (entry_of escrow_table vs r) (entry_of escrow_table ws r) =
      record { key = refl; size = length_part vs ws r.first r.length n; value = h 0 (omega arith) } in
      entry one (same_entries vs ws rs n (λ k l. h (suc k) (omega arith)))

  same_states : {t u : Tables} → Sound t 1024 → Sound u 1024 → OnlyValue p q η t u → SameBut z (state_of t) (state_of u)
  unfolding state_of
  same_states {t} {u} x y o =
      let used : used_escrow t ≡ used_escrow u = rw (o.box, o.escrow_rows) in
      let rows = t.box.escrow.rows in
      let n : length t.escrow_values ≡ length u.escrow_values =
      (facts t 1024 x).escrow.value_count ∙ sym (facts u 1024 y).escrow.value_count in
      record {
        identities = rw o.box;
        running = rw o.box;
        heaps = rw o.heaps (record { places = refl; sizes = λ _. refl; open_places = λ _ _. refl });
        shared = o.shared;
        log = rw (o.box, o.log_rows, o.log_values);
        escrow =
            subst (λ rs. SameEscrow z.value (entries_of escrow_table t.escrow_values (used_escrow t))
            (entries_of escrow_table u.escrow_values rs)) used
            (same_entries t.escrow_values u.escrow_values (used_escrow t) n
            (λ k l.
            let b : k < rows = omega (arith, length-take rows t.escrow_rows) in
            rw (get_or-take rows t.escrow_rows k escrow_table.blank b) (o.escrow_values k b)));
      }

  -- ---- runs

  -- the events of an element are told by the box record, the heaps and the answer
  same_events_of : (t u : Tables) (r w : Result) (c : Option Command) → t.box ≡ u.box → r.answer ≡ w.answer
      → r.tables.box ≡ w.tables.box → r.tables.heaps ≡ w.tables.heaps → event_of t r c ≡ event_of u w c
  unfolding event_of principal_in
  same_events_of t u r w none a d e f = refl
  same_events_of t u r w (some (iattest v)) a d e f = rw (a, d)
  same_events_of t u r w (some (icheck p v τ)) a d e f = rw (a, d)
  same_events_of t u r w (some (iprotect q v)) a d e f = rw (a, d)
  same_events_of t u r w (some (iretrieve p η o)) a d e f = rw (a, d, e, f)
  same_events_of t u r w (some (irelease p η)) a d e f = rw (a, d)

  same_events : (t u : Tables) (r w : Result) (y : Reading) → t.box ≡ u.box → t.heaps ≡ u.heaps → r.answer ≡ w.answer
      → r.tables.box ≡ w.tables.box → r.tables.heaps ≡ w.tables.heaps → events t r y ≡ events u w y
  unfolding events
  same_events t u r w (refused code number) a b d e f = refl
  same_events t u r w (whole c used) a b d e f =
      let own : ◌≡◌ {A = ℕ → ℕ → List ℕ} (own_bytes t) (own_bytes u) = λ m o n. part (b m) (256 * (a m).running + o) n in
      let n = same_events_of t u r w (command_of (own_bytes t) c) a d e f ∙ ap (λ x. event_of u w (command_of x c)) own in
      λ m. cond (eqb (d m).code 15) [] (n m)

  never_later : (t : Tables) (e : Element) (es : List Element) → NeverRetrieved call_on p q η t (e ∷ es)
      → NeverRetrieved call_on p q η (call_on t e).tables es
  unfolding tables_from element_at
  never_later t e es h k l r =
      h (suc k) (omega arith)
      (record { offset = r.offset; used = r.used; reads = r.reads; by = r.by; accepts = r.accepts })

  quiet : (s : State) (e : Element) (es : List Element) → Valid s → NeverRetrieved call_on p q η (tables s) (e ∷ es)
      → NeverFollowed call_on p q η (tables s) (e ∷ es) → eqb e.output_size 1024 ≡ true → (c : Call) (u : ℕ) → read e.bytes ≡ whole c u → Quiet s c
  unfolding tables_from element_at tables box_record is_absent absent
  quiet s e es v h f x c u y =
      record {
        retrieves = λ o is by r.
            h 0 (omega arith)
            (record {
              offset = o;
              used = u;
              reads = y ∙ ap (λ d. whole d u) is;
              by = by;
              accepts = accepted_code s e c u v x y r;
            });
        follows = λ first b is by left rest come some.
            let (few, there) = comes_to s v come in
            f 0 (omega arith)
            (record {
              first = first;
              bytes = b;
              used = u;
              reads = y ∙ ap (λ d. whole d u) is;
              by = by;
              before = 16 - suc left;
              few = omega arith;
              left = rest;
              comes = there;
              finds = sym (found_row s (state_tables s v) is_absent absent refl (λ e at. refl) p η) ∙ some;
            });
      }

  follow_later : (t : Tables) (e : Element) (es : List Element) → NeverFollowed call_on p q η t (e ∷ es)
      → NeverFollowed call_on p q η (call_on t e).tables es
  unfolding tables_from element_at
  follow_later t e es h k l r =
      h (suc k) (omega arith)
      (record {
        first = r.first;
        bytes = r.bytes;
        used = r.used;
        reads = r.reads;
        by = r.by;
        before = r.before;
        few = r.few;
        left = r.left;
        comes = r.comes;
        finds = r.finds;
      })

  pub run : (es : List Element) (s t : State) → Valid s → Valid t → SameBut z s t → NeverRetrieved call_on p q η (tables s) es
      → NeverFollowed call_on p q η (tables s) es → AgreeBut call_on p q η (tables s) (tables t) es
  unfolding answers_from behaviour_from tables_from laid
  run [] s t v w k h f = record { answers = refl; events = refl; end = only_value k v w }
  run (e ∷ es) s t v w k h f =
      let b = both_element z k e (λ x c u y. none_told (quiet s e es v h f x c u y)) in
      let s' = (step_element s e).state in
      let t' = (step_element t e).state in
      let i : (call_on (tables s) e).tables ≡ tables s' = ap (λ r. r.tables) (call_is s e v) in
      let j : (call_on (tables t) e).tables ≡ tables t' = ap (λ r. r.tables) (call_is t e w) in
      let a : (call_on (tables s) e).answer ≡ (call_on (tables t) e).answer =
      ap (λ r. r.answer) (call_is s e v) ∙ all_equal (chained (read e.bytes)) refl b.answer ∙ ap (λ r. r.answer) (sym (call_is t e w)) in
      let v' = valid_step s e v in
      let w' = valid_step t e w in
      let rest : AgreeBut call_on p q η (call_on (tables s) e).tables (call_on (tables t) e).tables es =
      subst₂ (λ x y. AgreeBut call_on p q η x y es) (sym i) (sym j)
      (run es s' t' v' w' b.state (subst (λ x. NeverRetrieved call_on p q η x es) i (never_later (tables s) e es h))
      (subst (λ x. NeverFollowed call_on p q η x es) i (follow_later (tables s) e es f))) in
      let before = only_value k v w in
      let after = subst₂ (λ x y. OnlyValue p q η x y) (sym i) (sym j) (only_value b.state v' w') in
      let one =
      same_events (tables s) (tables t) (call_on (tables s) e) (call_on (tables t) e) (read e.bytes) before.box
      before.heaps a
      after.box after.heaps in
      record {
        answers = λ m. a m ∷ rest.answers m;
        events = λ m. one m ++ rest.events m;
        end = rest.end;
      }

pub lemma3 : Lemma3 call_on
lemma3 p q η t u es x y o h f =
    let i = tables_state t 1024 x in
    let j = tables_state u 1024 y in
    subst₂ (λ a b. AgreeBut call_on p q η a b es) i j
    (run p q η es (state_of t) (state_of u) (valid_sound t 1024 x) (valid_sound u 1024 y) (same_states p q η x y o)
    (subst (λ a. NeverRetrieved call_on p q η a es) (sym i) h) (subst (λ a. NeverFollowed call_on p q η a es) (sym i) f))
