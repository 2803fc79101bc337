-- After any run of a level-one box the places above 3 are empty and do not run, and the escrow is empty: so say the moves of
-- its accepted calls. Assumes nothing.
use Prim.Native.Nat.{ℕ, ◌≤◌, ◌<◌}
use mathlib.Core.Path.{◌≡◌, refl, sym, ap, ◌∙◌}
use mathlib.Core.Bool.{Bool, true, false, not, ◌&&◌, ◌||◌, true≢false, false≢true}
use mathlib.Core.List.{List, [], ◌∷◌}
use native.Mathlib.Omega.{arith}
use lib.ListN.{length}
use lib.Dec.{eqb, ltb, leb}
use borrow.Author.Tests.{eqb-true, ne_eqb, ltb-false, leb-true, le-leb}
use Rattle.record.specs.Call.{Call, create, exit, heap_write, heap_read, shared_write, shared_read, attest, check, protect, retrieve, report, hand_over, chain, release}
use Rattle.record.specs.Read.{Reading, refused, whole, read}
use Rattle.ideal.specs.State.{State, Move, nothing, takes, activates, empties, writes, shares, logs, escrows, releases, any, every}
use Rattle.ideal.specs.Step.{tests}
use Rattle.ideal.specs.Tables.{Tables, state_of, fresh_tables}
use Rattle.ideal.specs.Box.{Element, laid, tables_after}
use Rattle.ideal.specs.Refusals.{one_of}
use Rattle.ideal.specs.History.{move_seen, added, past_from, past_of, runs, holder, protects}
use Rattle.ideal.specs.LevelOne.{put_after, level_one_tests, level_one_refusal, level_one_on}
use Rattle.ideal.specs.LevelOneDemands.{barring, LowPlaces}
use Rattle.lists.proofs.Bools.{by_cases, and_left, and_right, and_true, or_true_left, or_true_right, or_nil, and_nil}
use Rattle.ideal.proofs.Passing.{failed, passed}
use Rattle.ideal.proofs.Accepts.{sound_of}
use Rattle.ideal.proofs.Numbers.{settle_code}
use Rattle.ideal.proofs.OneAnswer.{box_settles}
use Rattle.ideal.proofs.LevelOneCalls.{full_with}
use Rattle.ideal.proofs.LevelOneHistory.{holds}

-- a place of a level-one box, or none
low_or_none : ℕ → Bool
low_or_none p = leb p 3 || eqb p 16

low_move : Move → Bool
low_move nothing = true
low_move (takes p i) = leb p 3
low_move (activates p) = low_or_none p
low_move (empties p) = true
low_move (writes p o v) = true
low_move (shares o v) = true
low_move (logs e) = true
low_move (escrows e) = false
low_move (releases i r h) = false

abbrev Low : List Move → Type 0
Low past = every low_move past ≡ true

-- ---- what such moves say

low_runs : (past : List Move) → Low past → low_or_none (runs past) ≡ true
unfolding every low_move low_or_none runs
low_runs [] h = refl
low_runs (nothing ∷ past) h = low_runs past h
low_runs (takes p i ∷ past) h = low_runs past (and_right (leb p 3) _ h)
low_runs (activates p ∷ past) h = and_left (low_or_none p) _ h
low_runs (empties p ∷ past) h = refl
low_runs (writes p o v ∷ past) h = low_runs past h
low_runs (shares o v ∷ past) h = low_runs past h
low_runs (logs e ∷ past) h = low_runs past h
low_runs (escrows e ∷ past) h = absurd (false≢true h)
low_runs (releases i r g ∷ past) h = absurd (false≢true h)

low_holder : (past : List Move) (p : ℕ) → 3 < p → Low past → holder past p ≡ 0
unfolding every low_move holder
low_holder [] p l h = refl
low_holder (nothing ∷ past) p l h = low_holder past p l h
low_holder (takes q i ∷ past) p l h =
    let m = leb-true q 3 (and_left (leb q 3) _ h) in
    rw (ne_eqb p q (λ e. omega arith)) (low_holder past p l (and_right (leb q 3) _ h))
low_holder (activates q ∷ past) p l h = low_holder past p l (and_right (low_or_none q) _ h)
low_holder (empties q ∷ past) p l h = by_cases (eqb p q) (λ e. rw e) (λ e. rw e (low_holder past p l h))
low_holder (writes q o v ∷ past) p l h = low_holder past p l h
low_holder (shares o v ∷ past) p l h = low_holder past p l h
low_holder (logs e ∷ past) p l h = low_holder past p l h
low_holder (escrows e ∷ past) p l h = absurd (false≢true h)
low_holder (releases i r g ∷ past) p l h = absurd (false≢true h)

low_protects : (past : List Move) → Low past → length (protects past) ≡ 0
unfolding every low_move protects
low_protects [] h = refl
low_protects (nothing ∷ past) h = low_protects past h
low_protects (takes p i ∷ past) h = low_protects past (and_right (leb p 3) _ h)
low_protects (activates p ∷ past) h = low_protects past (and_right (low_or_none p) _ h)
low_protects (empties p ∷ past) h = low_protects past h
low_protects (writes p o v ∷ past) h = low_protects past h
low_protects (shares o v ∷ past) h = low_protects past h
low_protects (logs e ∷ past) h = low_protects past h
low_protects (escrows e ∷ past) h = absurd (false≢true h)
low_protects (releases i r g ∷ past) h = absurd (false≢true h)

-- ---- the moves of accepted calls

low_place : (p : ℕ) → ltb 3 p ≡ false → leb p 3 ≡ true
low_place p h = let l : p ≤ 3 = ltb-false 3 p h in le-leb p 3 l

low_or_none_lem : (p : ℕ) → ltb 3 p && not (eqb p 16) ≡ false → low_or_none p ≡ true
unfolding low_or_none
low_or_none_lem p h =
    by_cases (eqb p 16) (λ e. or_true_right (leb p 3) _ e)
    (λ e. let l : ltb 3 p && true ≡ false = rw e at h in or_true_left _ _ (low_place p (sym (and_nil (ltb 3 p)) ∙ l)))

low_seen : (s : State) (t u : Tables) (n : ℕ) (c : Call) → level_one_refusal s c ≡ 0 → low_move (move_seen t u n c) ≡ true
unfolding level_one_refusal level_one_tests put_after tests low_move move_seen
low_seen s t u n (create p i) r = low_place p (failed 21 _ _ (passed 5 _ _ r))
low_seen s t u n exit r = refl
low_seen s t u n (heap_write p o v) r = refl
low_seen s t u n (heap_read p o m) r = refl
low_seen s t u n (shared_write o v) r = refl
low_seen s t u n (shared_read o m) r = refl
low_seen s t u n (attest o m) r = refl
low_seen s t u n (check i g v) r = refl
low_seen s t u n (protect i o m d) r = absurd (true≢false (failed 20 true _ r))
low_seen s t u n (retrieve i o h) r = refl
low_seen s t u n report r = refl
low_seen s t u n (hand_over p) r = low_or_none_lem p (failed 21 _ _ (passed 5 _ _ r))
low_seen s t u n (chain first v) r = refl
low_seen s t u n (release i h) r = absurd (true≢false (failed 20 true _ r))

accepted_passes : (t : Tables) (e : Element) (c : Call) (used : ℕ) → read e.bytes ≡ whole c used → (level_one_on t e).answer.code ≡ 0
    → level_one_refusal (state_of t) c ≡ 0
unfolding barring one_of any laid
accepted_passes t e c used r z =
    let ok = sound_of t e (rw (full_with t e 0 refl z) at z) in
    sym (settle_code (level_one_refusal (state_of t) c) (state_of t) c used)
    ∙ ap (λ x. x.answer.code) (sym (box_settles level_one_refusal t e ok c used r)) ∙ z

module _ (t : Tables) (e : Element) (past : List Move) (h : Low past) where
  low_reading : (r : Reading) → read e.bytes ≡ r → Low (added t (level_one_on t e) r past)
  unfolding added every
  low_reading (refused code n) q = h
  low_reading (whole c used) q =
      let r = level_one_on t e in
      by_cases (eqb r.answer.code 0)
      (λ y.
      let z = accepted_passes t e c used q (eqb-true _ 0 y) in
      rw y (and_true _ _ (low_seen (state_of t) t r.tables r.answer.number c z) h))
      (λ y. rw y h)

low_from : (t : Tables) (past : List Move) (es : List Element) → Low past → Low (past_from level_one_on t past es)
unfolding past_from
low_from t past [] h = h
low_from t past (e ∷ es) h = low_from (level_one_on t e).tables _ es (low_reading t e past h (read e.bytes) refl)

low_past : (es : List Element) → Low (past_of level_one_on es)
unfolding past_of every
low_past es = low_from fresh_tables [] es refl

pub low : (es : List Element) → LowPlaces (tables_after level_one_on es)
unfolding low_or_none
low es =
    let a = holds es in
    let past = past_of level_one_on es in
    let h = low_past es in
    record {
      empty = λ p l b. a.identity p b ∙ low_holder past p l h;
      running = λ l.
          let r = runs past in
          let m = a.running in
          by_cases (eqb r 16) (λ y. m ∙ eqb-true r 16 y)
          (λ n. let k : leb r 3 || false ≡ true = rw n at (low_runs past h) in
          absurd (omega (arith, leb-true r 3 (sym (or_nil (leb r 3)) ∙ k))));
      escrow = a.escrow_rows ∙ low_protects past h;
    }
