-- What an accepted call does: its move, with what its tests made sure of. Invariants go by this, one case a move. Assumes
-- nothing.
use Prim.Native.Nat.{ℕ, ◌+◌, ◌^◌, ◌≤◌, ◌<◌}
use mathlib.Core.Path.{◌≡◌, refl}
use mathlib.Core.Bool.{true, false, not, ◌&&◌}
use mathlib.Core.List.{List, [], ◌∷◌}
use native.Mathlib.Omega.{arith}
use lib.ListN.{length, length-drop}
use lib.Seq.{length-take-le}
use lib.Dec.{eqb, ltb}
use borrow.Author.Tests.{lt-ltb, ltb-false, eqb-true, eqb-false, leb-false, not-false}
use Rattle.record.specs.declared.Handle.{Handle}
use Rattle.record.specs.declared.Draw.{Draw}
use Rattle.record.specs.Call.{Call, create, exit, heap_write, heap_read, shared_write, shared_read, attest, check, protect, retrieve, report, hand_over, chain, release}
use Rattle.record.specs.Write.{filled}
use Rattle.ideal.specs.State.{State, Move, nothing, takes, activates, empties, writes, shares, logs, escrows, releases, identity_at, caller, own_part, any}
use Rattle.ideal.specs.Step.{paired, pair_of, full, found, absent, idle, vacant, beyond, tests, refusal, protected, move}
use Rattle.ideal.specs.Refusals.{one_of}
use Rattle.ideal.specs.Valid.{Valid}
use Rattle.lists.proofs.Bools.{and_other}
use Rattle.ideal.proofs.Passing.{failed, passed}

pub own_size : (s : State) (o n : ℕ) → Valid s → s.running < 16 → o + n ≤ 256 → length (own_part s o n) ≡ n
unfolding own_part
own_size s o n k r h = let z = k.sizes s.running r in length-take-le n _ (simp length-drop (omega arith))

pub busy : (s : State) → Valid s → idle s ≡ false → s.running < 16
unfolding idle
busy s k e = let n = eqb-false s.running 16 e in let m = k.runs in omega arith

-- ---- what an attest, a protect and a release passed

pub record AttestPassed (s : State) (o n : ℕ) : Type 0 where
  pub runs : s.running < 16
  pub fits : o + n ≤ 256
  pub room : not (paired (caller s) (own_part s o n) s.log) && full s.log n ≡ false

pub attest_passed : (s : State) (o n : ℕ) → Valid s → refusal s (attest o n) ≡ 0 → AttestPassed s o n
unfolding refusal tests beyond
attest_passed s o n k r =
    let r₁ = passed 3 (idle s) _ r in
    record {
      runs = busy s k (failed 3 (idle s) _ r);
      fits = ltb-false 256 (o + n) (failed 10 _ _ r₁);
      room = failed 12 (not (paired (caller s) (own_part s o n) s.log) && full s.log n) _ (passed 10 _ _ r₁);
    }

pub record ProtectPassed (s : State) (i o n : ℕ) (d : Draw) : Type 0 where
  pub runs : s.running < 16
  pub named : i ≡ 0 → ⊥
  pub fits : o + n ≤ 256
  pub small : d.0 < 2 ^ 48
  pub room : full s.escrow n ≡ false

pub protect_passed : (s : State) (i o n : ℕ) (d : Draw) → Valid s → refusal s (protect i o n d) ≡ 0 → ProtectPassed s i o n d
unfolding refusal tests beyond
protect_passed s i o n d k r =
    let r₁ = passed 3 (idle s) _ r in
    let r₂ = passed 8 (eqb i 0) _ r₁ in
    let r₃ = passed 10 _ _ r₂ in
    record {
      runs = busy s k (failed 3 (idle s) _ r);
      named = eqb-false i 0 (failed 8 (eqb i 0) _ r₁);
      fits = ltb-false 256 (o + n) (failed 10 _ _ r₂);
      small = leb-false (2 ^ 48) d.0 (failed 11 _ _ r₃);
      room = failed 13 (full s.escrow n) _ (passed 11 _ _ r₃);
    }

pub record ReleasePassed (s : State) (i : ℕ) (h : Handle) : Type 0 where
  pub runs : s.running < 16
  pub named : i ≡ 0 → ⊥
  pub there : absent (found s i h) ≡ false

pub release_passed : (s : State) (i : ℕ) (h : Handle) → Valid s → refusal s (release i h) ≡ 0 → ReleasePassed s i h
unfolding refusal tests
release_passed s i h k r =
    let r₁ = passed 3 (idle s) _ r in
    record {
      runs = busy s k (failed 3 (idle s) _ r);
      named = eqb-false i 0 (failed 8 (eqb i 0) _ r₁);
      there = failed 9 (absent (found s i h)) _ (passed 8 (eqb i 0) _ r₁);
    }

-- ---- moves

pub data Does (s : State) : Call → Move → Type 0 where
  does_nothing : {c : Call} → Does s c nothing
  does_take : {c : Call} {p i : ℕ} → p < 16 → identity_at s p ≡ 0 → (i ≡ 0 → ⊥) → Does s c (takes p i)
  does_activate : {c : Call} {p : ℕ} → p ≤ 16 → (p < 16 → identity_at s p ≡ 0 → ⊥) → Does s c (activates p)
  does_empty : {c : Call} → s.running < 16 → Does s c (empties s.running)
  does_write : {c : Call} {o : ℕ} {v : List ℕ} → one_of (5 ∷ 12 ∷ []) (filled c).kind ≡ true → s.running < 16
      → o + length v ≤ 256 → Does s c (writes s.running o v)
  does_share : {c : Call} {o : ℕ} {v : List ℕ} → o + length v ≤ 1024 → Does s c (shares o v)
  does_log : {o n : ℕ} → AttestPassed s o n → Does s (attest o n) (logs (pair_of (caller s) (own_part s o n)))
  does_escrow : {i o n : ℕ} {d : Draw} → ProtectPassed s i o n d → Does s (protect i o n d) (escrows (protected s i o n d))
  does_release : {i : ℕ} {h : Handle} → ReleasePassed s i h → Does s (release i h) (releases i (caller s) h)

-- ---- the move of each kind

pub does : (s : State) (c : Call) → Valid s → refusal s c ≡ 0 → Does s c (move s c)
unfolding move refusal tests vacant beyond one_of any filled
does s (create p i) k r =
    let r₁ = passed 5 (ltb 15 p) _ r in
    let h = ltb-false 15 p (failed 5 _ _ r) in
    let low : p < 16 = omega arith in
    let empty = eqb-true (identity_at s p) 0 (not-false _ (failed 6 _ _ r₁)) in
    does_take low empty (eqb-false i 0 (failed 8 _ _ (passed 6 _ _ r₁)))
does s exit k r = does_empty (busy s k (failed 3 _ _ r))
does s (heap_write p o v) k r =
    does_write refl (busy s k (failed 3 _ _ r))
    (ltb-false 256 (o + length v) (failed 10 _ _ (passed 7 _ _ (passed 5 _ _ (passed 3 _ _ r)))))
does s (heap_read p o n) k r = does_nothing
does s (shared_write o v) k r = does_share (ltb-false 1024 (o + length v) (failed 10 _ _ r))
does s (shared_read o n) k r = does_nothing
does s (attest o n) k r = does_log (attest_passed s o n k r)
does s (check i g v) k r = does_nothing
does s (protect i o n d) k r = does_escrow (protect_passed s i o n d k r)
does s (retrieve i o h) k r =
    does_write refl (busy s k (failed 3 _ _ r))
    (ltb-false 256 _ (failed 10 _ _ (passed 9 _ _ (passed 8 _ _ (passed 3 _ _ r)))))
does s report k r = does_nothing
does s (hand_over p) k r =
    let low = ltb-false 16 p (failed 5 _ _ r) in
    let there = failed 6 _ _ (passed 5 (ltb 16 p) _ r) in
    does_activate low (λ h. eqb-false (identity_at s p) 0 (and_other (ltb p 16) _ (lt-ltb p 16 h) there))
does s (chain first v) k r = does_nothing
does s (release i h) k r = does_release (release_passed s i h k r)
