-- Level one's own refusal of a call: the number of the test put in, where it holds and none before it does. Assumes nothing.
use Prim.Native.Nat.{ℕ}
use mathlib.Core.Path.{◌≡◌, refl}
use mathlib.Core.Bool.{Bool, true, false, not, ◌&&◌, ◌||◌, cond}
use lib.Dec.{eqb, ltb}
use Rattle.record.specs.Call.{Call, create, exit, heap_write, heap_read, shared_write, shared_read, attest, check, protect, retrieve, report, hand_over, chain, release}
use Rattle.ideal.specs.State.{State, any}
use Rattle.ideal.specs.Step.{first_holding, idle, beyond, tests, refusal}
use Rattle.ideal.specs.Refusals.{one_of}
use Rattle.ideal.specs.LevelOne.{put_after, logged_other, level_one_tests, level_one_refusal}
use Rattle.ideal.specs.LevelOneDemands.{barring}
use Rattle.lists.proofs.Bools.{by_cases}

-- 22 of a place that is too high and not beyond all places
unfoldable pub then22 : (beyond above : Bool) → ℕ
then22 beyond above = cond beyond 0 (cond above 22 0)

-- 23 of another value, while one runs, of a part within the heap
unfoldable pub then23 : (none far other : Bool) → ℕ
then23 none far other = cond none 0 (cond far 0 (cond other 23 0))

-- 0 where it has none
unfoldable pub barred_with : State → Call → ℕ
barred_with s (create p i) = then22 (ltb 15 p) (ltb 3 p)
barred_with s exit = 0
barred_with s (heap_write p o v) = 0
barred_with s (heap_read p o n) = 0
barred_with s (shared_write o v) = 0
barred_with s (shared_read o n) = 0
barred_with s (attest o n) = then23 (idle s) (beyond 256 o n) (logged_other s o n)
barred_with s (check i g v) = 0
barred_with s (protect i o n d) = 21
barred_with s (retrieve i o h) = 21
barred_with s report = 0
barred_with s (hand_over p) = then22 (ltb 16 p) (ltb 3 p && not (eqb p 16))
barred_with s (chain first v) = 21
barred_with s (release i h) = 21

-- level one's own refusal, where a call has one, else the full box's
pub level_one : (s : State) (c : Call) → level_one_refusal s c ≡ cond (eqb (barred_with s c) 0) (refusal s c) (barred_with s c)
unfolding level_one_refusal level_one_tests put_after tests first_holding refusal barred_with then22 then23
level_one s (create p i) =
    by_cases (ltb 15 p) (λ h. rw h) (λ h. by_cases (ltb 3 p) (λ k. rw (h, k)) (λ k. rw (h, k)))
level_one s exit = refl
level_one s (heap_write p o v) = refl
level_one s (heap_read p o n) = refl
level_one s (shared_write o v) = refl
level_one s (shared_read o n) = refl
level_one s (attest o n) =
    by_cases (idle s) (λ h. rw h)
    (λ h. by_cases (beyond 256 o n) (λ k. rw (h, k)) (λ k. by_cases (logged_other s o n) (λ l. rw (h, k, l)) (λ l. rw (h, k, l))))
level_one s (check i g v) = refl
level_one s (protect i o n d) = refl
level_one s (retrieve i o h) = refl
level_one s report = refl
level_one s (hand_over p) =
    by_cases (ltb 16 p) (λ h. rw h)
    (λ h. by_cases (ltb 3 p && not (eqb p 16)) (λ k. rw (h, k)) (λ k. rw (h, k)))
level_one s (chain first v) = refl
level_one s (release i h) = refl

-- it is one of the three, if any
none_or_barring : (s : State) (c : Call) → eqb (barred_with s c) 0 || barring (barred_with s c) ≡ true
unfolding barred_with then22 then23 barring one_of any
none_or_barring s (create p i) =
    by_cases (ltb 15 p) (λ h. rw h) (λ h. by_cases (ltb 3 p) (λ k. rw (h, k)) (λ k. rw (h, k)))
none_or_barring s exit = refl
none_or_barring s (heap_write p o v) = refl
none_or_barring s (heap_read p o n) = refl
none_or_barring s (shared_write o v) = refl
none_or_barring s (shared_read o n) = refl
none_or_barring s (attest o n) =
    by_cases (idle s) (λ h. rw h)
    (λ h. by_cases (beyond 256 o n) (λ k. rw (h, k)) (λ k. by_cases (logged_other s o n) (λ l. rw (h, k, l)) (λ l. rw (h, k, l))))
none_or_barring s (check i g v) = refl
none_or_barring s (protect i o n d) = refl
none_or_barring s (retrieve i o h) = refl
none_or_barring s report = refl
none_or_barring s (hand_over p) =
    by_cases (ltb 16 p) (λ h. rw h)
    (λ h. by_cases (ltb 3 p && not (eqb p 16)) (λ k. rw (h, k)) (λ k. rw (h, k)))
none_or_barring s (chain first v) = refl
none_or_barring s (release i h) = refl

pub barred_is : (s : State) (c : Call) → eqb (barred_with s c) 0 ≡ false → barring (barred_with s c) ≡ true
barred_is s c h = rw h at (none_or_barring s c)
