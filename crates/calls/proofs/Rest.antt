-- The kinds that the last arm of each match is left with. Assumes nothing.
use Prim.Native.Nat.{ℕ}
use mathlib.Core.Path.{◌≡◌, refl}
use Rattle.fnv.specs.declared.Tag.{Tag}
use Rattle.record.specs.declared.Handle.{Handle}
use Rattle.record.specs.declared.Draw.{Draw}
use Rattle.record.specs.declared.Part.{Part}
use Rattle.record.specs.declared.First.{First}
use Rattle.record.specs.declared.Call as code
use Rattle.record.specs.declared.Call.TheVariants.{Create, Exit, HeapWrite, HeapRead, SharedWrite, SharedRead, Attest, Check, Protect, Retrieve, Report, HandOver, Chain, Release}
use Rattle.calls.specs.Alone.{Alone}

pub rest_alone : (c : code.Call)
    → ((p : ℕ) (i : ℕ) → c ≡ Create p i → ⊥)
    → (c ≡ Exit → ⊥)
    → ((o : ℕ) (n : ℕ) → c ≡ Attest o n → ⊥)
    → ((i : ℕ) (o : ℕ) (n : ℕ) (d : Draw) → c ≡ Protect i o n d → ⊥)
    → ((p : ℕ) → c ≡ HandOver p → ⊥)
    → ((i : ℕ) (h : Handle) → c ≡ Release i h → ⊥)
    → Alone c
unfolding Alone
rest_alone (Create p i) create exit attest protect hand_over release = absurd (create p i refl)
rest_alone Exit create exit attest protect hand_over release = absurd (exit refl)
rest_alone (HeapWrite p o v) create exit attest protect hand_over release = tt
rest_alone (HeapRead p o n) create exit attest protect hand_over release = tt
rest_alone (SharedWrite o v) create exit attest protect hand_over release = tt
rest_alone (SharedRead o n) create exit attest protect hand_over release = tt
rest_alone (Attest o n) create exit attest protect hand_over release = absurd (attest o n refl)
rest_alone (Check i g v) create exit attest protect hand_over release = tt
rest_alone (Protect i o n d) create exit attest protect hand_over release = absurd (protect i o n d refl)
rest_alone (Retrieve i o h) create exit attest protect hand_over release = tt
rest_alone Report create exit attest protect hand_over release = tt
rest_alone (HandOver p) create exit attest protect hand_over release = absurd (hand_over p refl)
rest_alone (Chain i f v) create exit attest protect hand_over release = tt
rest_alone (Release i h) create exit attest protect hand_over release = absurd (release i h refl)

pub rest_report : (c : code.Call)
    → ((p : ℕ) (o : ℕ) (v : Part) → c ≡ HeapWrite p o v → ⊥)
    → ((p : ℕ) (o : ℕ) (n : ℕ) → c ≡ HeapRead p o n → ⊥)
    → ((o : ℕ) (v : Part) → c ≡ SharedWrite o v → ⊥)
    → ((o : ℕ) (n : ℕ) → c ≡ SharedRead o n → ⊥)
    → ((i : ℕ) (g : Tag) (v : Part) → c ≡ Check i g v → ⊥)
    → ((i : ℕ) (o : ℕ) (h : Handle) → c ≡ Retrieve i o h → ⊥)
    → ((i : ℕ) (f : First) (v : Part) → c ≡ Chain i f v → ⊥)
    → Alone c → c ≡ Report
unfolding Alone
rest_report (Create p i) heap_write heap_read shared_write shared_read check retrieve chain w = absurd w
rest_report Exit heap_write heap_read shared_write shared_read check retrieve chain w = absurd w
rest_report (HeapWrite p o v) heap_write heap_read shared_write shared_read check retrieve chain w = absurd (heap_write p o v refl)
rest_report (HeapRead p o n) heap_write heap_read shared_write shared_read check retrieve chain w = absurd (heap_read p o n refl)
rest_report (SharedWrite o v) heap_write heap_read shared_write shared_read check retrieve chain w = absurd (shared_write o v refl)
rest_report (SharedRead o n) heap_write heap_read shared_write shared_read check retrieve chain w = absurd (shared_read o n refl)
rest_report (Attest o n) heap_write heap_read shared_write shared_read check retrieve chain w = absurd w
rest_report (Check i g v) heap_write heap_read shared_write shared_read check retrieve chain w = absurd (check i g v refl)
rest_report (Protect i o n d) heap_write heap_read shared_write shared_read check retrieve chain w = absurd w
rest_report (Retrieve i o h) heap_write heap_read shared_write shared_read check retrieve chain w = absurd (retrieve i o h refl)
rest_report Report heap_write heap_read shared_write shared_read check retrieve chain w = refl
rest_report (HandOver p) heap_write heap_read shared_write shared_read check retrieve chain w = absurd w
rest_report (Chain i f v) heap_write heap_read shared_write shared_read check retrieve chain w = absurd (chain i f v refl)
rest_report (Release i h) heap_write heap_read shared_write shared_read check retrieve chain w = absurd w
