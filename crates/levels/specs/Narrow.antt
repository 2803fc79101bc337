-- Level one's own refusals, on the parts of the box that decide them; 0 where there is none.
use Rattle.std.specs.Prelude.{ℕ, ◌&&◌, cond, List, eqb, ltb}
use Rattle.record.specs.declared.Call as code
use Rattle.record.specs.declared.Call.TheVariants.{Create, Exit, HeapWrite, HeapRead, SharedWrite, SharedRead, Attest, Check, Protect, Retrieve, Report, HandOver, Chain, Release}
use Rattle.ideal.specs.declared.BoxRecord.{BoxRecord}
use Rattle.ideal.specs.declared.LogRow.{LogRow}
use Rattle.ideal.specs.declared.Profile.{Profile}
use Rattle.ideal.specs.declared.Profile.TheVariants.{Full, LevelOne}
use Rattle.ideal.specs.State.{part, any}
use Rattle.ideal.specs.Step.{beyond}
use Rattle.ideal.specs.LevelOne.{is_other}
use Rattle.state.specs.Parts.{caller_of, heap_byte, log_of}

-- a place of 4 to 15
unfoldable pub place_barred : ℕ → ℕ
place_barred p = cond (ltb 3 p && ltb p 16) 22 0

unfoldable pub attest_barred : BoxRecord → List LogRow → (heaps values : List ℕ) → (offset size : ℕ) → ℕ
attest_barred b rows heaps values o n =
    let other = any (is_other (caller_of b) (part heaps (heap_byte b o) n)) (log_of b rows values) in
    cond (eqb b.running 16) 0 (cond (beyond 256 o n) 0 (cond other 23 0))

unfoldable pub barred_on : BoxRecord → List LogRow → (heaps values : List ℕ) → code.Call → ℕ
barred_on b rows heaps values (Create p i) = place_barred p
barred_on b rows heaps values Exit = 0
barred_on b rows heaps values (HeapWrite p o v) = 0
barred_on b rows heaps values (HeapRead p o n) = 0
barred_on b rows heaps values (SharedWrite o v) = 0
barred_on b rows heaps values (SharedRead o n) = 0
barred_on b rows heaps values (Attest o n) = attest_barred b rows heaps values o n
barred_on b rows heaps values (Check i g v) = 0
barred_on b rows heaps values (Protect i o n d) = 21
barred_on b rows heaps values (Retrieve i o h) = 21
barred_on b rows heaps values Report = 0
barred_on b rows heaps values (HandOver p) = place_barred p
barred_on b rows heaps values (Chain i f v) = 21
barred_on b rows heaps values (Release i h) = 21

-- what refuses a call before the full box's tests do
unfoldable pub own_refusal : Profile → BoxRecord → List LogRow → (heaps values : List ℕ) → code.Call → ℕ
own_refusal Full b rows heaps values c = 0
own_refusal LevelOne b rows heaps values c = barred_on b rows heaps values c
