-- What an accepted call answers: the last column of document 01's table, on the host's tables.
use Rattle.std.specs.Prelude.{ℕ, ◌≡◌, false, [], ◌∷◌, length}
use Rattle.std.proofs.Math.Option.{Option, none, some}
use Rattle.fnv.specs.Fnv.{tag_of}
use Rattle.record.specs.Call.{Call, create, exit, heap_write, heap_read, shared_write, shared_read, attest, check, protect, retrieve, report, hand_over, chain, release}
use Rattle.record.specs.Read.{whole, read}
use Rattle.record.specs.Write.{filled}
use Rattle.ideal.specs.Step.{Answer}
use Rattle.ideal.specs.Tables.{Tables}
use Rattle.ideal.specs.Box.{Element, Result}
use Rattle.ideal.specs.Refusals.{caller_in, own_bytes, one_of}

-- none where the number is the history's to say: check, protect, retrieve, chain (specs/Accuracy.antt), report (specs/History.antt)
unfoldable pub plain_number : Tables → Call → Option ℕ
plain_number t (create p i) = some p
plain_number t exit = some 0
plain_number t (heap_write p o v) = some (length v)
plain_number t (heap_read p o n) = some n
plain_number t (shared_write o v) = some (length v)
plain_number t (shared_read o n) = some n
plain_number t (attest o n) = some (tag_of (caller_in t) (own_bytes t o n)).0
plain_number t (check i g v) = none
plain_number t (protect i o n d) = none
plain_number t (retrieve i o h) = none
plain_number t report = none
plain_number t (hand_over p) = some 0
plain_number t (chain first v) = none
plain_number t (release i h) = some 0

pub record Answered (t : Tables) (c : Call) (size : ℕ) (a : Answer) : Type 0 where
  pub number : (n : ℕ) → plain_number t c ≡ some n → a.number ≡ n
  -- the record's length
  pub used : a.used ≡ size
  -- calls other than reads show nothing
  pub shown : one_of (6 ∷ 8 ∷ []) (filled c).kind ≡ false → a.shown ≡ []

abbrev pub AcceptedAnswers : (Tables → Element → Result) → Type 0
AcceptedAnswers box = (t : Tables) (e : Element) (c : Call) (used : ℕ) → read e.bytes ≡ whole c used
    → (box t e).answer.code ≡ 0 → Answered t c used (box t e).answer
