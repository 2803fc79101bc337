-- What each case of the code's enums means: document 01's numbers and values.
use Rattle.std.specs.Prelude.{ℕ, ◌+◌, ◌≤◌, Option, Some, None, Result, Ok, Err, List, length, take, drop}
use Rattle.record.specs.declared.Part.{Part}
use Rattle.record.specs.declared.First.{First}
use Rattle.record.specs.declared.First.TheVariants.{Logged, Escrowed, Neither}
use Rattle.record.specs.declared.Call as code
use Rattle.record.specs.declared.Call.TheVariants.{Create, Exit, HeapWrite, HeapRead, SharedWrite, SharedRead, Attest, Check, Protect, Retrieve, Report, HandOver, Chain, Release}
use Rattle.record.specs.declared.Read as found
use Rattle.record.specs.declared.Unread.{Unread}
use Rattle.record.specs.declared.Unread.TheVariants.{Cut, UnknownKind, WrongMap}
use Rattle.record.specs.Call.{Link, logged_link, escrowed_link, stray_link, Call, create, exit, heap_write, heap_read, shared_write, shared_read, attest, check, protect, retrieve, report, hand_over, chain, release}
use Rattle.record.specs.Layout.{OrRefusal, gives, refuses}
use Rattle.record.specs.Read.{Reading, whole, cut, unknown, wrong_map}

-- the bytes of a bytes field
unfoldable pub bytes_in : List ℕ → Part → List ℕ
bytes_in bs p = take p.count (drop p.start bs)

-- a chain's first link, of this identity
unfoldable pub link_in : ℕ → First → Link
link_in i (Logged g) = logged_link i g
link_in i (Escrowed h) = escrowed_link i h
link_in i (Neither w x) = stray_link w i x

-- the call of a record's bytes
unfoldable pub call_in : List ℕ → code.Call → Call
call_in bs (Create p i) = create p i
call_in bs Exit = exit
call_in bs (HeapWrite p o v) = heap_write p o (bytes_in bs v)
call_in bs (HeapRead p o n) = heap_read p o n
call_in bs (SharedWrite o v) = shared_write o (bytes_in bs v)
call_in bs (SharedRead o n) = shared_read o n
call_in bs (Attest o n) = attest o n
call_in bs (Check i g v) = check i g (bytes_in bs v)
call_in bs (Protect i o n d) = protect i o n d
call_in bs (Retrieve i o h) = retrieve i o h
call_in bs Report = report
call_in bs (HandOver p) = hand_over p
call_in bs (Chain i f v) = chain (link_in i f) (bytes_in bs v)
call_in bs (Release i h) = release i h

abbrev pub unread_in : Unread → Reading
unread_in (Cut missing) = cut missing
unread_in UnknownKind = unknown
unread_in WrongMap = wrong_map

abbrev pub reading_in : List ℕ → Result found.Read Unread → Reading
reading_in bs (Ok r) = whole (call_in bs r.call) r.used
reading_in bs (Err e) = unread_in e

-- a bytes field lies within the record
unfoldable pub PartWithin : List ℕ → Part → Type 0
PartWithin bs p = p.start + p.count ≤ length bs

-- what the reader promises of a call: its bytes field lies within the record
unfoldable pub CallWithin : List ℕ → code.Call → Type 0
CallWithin bs (Create p i) = Unit {0}
CallWithin bs Exit = Unit {0}
CallWithin bs (HeapWrite p o v) = PartWithin bs v
CallWithin bs (HeapRead p o n) = Unit {0}
CallWithin bs (SharedWrite o v) = PartWithin bs v
CallWithin bs (SharedRead o n) = Unit {0}
CallWithin bs (Attest o n) = Unit {0}
CallWithin bs (Check i g v) = PartWithin bs v
CallWithin bs (Protect i o n d) = Unit {0}
CallWithin bs (Retrieve i o h) = Unit {0}
CallWithin bs Report = Unit {0}
CallWithin bs (HandOver p) = Unit {0}
CallWithin bs (Chain i f v) = PartWithin bs v
CallWithin bs (Release i h) = Unit {0}

abbrev pub ReadingWithin : List ℕ → Result found.Read Unread → Type 0
ReadingWithin bs (Ok r) = CallWithin bs r.call × (r.used ≤ length bs)
ReadingWithin bs (Err e) = Unit {0}

-- a kind's one legal map, or none
abbrev pub legal_map : Option ℕ → OrRefusal ℕ
legal_map (Some m) = gives m
legal_map None = refuses 2
