-- The kinds that alter neither the box record nor a table: their calls have an answer alone.
use Rattle.record.specs.declared.Call as code
use Rattle.record.specs.declared.Call.TheVariants.{Create, Exit, HeapWrite, HeapRead, SharedWrite, SharedRead, Attest, Check, Protect, Retrieve, Report, HandOver, Chain, Release}

unfoldable pub Alone : code.Call → Type 0
Alone (Create p i) = ⊥
Alone Exit = ⊥
Alone (HeapWrite p o v) = Unit {0}
Alone (HeapRead p o n) = Unit {0}
Alone (SharedWrite o v) = Unit {0}
Alone (SharedRead o n) = Unit {0}
Alone (Attest o n) = ⊥
Alone (Check i g v) = Unit {0}
Alone (Protect i o n d) = ⊥
Alone (Retrieve i o h) = Unit {0}
Alone Report = Unit {0}
Alone (HandOver p) = ⊥
Alone (Chain i f v) = Unit {0}
Alone (Release i h) = ⊥
