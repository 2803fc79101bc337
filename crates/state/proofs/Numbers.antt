-- No refusal has number 0. Assumes nothing.
use mathlib.Core.Path.{◌≡◌, refl}
use mathlib.Core.Bool.{false}
use lib.Dec.{eqb}
use Rattle.state.specs.declared.refusal.Refusal.{Refusal}
use Rattle.state.specs.declared.refusal.Refusal.TheVariants.{Cut, UnknownKind, WrongMap, NoneRuns, NoSuchPlace, WrongPlace, NotRunning, NoIdentity, NotEscrowed, Beyond, LargeDraw, LogFull, EscrowFull, Unsound, NoRoom, NotVouched, Malformed, LongChain, NoSuchCall, HighPlace, SecondValue}
use Rattle.state.specs.Refusals.{number_of}

pub number_not_zero : (r : Refusal) → eqb (number_of r) 0 ≡ false
number_not_zero Cut = refl
number_not_zero UnknownKind = refl
number_not_zero WrongMap = refl
number_not_zero NoneRuns = refl
number_not_zero NoSuchPlace = refl
number_not_zero WrongPlace = refl
number_not_zero NotRunning = refl
number_not_zero NoIdentity = refl
number_not_zero NotEscrowed = refl
number_not_zero Beyond = refl
number_not_zero LargeDraw = refl
number_not_zero LogFull = refl
number_not_zero EscrowFull = refl
number_not_zero Unsound = refl
number_not_zero NoRoom = refl
number_not_zero NotVouched = refl
number_not_zero Malformed = refl
number_not_zero LongChain = refl
number_not_zero NoSuchCall = refl
number_not_zero HighPlace = refl
number_not_zero SecondValue = refl
