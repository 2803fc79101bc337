-- The number of each refusal, and what the outcome of a call on a part of the box means.
use Rattle.std.specs.Prelude.{ℕ, Result, Ok, Err}
use Rattle.ideal.specs.declared.BoxRecord.{BoxRecord}
use Rattle.state.specs.declared.Answer.{Answer}
use Rattle.state.specs.declared.Change.{Change}
use Rattle.state.specs.declared.refusal.Refusal.{Refusal}
use Rattle.state.specs.declared.refusal.Refusal.TheVariants.{Cut, UnknownKind, WrongMap, NoneRuns, NoSuchPlace, WrongPlace, NotRunning, NoIdentity, NotEscrowed, Beyond, LargeDraw, LogFull, EscrowFull, Unsound, NoRoom, NotVouched, Malformed, LongChain, NoSuchCall, HighPlace, SecondValue}
use Rattle.state.specs.Answers.{refused_with, accepted_with, shown_with}
use Rattle.state.specs.Edits.{unchanged}

-- documents 01 and 02's number
abbrev pub number_of : Refusal → ℕ
number_of Cut = 1
number_of UnknownKind = 2
number_of WrongMap = 3
number_of NoneRuns = 4
number_of NoSuchPlace = 6
number_of WrongPlace = 7
number_of NotRunning = 8
number_of NoIdentity = 9
number_of NotEscrowed = 10
number_of Beyond = 11
number_of LargeDraw = 12
number_of LogFull = 13
number_of EscrowFull = 14
number_of Unsound = 15
number_of NoRoom = 17
number_of NotVouched = 18
number_of Malformed = 19
number_of LongChain = 20
number_of NoSuchCall = 21
number_of HighPlace = 22
number_of SecondValue = 23

-- the answer of a call that gives a number and shows nothing
abbrev pub answer_in : Result ℕ Refusal → Answer
answer_in (Ok number) = accepted_with number
answer_in (Err r) = refused_with (number_of r)

-- the answer of a call that shows n bytes
abbrev pub shown_in : Result ℕ Refusal → Answer
shown_in (Ok n) = shown_with n
shown_in (Err r) = refused_with (number_of r)

-- what a call makes of the box: nothing, where it is refused
abbrev pub change_in : BoxRecord → Result Change Refusal → Change
change_in b (Ok c) = c
change_in b (Err r) = unchanged b (refused_with (number_of r))

-- the number of a test's refusal, and 0 where it refuses nothing
abbrev pub number_in : {A : Type 0} → Result A Refusal → ℕ
number_in (Ok a) = 0
number_in (Err r) = number_of r
