-- What the writer's answer means: document 01's numbers and values.
use Rattle.std.specs.Prelude.{ℕ, Result, Ok, Err, List}
use Rattle.record.specs.Write.{WriteResult}
use Rattle.writer.specs.declared.Unwritten.{Unwritten}
use Rattle.writer.specs.declared.Unwritten.TheVariants.{UnknownKind, NoRoom}

abbrev pub unwritten_code : Unwritten → ℕ
unwritten_code UnknownKind = 2
unwritten_code NoRoom = 17

abbrev pub written_code : Result ℕ Unwritten → ℕ
written_code (Ok n) = 0
written_code (Err e) = unwritten_code e

abbrev pub written_length : Result ℕ Unwritten → ℕ
written_length (Ok n) = n
written_length (Err e) = 0

-- the writer's answer, with what its buffer then holds
abbrev pub wrote_on : Result ℕ Unwritten → List ℕ → WriteResult
wrote_on w buffer = record { code = written_code w; length = written_length w; buffer = buffer }
