-- What is printed of a script's sheet. Which bytes come in by standard input and go out by standard
-- output no contract can say: the bytes that are handed on to be written are said.
use Rattle.std.specs.Prelude.{ℕ, ◌+◌, ◌≤◌, ◌<◌, ◌≡◌, Result, Ok, Err, List, length, take, drop}
use Rattle.ideal.specs.Tables.{Tables}
use Rattle.ideal.specs.Box as box
use Rattle.sheet.specs.Sheet.{sheet}
use Rattle.printing.specs.declared.Failure.{Failure}
use Rattle.printing.specs.declared.Failure.TheVariants.{Read, Write}
use Rattle.printing.specs.declared.output.Progress.{Progress}
use Rattle.printing.specs.declared.output.Unwritten.{Unwritten}

-- what may be handed on where this many bytes of a text are printed: the bytes that come next in it, one at least
pub record NextPart (text : List ℕ) (printed : ℕ) (bytes : List ℕ) : Type 0 where
  pub some : 0 < length bytes
  pub same : bytes ≡ take (length bytes) (drop printed text)

-- the part is printed and counted, or it is the part that failed
abbrev pub PrintedPart : Result Progress Unwritten → (printed : ℕ) (bytes : List ℕ) → Type 0
PrintedPart (Ok p) printed bytes = p.printed ≡ printed + length bytes
PrintedPart (Err f) printed bytes = f.from ≡ printed

-- the whole text is printed, or a part within it failed
abbrev pub PrintedWhole : Result Progress Unwritten → (text : List ℕ) → Type 0
PrintedWhole (Ok p) text = p.printed ≡ length text
PrintedWhole (Err f) text = f.from < length text

-- of some script that fits in the buffer, by this box: its sheet is printed whole, or a part within it failed; or no script
-- was read
abbrev pub Ended : Result Progress Failure → (Tables → box.Element → box.Result) → Type 0
Ended (Ok p) box = (script : List ℕ) × (length script ≤ 65537) × PrintedWhole (Ok p) (sheet box script)
Ended (Err Read) box = Unit {0}
Ended (Err (Write f)) box = (script : List ℕ) × (length script ≤ 65537) × PrintedWhole (Err f) (sheet box script)
