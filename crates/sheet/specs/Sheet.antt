-- The answer sheet of a script (document 01, "The answer sheet"), by a box.
use Rattle.std.specs.Prelude.{ℕ, zero, suc, ◌+◌, ◌-◌, ◌/◌, ◌%◌, ◌≤◌, ◌<◌, ◌≡◌, cond, List, [], ◌∷◌, ◌++◌, map, length, ltb}
use Prim.Native.Char.{code}
use Prim.Native.String.{String}
use Rattle.ideal.specs.Step.{Answer}
use Rattle.ideal.specs.Tables.{Tables, fresh_tables, flat}
use Rattle.ideal.specs.Box.{Element, Result, answers_from}
use Rattle.sheet.specs.Records.{records_of}

-- ---- text

-- the bytes of a text
unfoldable pub bytes_of : String → List ℕ
bytes_of String.[] = []
bytes_of (String.◌∷◌ c s) = code c ∷ bytes_of s

-- the digit of a number below 16, lower-case
unfoldable pub digit_of : ℕ → ℕ
digit_of d = cond (ltb d 10) (code "0" + d) (code "a" + (d - 10))

-- at most n decimal digits: all but the last, then the last
unfoldable pub decimal_in : ℕ → ℕ → List ℕ
decimal_in zero x = []
decimal_in (suc n) x = cond (ltb x 10) (digit_of x ∷ []) (decimal_in n (x / 10) ++ (digit_of (x % 10) ∷ []))

-- a number below 10^20 in decimal, in the fewest digits
unfoldable pub decimal : ℕ → List ℕ
decimal x = decimal_in 20 x

-- two digits a byte
unfoldable pub hexadecimal : List ℕ → List ℕ
hexadecimal [] = []
hexadecimal (b ∷ bs) = digit_of (b / 16) ∷ digit_of (b % 16) ∷ hexadecimal bs

-- bytes shown in lower-case hexadecimal, or "-" for none
unfoldable pub shown_text : List ℕ → List ℕ
shown_text [] = bytes_of "-"
shown_text (b ∷ bs) = hexadecimal (b ∷ bs)

-- a number and the space after it
unfoldable pub spaced : ℕ → List ℕ
spaced x = decimal x ++ bytes_of " "

-- code, number, bytes used, bytes shown: one space parts the fields, and one line feed ends the line
unfoldable pub line : Answer → List ℕ
line a = spaced a.code ++ spaced a.number ++ spaced a.used ++ shown_text a.shown ++ bytes_of "\n"

unfoldable pub header : List ℕ
header = bytes_of "code number used bytes\n"

-- the line for too long a script
unfoldable pub too_long : List ℕ
too_long = bytes_of "16 0 0 -\n"

-- ---- the script

module _ (box : Tables → Element → Result) where
  -- a line a record
  unfoldable pub lines_of : Tables → List ℕ → List ℕ
  lines_of t script = flat (map line (answers_from box t (records_of 1024 script)))

  -- the whole sheet
  unfoldable pub sheet : List ℕ → List ℕ
  sheet script = header ++ cond (ltb 65536 (length script)) too_long (lines_of fresh_tables script)

  -- a script of 65,536 bytes or fewer has its records' lines, and a longer one the line for it alone
  pub record SheetOf (script : List ℕ) : Type 0 where
    pub records : length script ≤ 65536 → sheet script ≡ header ++ lines_of fresh_tables script
    pub longer : 65536 < length script → sheet script ≡ header ++ too_long

abbrev pub SheetLimit : Type 0
SheetLimit = (box : Tables → Element → Result) (script : List ℕ) → SheetOf box script
