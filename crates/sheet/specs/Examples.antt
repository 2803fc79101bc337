-- The example by hand overs, to the byte; document 01's own script; a script that is cut; a level-one paper; the line for
-- too long a script. The proofs are in proofs/Examples.antt.
use Rattle.std.specs.Prelude.{ℕ, ◌≡◌, List, ◌++◌}
use Rattle.ideal.specs.Step.{refused_answer}
use Rattle.ideal.specs.Box.{call_on}
use Rattle.ideal.specs.LevelOne.{level_one_on}
use Rattle.ideal.specs.Exam.{hex}
use Rattle.sheet.specs.Sheet.{bytes_of, line, too_long, sheet}

-- document 01's example, with hand overs for its start and its yield, and an exit for the yield with none running
unfoldable pub example_script : List ℕ
example_script =
    hex 11 0x07_01_00_0100000000000000 ++ hex 3 0x03_0E_00 ++ hex 8 0x4B_05_00_0000_0100_41
    ++ hex 22 0x3D_0B_0100000000000000_0000_0100_0700000000000000 ++ hex 2 0x01_0D ++ hex 3 0x03_0E_10 ++ hex 2 0x01_04

unfoldable pub example_sheet : List ℕ
example_sheet =
    bytes_of "code number used bytes\n" ++ bytes_of "0 0 11 -\n" ++ bytes_of "0 0 3 -\n" ++ bytes_of "0 1 8 -\n"
    ++ bytes_of "0 281474976710663 22 -\n" ++ bytes_of "0 65537 2 -\n" ++ bytes_of "0 0 3 -\n" ++ bytes_of "4 0 2 -\n"

abbrev pub Example : Type 0
Example = sheet call_on example_script ≡ example_sheet

-- document 01's own script stops at its second record, whose kind is retired
unfoldable pub retired_script : List ℕ
retired_script =
    hex 11 0x07_01_00_0100000000000000 ++ hex 3 0x03_02_00 ++ hex 8 0x4B_05_00_0000_0100_41
    ++ hex 22 0x3D_0B_0100000000000000_0000_0100_0700000000000000 ++ hex 2 0x01_0D ++ hex 2 0x01_03 ++ hex 2 0x01_03

unfoldable pub retired_sheet : List ℕ
retired_sheet = bytes_of "code number used bytes\n" ++ bytes_of "0 0 11 -\n" ++ bytes_of "2 0 0 -\n"

abbrev pub RetiredExample : Type 0
RetiredExample = sheet call_on retired_script ≡ retired_sheet

-- the example cut before the count of its heap write: two bytes are missing
unfoldable pub cut_script : List ℕ
cut_script = hex 11 0x07_01_00_0100000000000000 ++ hex 3 0x03_0E_00 ++ hex 5 0x4B_05_00_0000

unfoldable pub cut_sheet : List ℕ
cut_sheet =
    bytes_of "code number used bytes\n" ++ bytes_of "0 0 11 -\n" ++ bytes_of "0 0 3 -\n" ++ bytes_of "1 2 0 -\n"

abbrev pub CutExample : Type 0
CutExample = sheet call_on cut_script ≡ cut_sheet

-- a level-one paper: creates at 0, at 3, at 4 (22, with identity 0 too) and at 16 (6); a protect while none runs (21); a
-- hand over and a heap write; an attest, the same again, one of another value (23) and one beyond the heap (11); a check;
-- protect, retrieve, chain and release (21); a heap read; hand overs to 3 and to 4 (22); an exit; a hand over to 16; a report; a
-- protect cut after its kind, for which 1 comes before 21
unfoldable pub level_one_script : List ℕ
level_one_script =
    hex 11 0x07_01_00_0100000000000000 ++ hex 11 0x07_01_03_0200000000000000 ++ hex 11 0x07_01_04_0200000000000000
    ++ hex 11 0x07_01_04_0000000000000000 ++ hex 11 0x07_01_10_0200000000000000
    ++ hex 22 0x3D_0B_0100000000000000_0000_0100_0700000000000000 ++ hex 3 0x03_0E_00 ++ hex 8 0x4B_05_00_0000_0100_41
    ++ hex 6 0x19_09_0000_0100 ++ hex 6 0x19_09_0000_0100 ++ hex 6 0x19_09_0000_0200 ++ hex 6 0x19_09_0001_0100
    ++ hex 21 0x65_0A_0100000000000000_1FA2F58FDC6D9A52_0100_41
    ++ hex 22 0x3D_0B_0100000000000000_0000_0100_0700000000000000
    ++ hex 20 0x2D_0C_0100000000000000_0000_0700000000000100
    ++ hex 24 0x67_0F_02_0100000000000000_1FA2F58FDC6D9A52_0300_010041
    ++ hex 18 0x25_10_0100000000000000_0700000000000100 ++ hex 7 0x1B_06_00_0000_0100
    ++ hex 3 0x03_0E_03 ++ hex 3 0x03_0E_04 ++ hex 2 0x01_04 ++ hex 3 0x03_0E_10 ++ hex 2 0x01_0D ++ hex 2 0x3D_0B

unfoldable pub level_one_sheet : List ℕ
level_one_sheet =
    bytes_of "code number used bytes\n" ++ bytes_of "0 0 11 -\n" ++ bytes_of "0 3 11 -\n" ++ bytes_of "22 0 11 -\n"
    ++ bytes_of "22 0 11 -\n" ++ bytes_of "6 0 11 -\n" ++ bytes_of "21 0 22 -\n" ++ bytes_of "0 0 3 -\n"
    ++ bytes_of "0 1 8 -\n" ++ bytes_of "0 5952190651599004191 6 -\n" ++ bytes_of "0 5952190651599004191 6 -\n"
    ++ bytes_of "23 0 6 -\n" ++ bytes_of "11 0 6 -\n" ++ bytes_of "0 1 21 -\n" ++ bytes_of "21 0 22 -\n"
    ++ bytes_of "21 0 20 -\n" ++ bytes_of "21 0 24 -\n" ++ bytes_of "21 0 18 -\n" ++ bytes_of "0 1 7 41\n"
    ++ bytes_of "0 0 3 -\n" ++ bytes_of "22 0 3 -\n" ++ bytes_of "0 0 2 -\n" ++ bytes_of "0 0 3 -\n"
    ++ bytes_of "0 257 2 -\n" ++ bytes_of "1 8 0 -\n"

abbrev pub LevelOneExample : Type 0
LevelOneExample = sheet level_one_on level_one_script ≡ level_one_sheet

-- a refusal by the program: code 16, number 0, no byte used, none shown
abbrev pub TooLongLine : Type 0
TooLongLine = line (refused_answer 16 0 0) ≡ too_long
