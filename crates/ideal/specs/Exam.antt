-- Document 01's exam cases A to J, B and D as request P7 amends them, and those of requests P1 to P3, P7 and P8 in one list
-- of records, every kind among them, with the whole answers.
use Rattle.std.specs.Prelude.{ℕ, zero, suc, ◌/◌, ◌%◌, ◌^◌, ◌≡◌, List, [], ◌∷◌, map}
use Rattle.ideal.specs.Step.{Answer}
use Rattle.ideal.specs.Tables.{fresh_tables}
use Rattle.ideal.specs.Box.{Element, given, call_on, answers_from}

infix 80 ◌gives◌
-- the n bytes of a record, as they are written in hexadecimal
unfoldable pub hex : ℕ → ℕ → List ℕ
hex zero x = []
hex (suc n) x = x / 256 ^ n % 256 ∷ hex n x

-- what a call is given, and its whole answer
pub record Question : Type 0 where
  pub element : Element
  pub answer : Answer

unfoldable pub says : (code number used : ℕ) → List ℕ → Answer
says code number used shown = record { code = code; number = number; used = used; shown = shown }

-- an output buffer of its size is lent
unfoldable pub ◌gives◌ : List ℕ → Answer → Question
bytes gives answer = record { element = given bytes 1024; answer = answer }

unfoldable pub questions : List Question
questions =
    -- an empty record: the map is missing
    [] gives says 1 1 0 []
    -- J: no kind byte
    ∷ hex 1 0x01 gives says 1 1 0 []
    -- J: bit 0 is down
    ∷ hex 1 0x02 gives says 2 0 0 []
    -- cut before the place
    ∷ hex 2 0x07_01 gives says 1 1 0 []
    -- after a place that is too high, and before the identity
    ∷ hex 3 0x07_01_10 gives says 1 8 0 []
    -- in the identity
    ∷ hex 6 0x07_01_10_080706 gives says 1 5 0 []
    -- in the offset
    ∷ hex 4 0x4B_05_00_00 gives says 1 1 0 []
    -- before the length
    ∷ hex 4 0x19_08_FA03 gives says 1 2 0 []
    -- before the offset
    ∷ hex 2 0x49_07 gives says 1 2 0 []
    -- before the number
    ∷ hex 14 0x3D_0B_1817161514131211_0000_0500 gives says 1 8 0 []
    -- in the number
    ∷ hex 21 0x3D_0B_1817161514131211_0000_0500_07000000000000 gives says 1 1 0 []
    -- before the count
    ∷ hex 5 0x4B_05_00_0000 gives says 1 2 0 []
    -- in the count
    ∷ hex 6 0x4B_05_00_0000_05 gives says 1 1 0 []
    -- in the contents
    ∷ hex 9 0x4B_05_00_0000_0500_7661 gives says 1 3 0 []
    -- before contents of the highest count
    ∷ hex 20 0x65_0A_0807060504030201_BA0E7BEC312B1C54_FFFF gives says 1 65535 0 []
    -- before the count of a chain
    ∷ hex 19 0x67_0F_02_0807060504030201_3CA3801F61600596 gives says 1 2 0 []
    -- another map, with a field cut
    ∷ hex 2 0x47_01 gives says 3 0 0 []
    -- a chain with the map of a check
    ∷ hex 2 0x65_0F gives says 3 0 0 []
    -- before the number of a release
    ∷ hex 10 0x25_10_0807060504030201 gives says 1 8 0 []
    -- a release with the map of a retrieve
    ∷ hex 2 0x2D_10 gives says 3 0 0 []
    -- kind 17
    ∷ hex 2 0x25_11 gives says 2 0 0 []
    -- no such kind, with a field cut
    ∷ hex 2 0x07_00 gives says 2 0 0 []
    -- create: place 0 for 0x0102030405060708
    ∷ hex 11 0x07_01_00_0807060504030201 gives says 0 0 11 []
    -- again: the place is taken
    ∷ hex 11 0x07_01_00_0807060504030201 gives says 7 0 11 []
    -- kind 2, which is retired
    ∷ hex 3 0x03_02_00 gives says 2 0 0 []
    -- kind 3, which is retired
    ∷ hex 2 0x01_03 gives says 2 0 0 []
    -- hand over to 16 with none running
    ∷ hex 3 0x03_0E_10 gives says 0 0 3 []
    -- hand over: place 0
    ∷ hex 3 0x03_0E_00 gives says 0 0 3 []
    -- heap write: five bytes at 0
    ∷ hex 12 0x4B_05_00_0000_0500_76616C7565 gives says 0 5 12 []
    -- two bytes at 254
    ∷ hex 9 0x4B_05_00_FE00_0200_6F6B gives says 0 2 9 []
    -- hand over to the running place
    ∷ hex 3 0x03_0E_00 gives says 0 0 3 []
    -- to an empty place
    ∷ hex 3 0x03_0E_01 gives says 7 0 3 []
    -- to 17
    ∷ hex 3 0x03_0E_11 gives says 6 0 3 []
    -- heap write of another place: place 0 still runs
    ∷ hex 12 0x4B_05_01_0000_0500_76616C7565 gives says 8 0 12 []
    -- A: protect for 0x1112131415161718, length 5, draw 7
    ∷ hex 22 0x3D_0B_1817161514131211_0000_0500_0700000000000000 gives says 0 1407374883553287 22 []
    -- B: again
    ∷ hex 22 0x3D_0B_1817161514131211_0000_0500_0700000000000000 gives says 0 1407551387880710 22 []
    -- C: length 0, draw 281474976710655
    ∷ hex 22 0x3D_0B_1817161514131211_0000_0000_FFFFFFFFFFFF0000 gives says 0 281474976710655 22 []
    -- D: again
    ∷ hex 22 0x3D_0B_1817161514131211_0000_0000_FFFFFFFFFFFF0000 gives says 0 281449761806750 22 []
    -- length 5 and draw 7 once more: two draws are passed over
    ∷ hex 22 0x3D_0B_1817161514131211_0000_0500_0700000000000000 gives says 0 1440521340727193 22 []
    -- draw 8, which is free
    ∷ hex 22 0x3D_0B_1817161514131211_0000_0500_0800000000000000 gives says 0 1407374883553288 22 []
    -- length 0 and draw 7: the handles that are in use have another length
    ∷ hex 22 0x3D_0B_1817161514131211_0000_0000_0700000000000000 gives says 0 7 22 []
    -- draw 281474976710656
    ∷ hex 22 0x3D_0B_1817161514131211_0000_0000_0000000000000100 gives says 12 0 22 []
    -- E: heap read at 256 of length 0
    ∷ hex 7 0x1B_06_00_0001_0000 gives says 0 0 7 []
    -- F: at 256 of length 1
    ∷ hex 7 0x1B_06_00_0001_0100 gives says 11 0 7 []
    -- G: create at place 15
    ∷ hex 11 0x07_01_0F_1817161514131211 gives says 0 15 11 []
    -- H: at place 16
    ∷ hex 11 0x07_01_10_1817161514131211 gives says 6 0 11 []
    -- I: retrieve by another identity than the recipient, offset 300
    ∷ hex 20 0x2D_0C_0807060504030201_2C01_0700000000000500 gives says 10 0 20 []
    -- attest the five bytes
    ∷ hex 6 0x19_09_0000_0500 gives says 0 6060766691954724538 6 []
    -- again: the same tag
    ∷ hex 6 0x19_09_0000_0500 gives says 0 6060766691954724538 6 []
    -- attest the two
    ∷ hex 6 0x19_09_FE00_0200 gives says 0 7741120448079519903 6 []
    -- check the five
    ∷ hex 25 0x65_0A_0807060504030201_BA0E7BEC312B1C54_0500_76616C7565 gives says 0 1 25 []
    -- check the two
    ∷ hex 22 0x65_0A_0807060504030201_9FE04A8708FC6D6B_0200_6F6B gives says 0 1 22 []
    -- other bytes with the tag of the five
    ∷ hex 25 0x65_0A_0807060504030201_BA0E7BEC312B1C54_0500_6E616D6564 gives says 0 0 25 []
    -- other bytes with their own tag, which was never given
    ∷ hex 25 0x65_0A_0807060504030201_563049534231ABEC_0500_6E616D6564 gives says 0 0 25 []
    -- the five with another tag
    ∷ hex 25 0x65_0A_0807060504030201_563049534231ABEC_0500_76616C7565 gives says 0 0 25 []
    -- another identity with its own tag
    ∷ hex 25 0x65_0A_1817161514131211_9A78E3EECB7AAE01_0500_76616C7565 gives says 0 0 25 []
    -- identity 0
    ∷ hex 25 0x65_0A_0000000000000000_BA0E7BEC312B1C54_0500_76616C7565 gives says 9 0 25 []
    -- shared write: the last five bytes
    ∷ hex 11 0x49_07_FB03_0500_76616C7565 gives says 0 5 11 []
    -- shared read: the last six
    ∷ hex 6 0x19_08_FA03_0600 gives says 0 6 6 (hex 6 0x0076616C7565)
    -- report, with an output buffer of 1,023 bytes
    ∷ record { element = given (hex 2 0x01_0D) 1023; answer = says 15 0 0 [] }
    -- with the map of a hand over
    ∷ hex 3 0x03_0D_00 gives says 3 0 0 []
    -- hand over to 16 with one running
    ∷ hex 3 0x03_0E_10 gives says 0 0 3 []
    -- exit: none runs
    ∷ hex 2 0x01_04 gives says 4 0 2 []
    -- a chain by way 1, with identity 0: none runs
    ∷ hex 21 0x67_0F_01_0000000000000000_0700000000000500_0000 gives says 4 0 21 []
    -- a release, with identity 0: none runs
    ∷ hex 18 0x25_10_0000000000000000_0700000000000500 gives says 4 0 18 []
    -- report: two services, two log rows, seven escrow rows
    ∷ hex 2 0x01_0D gives says 0 459266 2 []
    -- hand over: place 0
    ∷ hex 3 0x03_0E_00 gives says 0 0 3 []
    -- heap read: the last three bytes, retained
    ∷ hex 7 0x1B_06_00_FD00_0300 gives says 0 3 7 (hex 3 0x006F6B)
    -- hand over: from place 0 to place 15
    ∷ hex 3 0x03_0E_0F gives says 0 0 3 []
    -- retrieve A's value at 252: it does not fit
    ∷ hex 20 0x2D_0C_0807060504030201_FC00_0700000000000500 gives says 11 0 20 []
    -- at 251
    ∷ hex 20 0x2D_0C_0807060504030201_FB00_0700000000000500 gives says 0 5 20 []
    -- from another source
    ∷ hex 20 0x2D_0C_1817161514131211_FB00_0700000000000500 gives says 10 0 20 []
    -- heap read: the last six bytes
    ∷ hex 7 0x1B_06_0F_FA00_0600 gives says 0 6 7 (hex 6 0x0076616C7565)
    -- exit
    ∷ hex 2 0x01_04 gives says 0 0 2 []
    -- create: place 15 for the next tenant
    ∷ hex 11 0x07_01_0F_0807060504030201 gives says 0 15 11 []
    -- hand over: place 15
    ∷ hex 3 0x03_0E_0F gives says 0 0 3 []
    -- heap read: nothing is left
    ∷ hex 7 0x1B_06_0F_FA00_0600 gives says 0 6 7 (hex 6 0x000000000000)
    -- heap write: a value that ends a chain
    ∷ hex 8 0x4B_05_0F_0000_0100_01 gives says 0 1 8 []
    -- attest it
    ∷ hex 6 0x19_09_0000_0100 gives says 0 10810152450829361980 6 []
    -- a chain of one link
    ∷ hex 24 0x67_0F_02_0807060504030201_3CA3801F61600596_0300_010001 gives says 0 1 24 []
    -- heap write: a value that leads to it
    ∷ hex 24 0x4B_05_0F_0100_1100_0208070605040302013CA3801F61600596 gives says 0 17 24 []
    -- attest that
    ∷ hex 6 0x19_09_0100_1100 gives says 0 1818366074921597567 6 []
    -- a chain of two logged links
    ∷ hex 43 0x67_0F_02_0807060504030201_7FBA529F4F223C19_1600_11000208070605040302013CA3801F61600596010001 gives says 0 2 43 []
    -- protect it for the program itself, draw 9
    ∷ hex 22 0x3D_0B_0807060504030201_0100_1100_0900000000000000 gives says 0 4785074604081161 22 []
    -- a chain of an escrowed link and a logged one
    ∷ hex 24 0x67_0F_03_0807060504030201_0900000000001100_0300_010001 gives says 0 2 24 []
    -- heap write: a value that names its own handle
    ∷ hex 24 0x4B_05_0F_0100_1100_0308070605040302010A00000000001100 gives says 0 17 24 []
    -- protect it, draw 10
    ∷ hex 22 0x3D_0B_0807060504030201_0100_1100_0A00000000000000 gives says 0 4785074604081162 22 []
    -- it leads to itself: sixteen have been followed
    ∷ hex 21 0x67_0F_03_0807060504030201_0A00000000001100_0000 gives says 20 0 21 []
    -- way 1
    ∷ hex 24 0x67_0F_01_0807060504030201_3CA3801F61600596_0300_010001 gives says 19 0 24 []
    -- the second logged value's contents are cut
    ∷ hex 43 0x67_0F_02_0807060504030201_7FBA529F4F223C19_1600_11000208070605040302013CA3801F61600596020001 gives says 19 0 43 []
    -- its count is cut
    ∷ hex 41 0x67_0F_02_0807060504030201_7FBA529F4F223C19_1400_11000208070605040302013CA3801F6160059601 gives says 19 0 41 []
    -- cut, and identity 0
    ∷ hex 21 0x67_0F_02_0000000000000000_3CA3801F61600596_0000 gives says 19 0 21 []
    -- identity 0
    ∷ hex 24 0x67_0F_02_0000000000000000_3CA3801F61600596_0300_010001 gives says 9 0 24 []
    -- the tag of other bytes
    ∷ hex 24 0x67_0F_02_0807060504030201_7FBA529F4F223C19_0300_010001 gives says 18 0 24 []
    -- a tag that was never given, though it is the right one
    ∷ hex 25 0x67_0F_02_0807060504030201_A76095870802C66B_0400_02000101 gives says 18 0 25 []
    -- no such row
    ∷ hex 21 0x67_0F_03_0807060504030201_0E00000000001100_0000 gives says 18 0 21 []
    -- A's row, which is for another program
    ∷ hex 21 0x67_0F_03_0807060504030201_0700000000000500_0000 gives says 18 0 21 []
    -- the head of the five bytes
    ∷ hex 28 0x67_0F_02_0807060504030201_BA0E7BEC312B1C54_0700_050076616C7565 gives says 19 0 28 []
    -- bytes are left over
    ∷ hex 25 0x67_0F_02_0807060504030201_3CA3801F61600596_0400_01000100 gives says 19 0 25 []
    -- heap write: a value that leads to the first, with a byte of payload
    ∷ hex 25 0x4B_05_0F_0100_1200_0208070605040302013CA3801F6160059601 gives says 0 18 25 []
    -- attest it but for its last two bytes
    ∷ hex 6 0x19_09_0100_1000 gives says 0 18309538361562728083 6 []
    -- 15 bytes follow the 2
    ∷ hex 39 0x67_0F_02_0807060504030201_938655BA218C18FE_1200_10000208070605040302013CA3801F616005 gives says 19 0 39 []
    -- attest all of it
    ∷ hex 6 0x19_09_0100_1200 gives says 0 3740463016627594266 6 []
    -- a chain of two links, the first with payload
    ∷ hex 44 0x67_0F_02_0807060504030201_1AE492B94BCBE833_1700_12000208070605040302013CA3801F6160059601010001 gives says 0 2 44 []
    -- shared write: byte 0
    ∷ hex 7 0x49_07_0000_0100_5A gives says 0 1 7 []
    -- release the value that was protected with draw 9
    ∷ hex 18 0x25_10_0807060504030201_0900000000001100 gives says 0 0 18 []
    -- again: its row is spent
    ∷ hex 18 0x25_10_0807060504030201_0900000000001100 gives says 10 0 18 []
    -- retrieve it
    ∷ hex 20 0x2D_0C_0807060504030201_0000_0900000000001100 gives says 10 0 20 []
    -- a chain through it
    ∷ hex 24 0x67_0F_03_0807060504030201_0900000000001100_0300_010001 gives says 18 0 24 []
    -- the value behind it, which has moved down, leads to itself as before
    ∷ hex 21 0x67_0F_03_0807060504030201_0A00000000001100_0000 gives says 20 0 21 []
    -- retrieve that
    ∷ hex 20 0x2D_0C_0807060504030201_2000_0A00000000001100 gives says 0 17 20 []
    -- heap read: its bytes
    ∷ hex 7 0x1B_06_0F_2000_1100 gives says 0 17 7 (hex 17 0x0308070605040302010A00000000001100)
    -- protect 17 bytes with draw 9: the handle of the spent row is passed over
    ∷ hex 22 0x3D_0B_0807060504030201_0100_1100_0900000000000000 gives says 0 4785301538216416 22 []
    -- release by the source, of A's row
    ∷ hex 18 0x25_10_0807060504030201_0700000000000500 gives says 10 0 18 []
    -- of another source
    ∷ hex 18 0x25_10_1817161514131211_0A00000000001100 gives says 10 0 18 []
    -- of identity 0
    ∷ hex 18 0x25_10_0000000000000000_0A00000000001100 gives says 9 0 18 []
    -- protect no bytes, draw 8
    ∷ hex 22 0x3D_0B_0807060504030201_0000_0000_0800000000000000 gives says 0 8 22 []
    -- release them
    ∷ hex 18 0x25_10_0807060504030201_0800000000000000 gives says 0 0 18 []
    -- again
    ∷ hex 18 0x25_10_0807060504030201_0800000000000000 gives says 10 0 18 []
    -- shared read: no release has touched it
    ∷ hex 6 0x19_08_0000_0100 gives says 0 1 6 (hex 1 0x5A)
    -- report: two services, six log rows, eleven escrow rows, spent ones among them
    ∷ hex 2 0x01_0D gives says 0 722434 2 []
    ∷ []

unfoldable pub asked : List Element
asked = map (λ q. q.element) questions

unfoldable pub expected : List Answer
expected = map (λ q. q.answer) questions

-- the box's answers to the whole list, from a fresh box
abbrev pub Exam : Type 0
Exam = answers_from call_on fresh_tables asked ≡ expected
