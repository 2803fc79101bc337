-- The record of the check.
--     written        the box's writer writes it, into a buffer of its length
--     reads          and reading it returns the check
-- Assumes nothing.
use mathlib.Core.Path.{◌≡◌, refl, sym, ◌∙◌, ap}
use mathlib.Core.List.{List, [], ◌∷◌, ◌++◌}
use Prim.Native.Nat.{ℕ, ◌<◌, ◌^◌}
use lib.ListN.{length}
use lib.Dec.{lit<}
use Rattle.fnv.specs.Fnv.{little}
use Rattle.record.specs.Call.{first_in}
use Rattle.record.specs.Layout.{stands, kinds, among, kind_of}
use Rattle.record.specs.Read.{whole, read}
use Rattle.record.specs.Write.{only, record_of, filled, record_in, write, placed, write_kind, write_on}
use Rattle.record.specs.Statements.{Fits, ByItsWay, ReadsBack}
use Rattle.record.proofs.RoundTrip.{reads_back}
use Rattle.desk.specs.declared.Claim.{Claim}
use Rattle.desk.specs.Desk.{check_of}

abbrev zeros : List ℕ
zeros = 0 ∷ 0 ∷ 0 ∷ 0 ∷ 0 ∷ 0 ∷ 0 ∷ 0 ∷ 0 ∷ 0 ∷ 0 ∷ 0 ∷ 0 ∷ 0 ∷ 0 ∷ 0 ∷ 0 ∷ 0 ∷ 0 ∷ 0 ∷ 0 ∷ 0 ∷ []

pub written : (g : Claim) → (write_on 10 (record { place = 0; identity = g.probe; offset = 0; length = 0; number = g.tag.0 }) (g.low ∷ g.high ∷ []) zeros).buffer ≡ write (check_of g)
unfolding little stands kinds among kind_of only record_of filled record_in write placed write_kind write_on check_of
written g = refl

nil : (bs : List ℕ) → bs ++ [] ≡ bs
nil [] = refl
nil (b ∷ bs) = ap (λ l. b ∷ l) (nil bs)

pub reads : (g : Claim) → g.probe < 2 ^ 64 → g.tag.0 < 2 ^ 64 → read (write (check_of g)) ≡ whole (check_of g) (length (write (check_of g)))
unfolding ReadsBack ByItsWay first_in filled check_of
reads g p t =
    let fits : Fits (check_of g) =
    record {
      fields = record { place = lit< tt; identity = p; offset = lit< tt; size = lit< tt; number = t; count = lit< tt };
      way = tt;
    } in
    ap read (sym (nil (write (check_of g)))) ∙ reads_back (check_of g) fits []
