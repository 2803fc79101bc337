-- A link's numbers. Assumes nothing.
use mathlib.Core.Path.{refl}
use Rattle.record.specs.Call.{link_by, way_of, identity_of, number_of}
use Rattle.record.specs.Write.{filled}
use Rattle.record.specs.Statements.{LinksByNumbers}

pub links_by_numbers : LinksByNumbers
unfolding filled link_by way_of identity_of number_of
links_by_numbers =
    record {
      logged = λ i g. record { place = λ v. refl; name = λ v. refl; tag_or_handle = λ v. refl; named = refl; owner = refl };
      escrowed = λ i h. record { place = λ v. refl; name = λ v. refl; tag_or_handle = λ v. refl; named = refl; owner = refl };
    }
