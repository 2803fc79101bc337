-- Where the map is right, the running place's bit tells whether it is taken. Assumes nothing.
use mathlib.Core.Path.{◌≡◌}
use mathlib.Core.Bool.{◌&&◌, ◌||◌}
use lib.Dec.{eqb, ltb}
use Rattle.record.specs.Layout.{stands}
use Rattle.ideal.specs.declared.BoxRecord.{BoxRecord}
use Rattle.ideal.specs.Tables.{taken_map}
use Rattle.ideal.specs.Soundness.{running_taken}
use Rattle.ideal.proofs.Memory.{taken_at}

pub by_map : (b : BoxRecord) → b.taken ≡ taken_map b.identities
    → eqb b.running 16 || (ltb b.running 16 && stands b.taken b.running) ≡ running_taken b
unfolding running_taken
by_map b h = rw (h, taken_at b.identities b.running)
