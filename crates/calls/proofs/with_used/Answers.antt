use lib.Seq.{set-get_or}
use Rattle.calls.proofs.with_used.Goals as goal

pub returns : goal.returns
returns c = rw set-get_or
