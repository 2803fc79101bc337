use Rattle.std.proofs.Common.{◌∙◌, ap}
use Rattle.desk.proofs.Record.{written}
use Rattle.desk.proofs.asking.check_record.Goals as goal

pub returns : goal.returns
returns c = ap (λ r. r.buffer) c.write_call.ensures ∙ written c.args.claim
