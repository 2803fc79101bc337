use Rattle.std.proofs.Common.{ap, get_or}
use Rattle.desk.specs.Desk.{Answered, is_list, shift_code, shift_on}
use Rattle.desk.specs.Results.{Left, desk_result}
use Rattle.desk.proofs.caif_desk.Goals as goal

pub returns : goal.returns
unfolding is_list shift_code shift_on
returns c =
    ap (λ (x : Left Answered). desk_result (get_or x.answer.answers 0 (record { code = 0; action = 0; refusal = 0 })) x.tables x.output) c.caif_shift.ensures
