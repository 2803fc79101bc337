use Rattle.std.proofs.Common.{◌≡◌, ◌++◌, map, take, drop}
use Rattle.desk.specs.Decision.{desk_by}
use Rattle.desk.specs.Results.{refused_all}
use Rattle.desk.proofs.list.refused_list.Given as goal

abbrev pub invariant-loop-i : goal.invariant-loop-i
invariant-loop-i l = l.answers ≡ map (desk_by refused_all) (take l.i l.tanks) ++ drop l.i l.initial.answers
