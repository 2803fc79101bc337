use Rattle.std.proofs.Common.{◌∙◌, arith}
use Rattle.desk.specs.Decision.{desk_by}
use Rattle.desk.specs.Results.{refused_all}
use Rattle.desk.proofs.Lists.{turned}
use Rattle.desk.proofs.list.refused_list.Goals as goal

pub loop-i-preserved : goal.loop-i-preserved
unfolding refused_all
loop-i-preserved c =
    turned (desk_by refused_all) c.args.tanks.now c.args.answers.now c.loop-i.answers c.loop-i.i c.from.result _ (omega arith) c.requires c.loop-i.invariant
    (c.from.ensures ∙ (rw c.number.ensures at c.desk_with.ensures))
