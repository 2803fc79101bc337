use Rattle.std.proofs.Common.{◌∙◌, ap, length, arith, rules}
use Rattle.ideal.specs.Box.{call_on}
use Rattle.calls.specs.Buffers.{tables_in}
use Rattle.desk.specs.declared.TankAnswer.{TankAnswer}
use Rattle.desk.specs.Desk.{desk_on}
use Rattle.desk.specs.Results.{Left}
use Rattle.desk.proofs.Lists.{turned}
use Rattle.desk.proofs.list.list_sound.Goals as goal

pub loop-i-preserved : goal.loop-i-preserved
loop-i-preserved c =
    let x = c.args in
    let i = c.loop-i.invariant in
    let h = c.desk_of.ensures.leaves in
    record {
      answered =
          turned (desk_on call_on (tables_in x.held x.log.now x.escrow.now x.lent.now) (length x.lent.now.output.now)) x.tanks.now x.answers.now c.loop-i.answers c.loop-i.i c.desk_of.result _ (omega arith) c.requires.as_many i.answered
          (rw (i.tables, i.output) at (ap (λ (l : Left TankAnswer). l.answer) h));
      same_buffers = search rules;
      tables = ap (λ (l : Left TankAnswer). l.tables) h ∙ i.tables;
      output = ap (λ (l : Left TankAnswer). l.output) h ∙ i.output;
    }
