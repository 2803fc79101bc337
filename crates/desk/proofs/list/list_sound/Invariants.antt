use Rattle.std.proofs.Common.{◌≡◌, ◌++◌, length, map, take, drop}
use Rattle.ideal.specs.Box.{call_on}
use Rattle.calls.specs.Buffers.{tables_in, SameBuffers}
use Rattle.desk.specs.Desk.{desk_on}
use Rattle.desk.proofs.list.list_sound.Given as goal

-- the tanks so far have their answers, and nothing of the box is altered
abbrev pub invariant-loop-i : goal.invariant-loop-i
invariant-loop-i l =
    let f = l.initial in
    let t = tables_in f.held f.log f.escrow f.lent in
    record {
      answered : l.answers ≡ map (desk_on call_on t (length f.lent.output.now)) (take l.i l.tanks) ++ drop l.i f.answers;
      same_buffers : SameBuffers f.lent l.lent;
      tables : tables_in f.held f.log f.escrow l.lent ≡ t;
      output : l.lent.output.now ≡ f.lent.output.now;
    }
