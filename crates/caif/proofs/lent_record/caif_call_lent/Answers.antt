-- A refusal leaves the box record, so that nothing is stored.
use Rattle.std.proofs.Common.{rules}
use Rattle.ideal.specs.declared.Profile.TheVariants.{Full}
use Rattle.caif.proofs.Counting.{refused_leaves}
use Rattle.caif.proofs.lent_record.caif_call_lent.Goals as goal

pub returns-then-refused : goal.returns-then-refused
returns-then-refused c =
    let e = refused_leaves Full _ _ _ _ _ _ _ _ _ _ c.entry_call-reply.ensures.output_after c.if-refused.true in
    search rules
