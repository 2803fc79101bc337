use Rattle.std.proofs.Common.{◌∙◌, rules}
use Rattle.desk.proofs.Desked.{desked}
use Rattle.desk.proofs.list.desk_of.Goals as goal

pub returns-clause-leaves : goal.returns-clause-leaves
returns-clause-leaves c =
    let h = desked _ _ _ _ _ _ _ _ (c.from.ensures ∙ c.desk_with.ensures) c.ask_for-checked.ensures.leaves in
    search (rules, h)
