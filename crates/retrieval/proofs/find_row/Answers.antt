use Rattle.std.proofs.Common.{rules}
use Rattle.std.proofs.iter.runs.Made.{chains}
use Rattle.ideal.specs.Step.{is_named, is_escrowed}
use Rattle.ideal.specs.Refusals.{is_row}
use Rattle.retrieval.proofs.Search.{First, first_position, first_entry}
use Rattle.retrieval.proofs.find_row.Goals as goal
use Rattle.retrieval.proofs.find_row.Goals.{After-position}

-- what the iterator found
found : (c : After-position) → let x = c.args in First x.rows.now (is_row x.handle x.source x.recipient) c.position.result
found c = search (rules, chains)

pub returns-clause-by_index : goal.returns-clause-by_index
unfolding is_row is_escrowed is_named
returns-clause-by_index c = λ values.
    let x = c.args in first_entry x.rows.now (is_escrowed x.handle x.source x.recipient) values c.position.result (found c)

pub returns-clause-result_value : goal.returns-clause-result_value
returns-clause-result_value c =
    let x = c.args in first_position x.rows.now (is_row x.handle x.source x.recipient) c.position.result (found c)
