use Rattle.std.proofs.Common.{rules, ◌==◌, refl}
use Rattle.std.proofs.iter.runs.Made.{chains}
use Rattle.std.proofs.lemmas.List.Recursion.{or_is}
use Rattle.ideal.specs.State.{any}
use Rattle.ideal.specs.Step.{has_handle}
use Rattle.ideal.specs.Tables.{escrow_table, entries_of}
use Rattle.handles.proofs.is_used.Goals as goal

pub returns : goal.returns
unfolding any entries_of has_handle
returns c = λ values.
    let x = c.args in
    or_is (λ l. any (has_handle x.handle) (entries_of escrow_table values l)) (λ r. r.handle.0 == x.handle.0) refl (λ _ _. refl) x.rows.now escrow_table.blank c.any.result
    (search (rules, chains)) (search (rules, chains))
