use Rattle.std.proofs.Common.{sym, ◌∙◌}
use Rattle.std.proofs.lemmas.Result.{err_from_is_err_and}
use Rattle.record.specs.Read.{bytes_field, fields}
use Rattle.reader.specs.Scan.{fields_in}
use Rattle.reader.proofs.Positions.{three_at_lem, three_cut}
use Rattle.reader.proofs.read_fields.Goals as goal

pub returns-in_err-place-clause-result_value : goal.returns-in_err-place-clause-result_value
unfolding fields_in fields bytes_field
returns-in_err-place-clause-result_value c =
    let p = err_from_is_err_and c.from_residual.result c.from_residual.ensures.1 in
    rw (p.1, p.2) (sym (three_cut c.args.bytes.now 2 _ 1 1 _ c.three_at.ensures.result_value c.in_err-place.was))

pub returns-in_err-size-clause-result_value : goal.returns-in_err-size-clause-result_value
unfolding fields_in fields bytes_field
returns-in_err-size-clause-result_value c =
    let bs = c.args.bytes.now in
    let p = err_from_is_err_and c.from_residual-in_err-size.result c.from_residual-in_err-size.ensures.1 in
    let first = three_at_lem bs 2 _ 1 1 _ c.three_at.ensures.result_value c.in_ok-place.was in
    rw (p.1, p.2) (sym (first ∙ three_cut bs _ _ 4 2 _ c.three_at-2.ensures.result_value c.in_err-size.was))
