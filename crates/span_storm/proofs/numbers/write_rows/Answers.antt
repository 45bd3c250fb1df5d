use Rattle.std.proofs.lemmas.List.{drop_more}
use Rattle.std.proofs.lemmas.Result.{err_from_is_err_and}
use Rattle.span_storm.proofs.Lines.{row_fails}
use Rattle.span_storm.proofs.numbers.write_rows.Goals as goal

pub returns-in_err-write_line-clause-front : goal.returns-in_err-write_line-clause-front
returns-in_err-write_line-clause-front g c =
    let handed_on = err_from_is_err_and c.from_residual.result c.from_residual.ensures.1 in
    rw handed_on.1 (row_fails _ _ _ c.args.rows.now c.loop-row.row-index _ c.loop-row.invariant.taken c.in_err-write_line.ensures.front (drop_more _ _ _ c.loop-row-test.true))
