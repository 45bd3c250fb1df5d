use Rattle.std.proofs.lemmas.Result.{err_from_is_err_and}
use Rattle.span_replay.proofs.LineTurns.{read_line, json_stops}
use Rattle.span_replay.proofs.Explaining.{value_sets, stops_as}
use Rattle.span_replay.proofs.run.why.set_up.Goals as goal

pub returns-then-not-is_setup_line-clause-value : goal.returns-then-not-is_setup_line-clause-value
returns-then-not-is_setup_line-clause-value g c = read_line _ _ _ _ c.requires.read c.in_ok-value.ensures

pub returns-clause-turned : goal.returns-clause-turned
returns-clause-turned g c = value_sets _ _ _ _ _ _ c.requires.read c.in_ok-value.ensures c.in_ok-run.ensures.ok

pub returns-in_err-run-clause-err : goal.returns-in_err-run-clause-err
returns-in_err-run-clause-err g c =
    let p = err_from_is_err_and c.from_residual-in_err-run.result c.from_residual-in_err-run.ensures.1 in
    rw (p.1, p.2) (stops_as _ _ _ (read_line _ _ _ _ c.requires.read c.in_ok-value.ensures) c.in_err-run.ensures.err)

pub returns-in_err-value-clause-err : goal.returns-in_err-value-clause-err
returns-in_err-value-clause-err g c =
    let p = err_from_is_err_and c.from_residual.result c.from_residual.ensures.1 in
    rw (p.1, p.2) (json_stops _ _ _ _ c.requires.read c.in_err-value.ensures)
