use Rattle.std.proofs.lemmas.Result.{err_from_is_err_and}
use Rattle.span_replay.proofs.LineTurns.{json_stops}
use Rattle.span_replay.proofs.Reachings.{halts_here, line_reached, line_halts}
use Rattle.span_replay.proofs.run.reaching.run_line.Goals as goal

pub returns-clause-turned : goal.returns-clause-turned
returns-clause-turned g c = line_reached _ _ _ _ _ _ _ c.requires.read c.in_ok-value.ensures c.run_value.ensures.turned

pub returns-clause-err : goal.returns-clause-err
returns-clause-err g c = line_halts _ _ _ _ _ _ c.requires.read c.in_ok-value.ensures c.run_value.ensures.err

pub returns-in_err-value-clause-err : goal.returns-in_err-value-clause-err
returns-in_err-value-clause-err g c =
    let p = err_from_is_err_and c.from_residual.result c.from_residual.ensures.1 in
    rw (p.1, p.2) (λ hooks. halts_here _ _ _ (json_stops hooks _ _ _ c.requires.read c.in_err-value.ensures))
