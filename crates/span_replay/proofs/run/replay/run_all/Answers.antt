use Rattle.std.proofs.lemmas.Result.{err_from_is_err_and}
use Rattle.span_replay.proofs.Written.{runs_after}
use Rattle.span_replay.proofs.run.replay.run_all.Goals as goal

pub returns-clause-runs : goal.returns-clause-runs
returns-clause-runs g c = λ hooks has. runs_after _ _ _ _ _ _ (c.in_ok-run_lines.ensures.sent hooks has) c.end.ensures.runs

pub returns-in_err-run_lines-clause-runs : goal.returns-in_err-run_lines-clause-runs
returns-in_err-run_lines-clause-runs g c =
    let p = err_from_is_err_and c.from_residual.result c.from_residual.ensures.1 in
    rw (p.1, p.2) (λ hooks has. c.in_err-run_lines.ensures.err hooks has)
