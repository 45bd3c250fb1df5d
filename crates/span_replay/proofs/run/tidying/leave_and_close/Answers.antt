use Rattle.std.proofs.Common.{refl}
use Rattle.std.proofs.lemmas.Result.{err_from_is_err_and}
use Rattle.span_replay.proofs.LastLines.{exits_fail, closes_fail, tidied_runs}
use Rattle.span_replay.proofs.run.tidying.leave_and_close.Goals as goal

pub returns-in_err-leave_all-clause-runs : goal.returns-in_err-leave_all-clause-runs
returns-in_err-leave_all-clause-runs g c =
    let p = err_from_is_err_and c.from_residual.result c.from_residual.ensures.1 in
    rw (p.1, p.2) (λ stage.
    exits_fail _ _ (record { core = c.args.script.now.core; labels = c.args.labels.now; stage = stage }) _ _ c.requires.written.workers c.in_err-leave_all.ensures.err)

pub returns-in_err-close_all-clause-runs : goal.returns-in_err-close_all-clause-runs
returns-in_err-close_all-clause-runs g c =
    let p = err_from_is_err_and c.from_residual-in_err-close_all.result c.from_residual-in_err-close_all.ensures.1 in
    rw (p.1, p.2) (λ stage.
    closes_fail _ _ _ (record { core = c.args.script.now.core; labels = c.args.labels.now; stage = stage }) _ _ _ _ _ c.requires.written.workers c.in_ok-leave_all.ensures.made refl refl c.in_err-close_all.ensures.err)

pub returns-clause-runs : goal.returns-clause-runs
returns-clause-runs g c = λ stage.
    tidied_runs _ _ _ _ (record { core = c.args.script.now.core; labels = c.args.labels.now; stage = stage }) _ _ _ _ _ _ _ c.requires.written.workers c.in_ok-leave_all.ensures.made refl refl c.in_ok-close_all.ensures.made
    c.open_spans.ensures c.finish.ensures.ok c.finish.ensures.err
