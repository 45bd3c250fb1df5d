use Rattle.std.proofs.lemmas.Result.{err_from_is_err_and}
use Rattle.span_replay.proofs.Written.{read_kept, unread_kept, unread_runs}
use Rattle.span_replay.proofs.Flushes.{ends_read}
use Rattle.span_replay.proofs.run.replay.read_and_run.Goals as goal

pub returns-in_err-script-clause-replayed : goal.returns-in_err-script-clause-replayed
returns-in_err-script-clause-replayed g c =
    let p = err_from_is_err_and c.from_residual.result c.from_residual.ensures.1 in
    rw (p.1, p.2) (unread_runs _ _ _ _ _ c.in_err-script.ensures.err)

pub returns-in_err-script-clause-unread : goal.returns-in_err-script-clause-unread
returns-in_err-script-clause-unread g c =
    let p = err_from_is_err_and c.from_residual.result c.from_residual.ensures.1 in
    rw (p.1, p.2) (unread_kept _ _)

pub returns-clause-unread : goal.returns-clause-unread
returns-clause-unread g c = read_kept _ _ _ _ _ c.run_script.ensures.calls.0

pub returns-clause-counts : goal.returns-clause-counts
returns-clause-counts g c = ends_read _ _ _ _ _ c.in_ok-script.ensures.counts.0 c.run_script.ensures.calls.0
