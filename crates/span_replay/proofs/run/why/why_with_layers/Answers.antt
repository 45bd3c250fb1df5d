use Rattle.std.proofs.lemmas.Result.{err_from_is_err_and}
use Rattle.span_replay.proofs.Flushes.{ends_read}
use Rattle.span_replay.proofs.Telling.{explained_once, explained_runs, unread_explained, unread_once}
use Rattle.span_replay.proofs.Written.{read_kept, unread_kept}
use Rattle.span_replay.proofs.run.why.why_with_layers.Goals as goal

pub returns-clause-explained : goal.returns-clause-explained
returns-clause-explained g c = explained_runs _ _ _ _ _ _ _ c.in_ok-explained.ensures.explained c.tell.ensures.runs

pub returns-in_err-explained-clause-explained : goal.returns-in_err-explained-clause-explained
returns-in_err-explained-clause-explained g c =
    let p = err_from_is_err_and c.from_residual.result c.from_residual.ensures.1 in
    rw (p.1, p.2) (unread_explained _ _ _ _ _ c.in_err-explained.ensures.err)

pub returns-clause-counts : goal.returns-clause-counts
returns-clause-counts g c = ends_read _ _ _ _ _ c.in_ok-explained.ensures.counts.0 c.tell.ensures.counts

pub returns-clause-unread : goal.returns-clause-unread
returns-clause-unread g c = read_kept _ _ _ _ _ c.tell.ensures.counts

pub returns-clause-flushed : goal.returns-clause-flushed
returns-clause-flushed g c = explained_once _ _ _ _ _ _ _ _ _ c.in_ok-explained.ensures.explained c.tell.ensures.flushed

pub returns-in_err-explained-clause-unread : goal.returns-in_err-explained-clause-unread
returns-in_err-explained-clause-unread g c =
    let p = err_from_is_err_and c.from_residual.result c.from_residual.ensures.1 in
    rw (p.1, p.2) (unread_kept _ _)

pub returns-in_err-explained-clause-flushed : goal.returns-in_err-explained-clause-flushed
returns-in_err-explained-clause-flushed g c =
    let p = err_from_is_err_and c.from_residual.result c.from_residual.ensures.1 in
    rw (p.1, p.2) (unread_once _ _ _ c.in_err-explained.ensures.err)
