use Rattle.std.proofs.lemmas.Result.{err_from_is_err_and}
use Rattle.span_replay.proofs.Telling.{front_once, told_counts, told_front, told_ok, told_once, told_unflushed, told_whole, unflushed_once}
use Rattle.span_replay.proofs.run.why.tell.Goals as goal

pub returns-clause-runs : goal.returns-clause-runs
returns-clause-runs g c = λ meant is. told_whole meant c.args.explained _ _ _ _ is c.as_slice.ensures.value c.in_ok-send.ensures.ok c.in_ok-flush.ensures.keeps

pub returns-clause-ok : goal.returns-clause-ok
returns-clause-ok g c = told_ok c.args.explained.ended

pub returns-clause-counts : goal.returns-clause-counts
returns-clause-counts g c = told_counts c.args.explained.ended _ _ _ c.requires.ends c.in_ok-send.ensures.calls.0.1 c.in_ok-flush.ensures.counts.1

pub returns-clause-flushed : goal.returns-clause-flushed
returns-clause-flushed g c =
    told_once c.args.explained _ _ _ _ _ _ _ c.requires.ends c.as_slice.ensures.value c.in_ok-send.ensures.ok c.in_ok-flush.ensures.keeps c.in_ok-send.ensures.calls.1 c.in_ok-flush.ensures.once c.in_ok-flush.ensures.flushed

pub returns-in_err-flush-clause-runs : goal.returns-in_err-flush-clause-runs
returns-in_err-flush-clause-runs g c =
    let p = err_from_is_err_and c.from_residual-in_err-flush.result c.from_residual-in_err-flush.ensures.1 in
    rw (p.1, p.2) (λ meant is. told_unflushed meant c.args.explained _ _ _ _ _ is c.as_slice.ensures.value c.in_ok-send.ensures.ok c.in_err-flush.ensures.keeps c.in_err-flush.ensures.device)

pub returns-in_err-flush-clause-flushed : goal.returns-in_err-flush-clause-flushed
returns-in_err-flush-clause-flushed g c =
    let p = err_from_is_err_and c.from_residual-in_err-flush.result c.from_residual-in_err-flush.ensures.1 in
    rw (p.1, p.2) (unflushed_once c.args.explained _ _ _ _ _ _ _ _ c.as_slice.ensures.value c.in_ok-send.ensures.ok c.in_err-flush.ensures.keeps c.in_ok-send.ensures.calls.1 c.in_err-flush.ensures.once c.in_err-flush.ensures.device)

pub returns-in_err-send-clause-runs : goal.returns-in_err-send-clause-runs
returns-in_err-send-clause-runs g c =
    let p = err_from_is_err_and c.from_residual.result c.from_residual.ensures.1 in
    rw (p.1, p.2) (λ meant is. told_front meant c.args.explained _ _ _ _ is c.as_slice.ensures.value c.in_err-send.ensures.device c.in_err-send.ensures.front)

pub returns-in_err-send-clause-flushed : goal.returns-in_err-send-clause-flushed
returns-in_err-send-clause-flushed g c =
    let p = err_from_is_err_and c.from_residual.result c.from_residual.ensures.1 in
    rw (p.1, p.2) (front_once _ _ _ _ c.in_err-send.ensures.calls.1 c.in_err-send.ensures.device)
