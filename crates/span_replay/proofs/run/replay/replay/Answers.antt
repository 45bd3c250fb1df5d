use Rattle.std.proofs.Common.{ap, sym, ◌∙◌}
use Rattle.std.proofs.lemmas.Result.{err_from_is_err_and}
use Rattle.span_run.specs.Counted.{next_count}
use Rattle.span_replay.proofs.Flushes.{ended_counts, ended_kept, ended_once, ended_unread, ended_whole, flush_counts, flush_fails, flush_once, flush_read, never_flushed, none_failed, whole_kept}
use Rattle.span_replay.proofs.Left.{nothing_left}
use Rattle.span_replay.proofs.Written.{none_told}
use Rattle.span_replay.proofs.run.replay.replay.Goals as goal

-- ---- a run that ended before

pub returns-then-not-has_end-clause-left : goal.returns-then-not-has_end-clause-left
returns-then-not-has_end-clause-left g c = nothing_left _ _ _ _ _ c.read_and_run-ended.ensures.replayed

pub returns-then-not-has_end-clause-flushed : goal.returns-then-not-has_end-clause-flushed
returns-then-not-has_end-clause-flushed g c = never_flushed _ _ _ _ (sym c.has_end.ensures ∙ c.if-not-has_end.true) c.read_and_run-ended.ensures.flushes

-- ---- a run that came to an end of its own

pub returns-clause-replayed : goal.returns-clause-replayed
returns-clause-replayed g c = ended_kept _ _ _ _ _ _ (sym c.has_end.ensures ∙ c.if-not-has_end.false) c.read_and_run-ended.ensures.replayed c.in_ok-flush.ensures.keeps

pub returns-clause-left : goal.returns-clause-left
returns-clause-left g c = nothing_left _ _ _ _ _ c.read_and_run-ended.ensures.replayed

pub returns-clause-unread : goal.returns-clause-unread
returns-clause-unread g c = ended_unread _ _ _ (sym c.has_end.ensures ∙ c.if-not-has_end.false)

pub returns-clause-flushed : goal.returns-clause-flushed
returns-clause-flushed g c =
    ended_once _ _ _ (sym c.has_end.ensures ∙ c.if-not-has_end.false) (record {
      whole = whole_kept _ _ _ _ _ (ended_whole _ _ _ _ _ (sym c.has_end.ensures ∙ c.if-not-has_end.false) c.read_and_run-ended.ensures.replayed) c.in_ok-flush.ensures.keeps;
      once = c.in_ok-flush.ensures.once ∙ ap next_count c.read_and_run-ended.ensures.flushes;
      last = c.in_ok-flush.ensures.flushed;
    })

pub returns-clause-counts : goal.returns-clause-counts
returns-clause-counts g c =
    let none = none_failed _ _ _ _ _ (sym c.has_end.ensures ∙ c.if-not-has_end.false) c.read_and_run-ended.ensures.counts in
    ended_counts _ _ _ _ _ (sym c.has_end.ensures ∙ c.if-not-has_end.false) none.0 (c.in_ok-flush.ensures.counts.1 ∙ none.1)

-- ---- the flush failed

pub returns-in_err-flush-clause-replayed : goal.returns-in_err-flush-clause-replayed
returns-in_err-flush-clause-replayed g c =
    let p = err_from_is_err_and c.from_residual.result c.from_residual.ensures.1 in
    rw (p.1, p.2) (flush_fails _ _ _ _ _ (whole_kept _ _ _ _ _ (ended_whole _ _ _ _ _ (sym c.has_end.ensures ∙ c.if-not-has_end.false) c.read_and_run-ended.ensures.replayed) c.in_err-flush.ensures.keeps) c.in_err-flush.ensures.device)

pub returns-in_err-flush-clause-left : goal.returns-in_err-flush-clause-left
returns-in_err-flush-clause-left g c =
    let p = err_from_is_err_and c.from_residual.result c.from_residual.ensures.1 in
    rw p.1 (none_told _)

pub returns-in_err-flush-clause-flushed : goal.returns-in_err-flush-clause-flushed
returns-in_err-flush-clause-flushed g c =
    let p = err_from_is_err_and c.from_residual.result c.from_residual.ensures.1 in
    rw (p.1, p.2) (flush_once _ _ _ (whole_kept _ _ _ _ _ (ended_whole _ _ _ _ _ (sym c.has_end.ensures ∙ c.if-not-has_end.false) c.read_and_run-ended.ensures.replayed) c.in_err-flush.ensures.keeps)
    (c.in_err-flush.ensures.once ∙ ap next_count c.read_and_run-ended.ensures.flushes) c.in_err-flush.ensures.device)

pub returns-in_err-flush-clause-unread : goal.returns-in_err-flush-clause-unread
returns-in_err-flush-clause-unread g c =
    let p = err_from_is_err_and c.from_residual.result c.from_residual.ensures.1 in
    rw (p.1, p.2) (flush_read _ _ _ c.in_err-flush.ensures.device)

pub returns-in_err-flush-clause-counts : goal.returns-in_err-flush-clause-counts
returns-in_err-flush-clause-counts g c =
    let p = err_from_is_err_and c.from_residual.result c.from_residual.ensures.1 in
    let none = none_failed _ _ _ _ _ (sym c.has_end.ensures ∙ c.if-not-has_end.false) c.read_and_run-ended.ensures.counts in
    rw (p.1, p.2) (flush_counts _ _ _ _ _ _ none.0 none.1 c.in_err-flush.ensures.counts c.in_err-flush.ensures.device)
