use Rattle.span_core.proofs.Legal.{whole}
use Rattle.span_core.proofs.Named.{named_by_close, named_by_exit}
use Rattle.span_core.proofs.laws.the_named_span_closes_first.Goals as goal

pub returns-clause-try_close : goal.returns-clause-try_close
returns-clause-try_close g c =
    let w = whole _ _ _ _ c.what_was_sent_is_legal.ensures.legal in
    λ worker id closed new accepted. named_by_close _ _ _ _ worker id closed new.world w.settled c.entries_are_the_workers_inside.ensures accepted.step.changes

pub returns-clause-exit : goal.returns-clause-exit
returns-clause-exit g c =
    let w = whole _ _ _ _ c.what_was_sent_is_legal.ensures.legal in
    λ worker id closed new accepted. named_by_exit _ _ _ _ worker id closed new.world w.settled c.entries_are_the_workers_inside.ensures accepted.step.changes accepted.step.changes.known
