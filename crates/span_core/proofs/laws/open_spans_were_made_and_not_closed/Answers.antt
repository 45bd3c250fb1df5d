use Rattle.span_core.proofs.Legal.{whole, open_exactly}
use Rattle.span_core.proofs.laws.open_spans_were_made_and_not_closed.Goals as goal

pub returns-clause-exact : goal.returns-clause-exact
returns-clause-exact g c = λ id. open_exactly _ _ _ _ (whole _ _ _ _ c.what_was_sent_is_legal.ensures.legal).settled id

pub returns-clause-once : goal.returns-clause-once
returns-clause-once g c = (whole _ _ _ _ c.what_was_sent_is_legal.ensures.legal).settled.once

pub returns-clause-closed : goal.returns-clause-closed
returns-clause-closed g c = (whole _ _ _ _ c.what_was_sent_is_legal.ensures.legal).settled.closed_gone
