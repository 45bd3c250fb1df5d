use Rattle.span_core.proofs.Made.{made_or_closed}
use Rattle.span_core.proofs.laws.made_spans_are_open_or_closed.Goals as goal

pub returns : goal.returns
returns g c = made_or_closed _ _ _ _ c.what_was_sent_is_legal.ensures.legal
