use Rattle.span_core.proofs.Legal.{whole}
use Rattle.span_core.proofs.laws.layers_admit_spans_by_their_rules.Goals as goal

pub returns : goal.returns
returns g c = (whole _ _ _ _ c.what_was_sent_is_legal.ensures.legal).settled.bits
