use Rattle.span_storm.proofs.Everything.{wants_all}
use Rattle.tracerun.proofs.storms.layers_of_all.Goals as goal

pub returns-in-Ok : goal.returns-in-Ok
returns-in-Ok c = wants_all _ _ _ c.in-Ok.ensures.filters c.new-layers.ensures.filters c.in_ok-rule.ensures
