use Rattle.span_storm.proofs.Everything.{wants_all}
use Rattle.tracerun_tests.proofs.tests.storm.layer.storm_of_all.Goals as goal

pub storm-requires-clause-wanted : goal.storm-requires-clause-wanted
storm-requires-clause-wanted g c κs within = wants_all _ _ _ c.in-Ok-add.ensures.filters c.new-layers.ensures.filters c.in-Ok.ensures
