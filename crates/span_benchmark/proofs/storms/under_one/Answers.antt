use Rattle.span_benchmark.proofs.Wanted.{wants_one}
use Rattle.span_benchmark.proofs.storms.under_one.Goals as goal

pub storm-requires-clause-wanted : goal.storm-requires-clause-wanted
storm-requires-clause-wanted g c κs within = wants_one _ _ _ c.in_ok-add.ensures c.new-layers.ensures.filters c.requires.told
