use Rattle.span_benchmark.proofs.Wanted.{wants_two}
use Rattle.span_benchmark.proofs.storms.under_two.Goals as goal

pub storm-requires-clause-wanted : goal.storm-requires-clause-wanted
storm-requires-clause-wanted g c κs within = wants_two _ _ _ _ _ c.in_ok-add-2.ensures c.in_ok-add.ensures c.new-layers.ensures.filters c.requires.told c.requires.other_told
