use Rattle.span_forest.specs.Spans.{nodes_of}
use Rattle.span_forest.proofs.Spared.{gone_exactly}
use Rattle.span_forest.proofs.forest.laws.release_closes_its_list.Goals as goal

pub returns : goal.returns
returns c =
    rw (← c.forest.view_is) (λ id span holder held. gone_exactly (nodes_of c.forest.inside.slots.entries) c.forest.invariant.settled.forest c.forest.invariant.settled.positive id holder span)
