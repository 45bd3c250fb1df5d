use Rattle.span_forest.specs.Spans.{nodes_of}
use Rattle.span_forest.proofs.Spared.{list_first}
use Rattle.span_forest.proofs.forest.laws.closing_list_begins_the_walk.Goals as goal

pub returns : goal.returns
returns c =
    rw (← c.forest.view_is) (λ id holder held. list_first (nodes_of c.forest.inside.slots.entries) c.forest.invariant.settled.forest c.forest.invariant.settled.positive id holder)
