use Rattle.span_forest.specs.Spans.{nodes_of}
use Rattle.span_forest.proofs.Spared.{holder_spared, child_spared}
use Rattle.span_forest.proofs.forest.laws.what_is_held_stays_open.Goals as goal

pub returns-clause-holder : goal.returns-clause-holder
returns-clause-holder c =
    rw (← c.forest.view_is) (λ id span holder held. holder_spared (nodes_of c.forest.inside.slots.entries) c.forest.invariant.settled.forest c.forest.invariant.settled.positive id holder span)

pub returns-clause-child : goal.returns-clause-child
returns-clause-child c =
    rw (← c.forest.view_is) (λ id child parent holder held. child_spared (nodes_of c.forest.inside.slots.entries) c.forest.invariant.settled.forest c.forest.invariant.settled.positive id holder child parent)
