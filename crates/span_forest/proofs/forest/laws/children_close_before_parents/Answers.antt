use Rattle.span_forest.specs.Spans.{nodes_of}
use Rattle.span_forest.proofs.Orders.{list_once, list_child_first}
use Rattle.span_forest.proofs.forest.laws.children_close_before_parents.Goals as goal

pub returns-clause-once : goal.returns-clause-once
returns-clause-once c =
    rw (← c.forest.view_is) (λ id holder. list_once (nodes_of c.forest.inside.slots.entries) c.forest.invariant.settled.forest id holder)

pub returns-clause-child_first : goal.returns-clause-child_first
returns-clause-child_first c =
    rw (← c.forest.view_is) (λ id holder. list_child_first (nodes_of c.forest.inside.slots.entries) c.forest.invariant.settled.forest id holder)
