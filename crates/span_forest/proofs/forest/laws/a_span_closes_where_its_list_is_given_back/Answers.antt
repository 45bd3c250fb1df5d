use Rattle.span_forest.specs.Spans.{nodes_of}
use Rattle.span_forest.proofs.GivenBack.{list_legal, closed_by_list}
use Rattle.span_forest.proofs.forest.laws.a_span_closes_where_its_list_is_given_back.Goals as goal

pub returns-clause-legal : goal.returns-clause-legal
returns-clause-legal c =
    rw (← c.forest.view_is) (λ id. list_legal (nodes_of c.forest.inside.slots.entries) id c.forest.invariant.settled.forest)

pub returns-clause-closes : goal.returns-clause-closes
returns-clause-closes c =
    rw (← c.forest.view_is) (λ id. closed_by_list (nodes_of c.forest.inside.slots.entries) id (record { forest = c.forest.invariant.settled.forest; positive = c.forest.invariant.settled.positive }))
