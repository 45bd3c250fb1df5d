use Rattle.span_forest.specs.Spans.{nodes_of}
use Rattle.span_forest.proofs.GivenBack.{closed_after, open_after}
use Rattle.span_forest.proofs.forest.laws.a_span_closes_with_the_last_that_keeps_it.Goals as goal

pub returns-clause-closes : goal.returns-clause-closes
returns-clause-closes c =
    rw (← c.forest.view_is) (λ id releases held all. closed_after (nodes_of c.forest.inside.slots.entries) id releases (record { forest = c.forest.invariant.settled.forest; positive = c.forest.invariant.settled.positive }) held all)

pub returns-clause-stays : goal.returns-clause-stays
returns-clause-stays c =
    rw (← c.forest.view_is) (λ id releases held legal kept left. open_after (nodes_of c.forest.inside.slots.entries) id releases held (record { forest = c.forest.invariant.settled.forest; positive = c.forest.invariant.settled.positive }) legal kept left)
