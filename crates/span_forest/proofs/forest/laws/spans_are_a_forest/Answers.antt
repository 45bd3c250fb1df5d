use Rattle.span_forest.proofs.forest.laws.spans_are_a_forest.Goals as goal

pub returns : goal.returns
returns c = rw (← c.forest.view_is) c.forest.invariant.settled.forest
