use Rattle.span_forest.specs.Spans.{nodes_of}
use Rattle.span_forest.proofs.Upheld.{empty_from_no_holder}
use Rattle.span_forest.proofs.forest.laws.empty_where_nothing_is_held.Goals as goal

pub returns : goal.returns
returns c =
    rw (← c.forest.view_is) (λ none. empty_from_no_holder (nodes_of c.forest.inside.slots.entries) (record { forest = c.forest.invariant.settled.forest; positive = c.forest.invariant.settled.positive }) none)
