use Rattle.span_forest.specs.Spans.{nodes_of}
use Rattle.span_forest.proofs.KeptOpen.{held_empty}
use Rattle.span_forest.proofs.forest.laws.no_span_is_held_where_none_is_open.Goals as goal

pub returns : goal.returns
returns c =
    rw (← c.forest.view_is) (held_empty (nodes_of c.forest.inside.slots.entries) (record { forest = c.forest.invariant.settled.forest; positive = c.forest.invariant.settled.positive }))
