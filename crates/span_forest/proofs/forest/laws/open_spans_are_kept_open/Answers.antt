use Rattle.span_forest.specs.Spans.{nodes_of}
use Rattle.span_forest.proofs.KeptOpen.{kept_open}
use Rattle.span_forest.proofs.forest.laws.open_spans_are_kept_open.Goals as goal

pub returns : goal.returns
returns c =
    rw (← c.forest.view_is) (λ id. kept_open (nodes_of c.forest.inside.slots.entries) id (record { forest = c.forest.invariant.settled.forest; positive = c.forest.invariant.settled.positive }))
