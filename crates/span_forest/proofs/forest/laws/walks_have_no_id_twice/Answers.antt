use Rattle.span_forest.specs.Spans.{nodes_of}
use Rattle.span_forest.proofs.Orders.{walk_once}
use Rattle.span_forest.proofs.forest.laws.walks_have_no_id_twice.Goals as goal

pub returns : goal.returns
returns c = rw (← c.forest.view_is) (λ id. walk_once (nodes_of c.forest.inside.slots.entries) c.forest.invariant.settled.forest id)
