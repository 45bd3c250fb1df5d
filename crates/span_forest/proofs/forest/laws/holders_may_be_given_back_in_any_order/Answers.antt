use Rattle.span_forest.specs.Spans.{nodes_of}
use Rattle.span_forest.proofs.Releases.{legal_from, legal_to}
use Rattle.span_forest.proofs.forest.laws.holders_may_be_given_back_in_any_order.Goals as goal

pub returns : goal.returns
returns c =
    let spans = nodes_of c.forest.inside.slots.entries in
    rw (← c.forest.view_is) (λ releases. (legal_to releases spans c.forest.invariant.settled.forest, legal_from releases spans c.forest.invariant.settled.forest))
