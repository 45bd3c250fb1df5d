use Rattle.span_forest.specs.Spans.{nodes_of}
use Rattle.span_forest.proofs.OpenIds.{listed_open, open_listed, ids_once, ids_ascend}
use Rattle.span_forest.proofs.forest.laws.open_spans_are_listed_once.Goals as goal

pub returns-clause-exact : goal.returns-clause-exact
returns-clause-exact c = λ id. (listed_open c.args.forest.now.spans id, open_listed c.args.forest.now.spans id)

pub returns-clause-once : goal.returns-clause-once
returns-clause-once c =
    rw (← c.forest.view_is) (ids_once (nodes_of c.forest.inside.slots.entries) c.forest.invariant.settled.forest.ids_apart)

pub returns-clause-ascending : goal.returns-clause-ascending
returns-clause-ascending c = rw (← c.forest.view_is) (ids_ascend c.forest.inside.slots.entries c.each_slot_has_one_id.ensures.ascending)
