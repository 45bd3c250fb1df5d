use Rattle.span_forest.proofs.OpenIds.{ids_of_nodes}
use Rattle.span_forest.proofs.forest.Forest.open_spans.Goals as goal

pub returns-clause-ids : goal.returns-clause-ids
returns-clause-ids c = rw (← c.self.view_is, ids_of_nodes c.self.inside.slots.entries) c.ids.ensures.ids
