use Rattle.span_forest.proofs.Slotted.{full_nodes, full_in_words}
use Rattle.span_forest.proofs.forest.laws.full_where_each_slot_is_used_up.Goals as goal

pub returns-clause-full : goal.returns-clause-full
returns-clause-full c = rw (← c.forest.view_is) (full_nodes c.forest.inside.slots c.forest.inside.max_count c.full_where_no_slot_is_free.ensures)

pub returns-clause-slots : goal.returns-clause-slots
returns-clause-slots c = full_in_words c.args.forest.now (returns-clause-full c)
