use Rattle.span_forest.specs.Forest.{next_span_id}
use Rattle.span_slots.proofs.Entries.{find-with_other}
use Rattle.span_forest.proofs.Slotted.{found_next}
use Rattle.span_forest.proofs.forest.laws.new_id_finds_its_span.Goals as goal

pub returns-clause-found : goal.returns-clause-found
returns-clause-found c = λ node. found_next (next_span_id c.args.forest.now) c.args.forest.now.spans node c.next_id_is_new.ensures.not_open

pub returns-clause-others : goal.returns-clause-others
returns-clause-others c = λ id other node apart. find-with_other c.args.forest.now.spans id other node apart
