use Rattle.span_core.proofs.ClosingPaths.{closing_chain}
use Rattle.span_core.proofs.notes.closing.closing_lists_are_chains.Goals as goal

pub returns : goal.returns
returns c =
    λ id holder held. closing_chain c.args.forest.now.spans id _ c.walks_end.ensures c.open_spans_are_counted.ensures.parent (c.held_ids_are_open.ensures id holder held) (c.closing_list_begins_the_walk.ensures id holder held)
