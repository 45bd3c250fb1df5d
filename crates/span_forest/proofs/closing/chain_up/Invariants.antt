use Rattle.std.proofs.Common.{length}
use Rattle.span_forest.specs.Spans.{nodes_of}
use Rattle.span_forest.specs.Release.{without_holder}
use Rattle.span_forest.specs.inside.Chain.{without_all}
use Rattle.span_forest.proofs.Along.{Along}
use Rattle.span_forest.proofs.closing.chain_up.Given as goal

abbrev pub invariant-up : goal.invariant-up
invariant-up l =
    Along l.slots.entries (without_holder (nodes_of l.slots.entries) l.fn.id l.fn.holder) l.fn.id l.closed.items l.next (without_all (without_holder (nodes_of l.slots.entries) l.fn.id l.fn.holder) l.closed.items)

abbrev pub decreases-up : goal.decreases-up
decreases-up l = length (without_all (without_holder (nodes_of l.slots.entries) l.fn.id l.fn.holder) l.closed.items)
