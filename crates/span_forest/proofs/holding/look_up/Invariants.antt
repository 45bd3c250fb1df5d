use Rattle.std.proofs.Common.{length}
use Rattle.span_forest.specs.Spans.{nodes_of}
use Rattle.span_forest.proofs.Paths.{walk_from}
use Rattle.span_forest.proofs.Marks.{Climbs}
use Rattle.span_forest.proofs.holding.look_up.Given as goal

abbrev pub invariant-up : goal.invariant-up
invariant-up l = Climbs (nodes_of l.slots.entries) l.fn.id l.fn.at l.next

abbrev pub decreases-up : goal.decreases-up
decreases-up l = length (walk_from (nodes_of l.slots.entries) l.next)
