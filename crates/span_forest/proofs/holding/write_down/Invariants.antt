use Rattle.std.proofs.Common.{length}
use Rattle.span_forest.specs.Spans.{nodes_of}
use Rattle.span_forest.proofs.Paths.{walk_from}
use Rattle.span_forest.proofs.Marks.{Climbs, Marked}
use Rattle.span_forest.proofs.holding.write_down.Given as goal

abbrev pub invariant-up : goal.invariant-up
invariant-up l = record {
  climbs : Climbs (nodes_of l.slots.entries) l.fn.id l.fn.at l.next;
  marks : Marked (nodes_of l.slots.entries) l.fn.id l.fn.at l.initial.marks l.marks l.next;
}

abbrev pub decreases-up : goal.decreases-up
decreases-up l = length (walk_from (nodes_of l.slots.entries) l.next)
