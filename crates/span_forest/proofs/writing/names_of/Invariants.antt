use Rattle.std.proofs.Common.{length, map}
use Rattle.std.specs.Prelude.{string_bytes}
use Rattle.span_forest.specs.Spans.{nodes_of}
use Rattle.span_forest.proofs.Paths.{Gathers, walk_from}
use Rattle.span_forest.proofs.writing.names_of.Given as goal

abbrev pub invariant-up : goal.invariant-up
invariant-up l = Gathers (nodes_of l.slots.entries) l.fn.layer l.fn.id (map string_bytes l.names.items) l.next

abbrev pub decreases-up : goal.decreases-up
decreases-up l = length (walk_from (nodes_of l.slots.entries) l.next)
