use Rattle.std.proofs.Common.{length, map}
use Rattle.span_forest.specs.Spans.{nodes_of}
use Rattle.span_forest.proofs.Paths.{walk_from}
use Rattle.span_forest.proofs.Texts.{Sees}
use Rattle.span_forest.proofs.path_text.seen_on_walk.Given as goal

abbrev pub invariant-up : goal.invariant-up
invariant-up l = Sees (nodes_of l.slots.entries) l.fn.layer l.fn.id (map (λ name. name.now) l.seen.names.items) l.seen.same.0 l.next

abbrev pub decreases-up : goal.decreases-up
decreases-up l = length (walk_from (nodes_of l.slots.entries) l.next)
