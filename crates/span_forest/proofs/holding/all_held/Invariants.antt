use Rattle.std.proofs.Common.{◌≡◌}
use Rattle.span_forest.specs.Spans.{nodes_of}
use Rattle.span_slots.specs.Table.{all_ids}
use Rattle.span_forest.proofs.Marks.{held_first}
use Rattle.span_forest.proofs.holding.all_held.Given as goal

abbrev pub invariant-loop-at : goal.invariant-loop-at
invariant-loop-at l = record {
  ids : l.at-items ≡ all_ids (nodes_of l.slots.entries);
  so_far : l.found.items ≡ held_first (nodes_of l.slots.entries) l.at-index;
}
