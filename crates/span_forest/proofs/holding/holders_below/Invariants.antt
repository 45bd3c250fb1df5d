use Rattle.std.proofs.Common.{◌≡◌, None}
use Rattle.span_forest.specs.Spans.{nodes_of}
use Rattle.span_slots.specs.Table.{all_ids}
use Rattle.span_forest.specs.inside.Marks.{AreMarks}
use Rattle.span_forest.proofs.Marks.{gathered_in}
use Rattle.span_forest.proofs.holding.holders_below.Given as goal

abbrev pub invariant-loop-at : goal.invariant-loop-at
invariant-loop-at l = record {
  ids : l.at-items ≡ all_ids (nodes_of l.slots.entries);
  marks : AreMarks (nodes_of l.slots.entries) l.fn.id None l.marks.items;
  so_far : l.found.items ≡ gathered_in (nodes_of l.slots.entries) l.fn.id l.at-index;
}
