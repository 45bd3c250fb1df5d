use Rattle.std.proofs.Common.{sym, ◌∙◌}
use Rattle.span_forest.specs.Spans.{nodes_of}
use Rattle.span_forest.proofs.OpenIds.{ids_of_nodes, place_of}
use Rattle.span_forest.proofs.Marks.{turn_all}
use Rattle.span_forest.proofs.holding.all_held.Goals as goal

pub loop-at-init : goal.loop-at-init
loop-at-init c = record {
  ids = c.deref-at-items.ensures.value ∙ (c.in_ok-ids.ensures.ids ∙ sym (ids_of_nodes c.args.slots.now.entries));
  so_far = c.new-found.ensures.items;
}

pub loop-at-preserved : goal.loop-at-preserved
loop-at-preserved c =
    let spans = nodes_of c.args.slots.now.entries in
    let place = place_of spans c.deref-at-items.result.now c.loop-at.at-index c.at-item.result c.loop-at.invariant.ids c.loop-at-test.true c.at-item.is in
    record {
      ids = c.loop-at.invariant.ids;
      so_far = rw (c.in_ok-push_held.ensures, c.loop-at.invariant.so_far) (sym (turn_all spans c.loop-at.at-index c.at-item.result c.requires.ids_apart place));
    }
