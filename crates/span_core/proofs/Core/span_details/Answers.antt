use Rattle.std.proofs.Common.{ap, ◌∙◌}
use Rattle.span_forest.proofs.OpenIds.{place_of, place_open}
use Rattle.span_core.proofs.Detailed.{details_more, details_all}
use Rattle.span_core.specs.Details.{plain_details}
use Rattle.std.proofs.Common.{map}
use Rattle.span_core.proofs.Core.span_details.Goals as goal

pub details-requires : goal.details-requires
details-requires g c =
    let spans = c.args.self.now.world.spans in
    place_open spans c.loop-id.id-index c.id-item.result c.open_spans_are_a_live_forest.ensures.forest.ids_apart (place_of spans c.deref-id-items.result.now c.loop-id.id-index c.id-item.result c.loop-id.invariant.ids c.loop-id-test.true c.id-item.is)

pub loop-id-preserved : goal.loop-id-preserved
loop-id-preserved g c =
    let spans = c.args.self.now.world.spans in
    let apart = c.open_spans_are_a_live_forest.ensures.forest.ids_apart in
    let place = place_of spans c.deref-id-items.result.now c.loop-id.id-index c.id-item.result c.loop-id.invariant.ids c.loop-id-test.true c.id-item.is in
    record {
      ids = c.loop-id.invariant.ids;
      so_far = ap (map plain_details) c.in_ok-push.ensures.items ∙ details_more c.args.self.now.world c.loop-id.list.items c.in_ok-details.details c.loop-id.id-index c.id-item.result apart place c.in_ok-details.ensures.details c.loop-id.invariant.so_far;
    }

pub returns-clause-details : goal.returns-clause-details
returns-clause-details g c =
    c.loop-id.invariant.so_far ∙ details_all c.args.self.now.world c.loop-id.id-index c.deref-id-items.result.now c.loop-id.invariant.ids c.loop-id-test.false
