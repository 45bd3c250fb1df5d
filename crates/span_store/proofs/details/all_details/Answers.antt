use Rattle.std.proofs.Common.{sym, ◌∙◌}
use Rattle.span_slots.specs.Table.{find}
use Rattle.span_store.specs.inside.Invariant.{spans_of}
use Rattle.span_store.proofs.Maps.{there_is}
use Rattle.span_store.proofs.Plain.{entry_at, apart-spans}
use Rattle.span_store.proofs.Walks.{ids-spans}
use Rattle.span_store.proofs.Places.{place_of, place_there, details_more, details_all}
use Rattle.span_store.proofs.details.all_details.Goals as goal

pub loop-id-init : goal.loop-id-init
loop-id-init c = record {
  ids = c.deref-id-items.ensures.value ∙ (c.in_ok-ids.ensures.ids ∙ sym (ids-spans c.args.slots.now.entries));
  so_far = c.in_ok-list.ensures.items;
}

pub push_details-requires-clause-there : goal.push_details-requires-clause-there
push_details-requires-clause-there c =
    let es = c.args.slots.now.entries in
    let place = place_of (spans_of es) c.deref-id-items.result.now c.loop-id.id-index c.id-item.result c.loop-id.invariant.ids c.loop-id-test.true c.id-item.is in
    let found = entry_at es c.id-item.result (place_there (spans_of es) c.loop-id.id-index c.id-item.result (apart-spans es c.requires.apart) place) in
    there_is (find es c.id-item.result) found.0 found.1

pub loop-id-preserved : goal.loop-id-preserved
loop-id-preserved c =
    let es = c.args.slots.now.entries in
    let place = place_of (spans_of es) c.deref-id-items.result.now c.loop-id.id-index c.id-item.result c.loop-id.invariant.ids c.loop-id-test.true c.id-item.is in
    record {
      ids = c.loop-id.invariant.ids;
      so_far = details_more (spans_of es) c.loop-id.list.items c.push_details.new.list.items c.loop-id.id-index c.id-item.result (apart-spans es c.requires.apart) place c.in_ok-push_details.ensures c.loop-id.invariant.so_far;
    }

pub returns-clause-list : goal.returns-clause-list
returns-clause-list c =
    c.loop-id.invariant.so_far ∙ details_all (spans_of c.args.slots.now.entries) c.loop-id.id-index c.deref-id-items.result.now c.loop-id.invariant.ids c.loop-id-test.false
