use Rattle.std.proofs.Common.{◌≡◌, map, take}
use Rattle.span_slots.specs.Table.{all_ids}
use Rattle.span_store.specs.Details.{details_there}
use Rattle.span_store.specs.inside.Invariant.{spans_of}
use Rattle.span_store.proofs.details.all_details.Given as goal

abbrev pub invariant-loop-id : goal.invariant-loop-id
invariant-loop-id l = record {
  ids : l.id-items ≡ all_ids (spans_of l.slots.entries);
  so_far : l.list.items ≡ map (details_there (spans_of l.slots.entries)) (take l.id-index (spans_of l.slots.entries));
}
