use Rattle.std.proofs.Common.{◌≡◌, map, take}
use Rattle.span_forest.specs.Holding.{all_ids}
use Rattle.span_core.specs.Details.{plain_details, details_of}
use Rattle.span_core.proofs.Core.span_details.Given as goal

abbrev pub invariant-loop-id : goal.invariant-loop-id
invariant-loop-id g l = record {
  ids : l.id-items ≡ all_ids l.self.world.spans;
  so_far : map plain_details l.list.items ≡ map (details_of l.self.world) (take l.id-index l.self.world.spans);
}
