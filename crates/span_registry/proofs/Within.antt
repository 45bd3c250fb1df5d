-- A core that keeps its limits keeps those of its registry.
use Rattle.std.proofs.Common.{◌≡◌, ℕ, ◌^◌, ◌<◌, ◌≤◌, length, subst}
use Rattle.span_id.specs.Id.{slot_of}
use Rattle.span_id.specs.declared.limits.Limits.{Limits}
use Rattle.span_forest.specs.Spans.{IsOpen}
use Rattle.span_forest.specs.Count.{reference_count}
use Rattle.span_core.specs.Core.{CoreView}
use Rattle.span_registry.specs.Report.{IsWithin}

pub within_limits : (limits : Limits) (core : CoreView) → core.limits ≡ limits
    → ((id : ℕ) → reference_count core.world.spans id ≤ core.limits.max_count) → ((id : ℕ) → IsOpen core.world.spans id → slot_of id < core.limits.slots) → length core.sent < 2 ^ 64
    → IsWithin limits core
within_limits limits core are counts slots calls = record {
  counts = λ id. subst (λ (l : Limits). reference_count core.world.spans id ≤ l.max_count) are (counts id);
  slots = λ id is. subst (λ (l : Limits). slot_of id < l.slots) are (slots id is);
  calls = calls;
}
