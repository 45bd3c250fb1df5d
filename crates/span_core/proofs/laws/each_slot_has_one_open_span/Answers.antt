use Rattle.std.proofs.Common.{◌≡◌, ◌<◌, ℕ, ap, subst}
use Rattle.span_id.specs.Id.{slot_of, IsId}
use Rattle.span_forest.specs.Spans.{IsOpen}
use Rattle.span_forest.specs.Forest.{ForestView}
use Rattle.span_core.specs.Core.{CoreView}
use Rattle.span_core.proofs.laws.each_slot_has_one_open_span.Goals as goal

pub returns-clause-one_slot : goal.returns-clause-one_slot
returns-clause-one_slot g c =
    subst (λ (v : CoreView). (id other : ℕ) → IsOpen v.world.spans id → IsOpen v.world.spans other → slot_of id ≡ slot_of other → id ≡ other) c.core.view_is c.each_slot_has_one_open_id.ensures.one_slot

pub returns-clause-in_layout : goal.returns-clause-in_layout
returns-clause-in_layout g c =
    subst (λ (v : CoreView). (id : ℕ) → IsOpen v.world.spans id → IsId id) c.core.view_is c.each_slot_has_one_open_id.ensures.in_layout

pub returns-clause-in_range : goal.returns-clause-in_range
returns-clause-in_range g c =
    subst (λ (v : CoreView). (id : ℕ) → IsOpen v.world.spans id → slot_of id < v.limits.slots) c.core.view_is
    (subst (λ (k : ℕ). (id : ℕ) → IsOpen c.core.inside.forest.spans id → slot_of id < k) (ap (λ (f : ForestView). f.slots) c.core.invariant.0.forest_is) c.open_slots_are_in_range.ensures)
