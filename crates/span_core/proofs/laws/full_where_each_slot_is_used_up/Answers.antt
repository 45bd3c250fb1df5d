use Rattle.std.proofs.Common.{◌≡◌, ◌<◌, ℕ, true, None, subst}
use Rattle.std.specs.Prelude.{◌↔◌}
use Rattle.span_core.specs.Core.{CoreView}
use Rattle.span_core.specs.NextId.{next_id_after, is_used_up}
use Rattle.span_core.proofs.UsedUp.{full_exactly}
use Rattle.span_core.proofs.laws.full_where_each_slot_is_used_up.Goals as goal

pub returns : goal.returns
returns g c =
    subst (λ (v : CoreView). (next_id_after v.limits.slots v.limits.last_generation v.sent ≡ None) ↔ ((slot : ℕ) → slot < v.limits.slots → is_used_up v.limits.last_generation v.world.spans v.sent slot ≡ true)) c.core.view_is
    (full_exactly c.core.inside.limits c.core.inside.rules c.core.inside.forest _ _ _ c.core.invariant.0 c.limits.ensures.in_range c.full_where_each_slot_is_used_up.ensures.full)
