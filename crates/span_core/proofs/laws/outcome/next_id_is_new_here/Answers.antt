use Rattle.std.proofs.Common.{subst}
use Rattle.span_core.specs.Outcome.{IsNextIdNew}
use Rattle.span_core.proofs.NewSpans.{next_is_new}
use Rattle.span_core.proofs.laws.outcome.next_id_is_new_here.Goals as goal

pub returns : goal.returns
returns g c =
    subst IsNextIdNew c.core.view_is
    (next_is_new c.core.inside.limits c.core.inside.rules c.core.inside.forest _ _ _ c.core.invariant.0 c.next_id_is_new.ensures.in_layout c.next_id_is_new.ensures.never_issued)
