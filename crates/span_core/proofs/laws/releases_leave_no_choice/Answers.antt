use Rattle.span_core.proofs.OneRelease.{one_release}
use Rattle.span_core.proofs.laws.releases_leave_no_choice.Goals as goal

pub returns : goal.returns
returns g c =
    λ request new other id one two. one_release c.args.core.now c.open_spans_are_a_live_forest.ensures.forest request new other one two id
