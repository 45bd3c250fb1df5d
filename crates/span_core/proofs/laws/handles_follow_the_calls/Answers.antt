use Rattle.span_core.proofs.Legal.{whole}
use Rattle.span_core.proofs.Follows.{handles_step}
use Rattle.span_core.proofs.laws.handles_follow_the_calls.Goals as goal

pub returns : goal.returns
returns g c =
    let w = whole _ _ _ _ c.what_was_sent_is_legal.ensures.legal in
    λ request answer new accepted. handles_step _ _ _ request answer new.world accepted.step.changes w.settled.upheld.forest
