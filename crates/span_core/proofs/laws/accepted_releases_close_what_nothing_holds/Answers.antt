use Rattle.span_core.proofs.NothingHeld.{releases}
use Rattle.span_core.proofs.laws.accepted_releases_close_what_nothing_holds.Goals as goal

pub returns : goal.returns
returns g c =
    λ request answer new accepted gives. releases _ c.args.core.now request answer new c.what_was_sent_is_legal.ensures.legal c.entries_are_the_workers_inside.ensures accepted (λ layer id. c.closes_are_announced_once.ensures request answer new layer id accepted) gives
