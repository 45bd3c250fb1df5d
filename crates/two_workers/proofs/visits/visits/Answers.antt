use Rattle.span_registry.specs.Worker.{IsNew}
use Rattle.two_workers.proofs.Three.{of_three, all_three}
use Rattle.two_workers.proofs.visits.visits.Goals as goal

pub both-requires-clause-new : goal.both-requires-clause-new
both-requires-clause-new g c κs lives =
    let each = of_three IsNew _ _ _ _ _ _ c.three-own.ensures c.requires.workers c.in_ok-registry.ensures.each in
    all_three each.0.accepted_is each.1.accepted_is each.2.accepted_is
