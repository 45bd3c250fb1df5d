use Rattle.span_forest.proofs.Ranks.{ranked}
use Rattle.span_forest.proofs.Walks.{all_live}
use Rattle.span_core.proofs.Legal.{whole}
use Rattle.span_core.proofs.laws.open_spans_are_a_live_forest.Goals as goal

pub returns-clause-forest : goal.returns-clause-forest
returns-clause-forest g c = (whole _ _ _ _ c.what_was_sent_is_legal.ensures.legal).settled.upheld.forest

pub returns-clause-live : goal.returns-clause-live
returns-clause-live g c =
    let upheld = (whole _ _ _ _ c.what_was_sent_is_legal.ensures.legal).settled.upheld in
    λ id there. all_live c.args.core.now.world.spans (ranked c.args.core.now.world.spans upheld.forest) upheld.positive id there
