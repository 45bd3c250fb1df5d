use Rattle.span_replay.specs.inside.Setup.{setup_state}
use Rattle.span_replay.proofs.Explaining.{at_its_stage, begun_explained}
use Rattle.span_replay.proofs.run.why.explain_calls.Goals as goal

pub returns-in-Ok-clause-explained : goal.returns-in-Ok-clause-explained
returns-in-Ok-clause-explained g c =
    at_its_stage _ _ _ (setup_state c.args.setup) _ _ (begun_explained _ _ _ (setup_state c.args.setup).core _ _ _ _ _ c.requires.call c.in-Ok.ensures.core c.in-Ok.ensures.labels c.new.ensures.items c.explain_rest.ensures.explained)
