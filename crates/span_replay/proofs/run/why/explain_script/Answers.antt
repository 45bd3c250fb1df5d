use Rattle.std.proofs.Common.{rules, ◌∙◌}
use Rattle.span_replay.proofs.MostLayers.{all_explained_same}
use Rattle.span_replay.proofs.run.why.explain_script.Goals as goal

pub returns-in-Ok-clause-explained : goal.returns-in-Ok-clause-explained
returns-in-Ok-clause-explained c =
    all_explained_same _ _ _ _ _ _ (c.new.ensures.hooks ∙ (c.in-Ok.ensures ∙ c.min.ensures)) (search (rules, c.new.ensures.state)) c.explain_all.ensures.explained
