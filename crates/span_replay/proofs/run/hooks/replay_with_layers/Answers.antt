use Rattle.std.proofs.Common.{◌∙◌}
use Rattle.span_replay.proofs.MostLayers.{replayed_same, flushed_same}
use Rattle.span_replay.proofs.run.hooks.replay_with_layers.Goals as goal

pub returns-in-Ok-clause-replayed : goal.returns-in-Ok-clause-replayed
returns-in-Ok-clause-replayed g c = replayed_same _ _ _ _ _ _ (c.in-Ok.ensures ∙ c.min.ensures) c.replay.ensures.replayed

pub returns-in-Ok-clause-flushed : goal.returns-in-Ok-clause-flushed
returns-in-Ok-clause-flushed g c = flushed_same _ _ _ _ _ _ _ _ (c.in-Ok.ensures ∙ c.min.ensures) c.replay.ensures.flushed
