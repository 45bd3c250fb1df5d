use Rattle.span_replay.specs.inside.Running.{state_at}
use Rattle.span_replay.proofs.LastLines.{with_labels}
use Rattle.span_replay.proofs.run.tidying.tidy.Goals as goal

pub returns-clause-runs : goal.returns-clause-runs
returns-clause-runs g c = λ stage. with_labels (state_at c.args.script.now stage) _ _ _ _ c.replace-labels.ensures.value (c.leave_and_close-ended.ensures.runs stage)
