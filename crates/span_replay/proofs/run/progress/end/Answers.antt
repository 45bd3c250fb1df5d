use Rattle.std.proofs.Common.{ap, sym, ◌∙◌, subst}
use Rattle.span_replay.specs.Meaning.{last_part}
use Rattle.span_replay.specs.Replayed.{Runs}
use Rattle.span_replay.specs.State.{State}
use Rattle.span_replay.specs.inside.Progress.{state_of}
use Rattle.span_run.specs.Counted.{inner_of}
use Rattle.span_script.specs.Operation.{running}
use Rattle.span_replay.proofs.Written.{empty_front}
use Rattle.span_replay.proofs.run.progress.end.Goals as goal

pub returns-in_default-clause-runs : goal.returns-in_default-clause-runs
returns-in_default-clause-runs g c = empty_front _ _

-- the stage is none of the tidying's
pub returns-clause-runs : goal.returns-clause-runs
returns-clause-runs g c =
    subst (λ (state : State). Runs (last_part state) (g.W.Write.contents (inner_of c.args.output.now)) (g.W.Write.contents (inner_of c.tidy.new.output)) c.tidy.result)
    (ap (λ progress. state_of progress) (sym c.in-Running.is) ∙ c.in-Ok.ensures.state) (c.tidy.ensures.runs running)
