use Rattle.span_replay.specs.inside.Setup.{opened_in, setup_state}
use Rattle.span_replay.specs.inside.Running.{core_in}
use Rattle.span_replay.proofs.Openings.{opened_core}
use Rattle.span_replay.proofs.run.opening.open.Goals as goal

pub returns-clause-core : goal.returns-clause-core
returns-clause-core g c = opened_core core_in (opened_in c.split-opened.result.0) (setup_state c.args.setup) _ c.split-opened.ensures c.open_with.ensures.core
