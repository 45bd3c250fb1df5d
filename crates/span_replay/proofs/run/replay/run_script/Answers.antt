use Rattle.std.proofs.Common.{refl}
use Rattle.span_replay.specs.inside.Setup.{setup_state}
use Rattle.span_replay.proofs.Openings.{script_runs}
use Rattle.span_replay.proofs.run.replay.run_script.Goals as goal

pub returns-clause-runs : goal.returns-clause-runs
returns-clause-runs g c = script_runs _ _ (setup_state c.new.result) _ _ _ _ c.new.ensures.hooks c.new.ensures.state (c.run_all-ended.ensures.runs _ refl)
