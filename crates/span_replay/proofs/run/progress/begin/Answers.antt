use Rattle.span_replay.proofs.Beginning.{now_running, now_there, still_running, still_there}
use Rattle.span_replay.proofs.run.progress.begin.Goals as goal

pub returns-in_default-clause-running : goal.returns-in_default-clause-running
returns-in_default-clause-running g c = still_running _ _ c.in_default.ensures c.requires

pub returns-in_default-clause-state : goal.returns-in_default-clause-state
returns-in_default-clause-state g c = still_there _ _ c.in_default.ensures c.requires

pub returns-clause-running : goal.returns-clause-running
returns-clause-running g c = now_running _ _ c.run_on.ensures c.in_ok-script.ensures.written

pub returns-clause-state : goal.returns-clause-state
returns-clause-state g c = now_there _ _ _ _ _ c.in-Some.ensures c.run_on.ensures c.in_ok-script.ensures.core c.in_ok-script.ensures.labels
