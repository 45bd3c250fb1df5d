use Rattle.span_registry.proofs.Own.{beginning}
use Rattle.span_registry.proofs.under_lock.reports.finish_reading.Goals as goal

pub returns-clause-taken : goal.returns-clause-taken
returns-clause-taken g c = beginning _ _ _ c.behind.ensures.order c.end-ring.ensures.sent
