use Rattle.span_core.proofs.Outcomes.{accepted_outcome}
use Rattle.span_core.proofs.laws.outcome.accepted_calls_are_the_outcome.Goals as goal

pub returns : goal.returns
returns g c = accepted_outcome c.args.core.now
