use Rattle.span_core.proofs.Outcomes.{not_wanted_outcome}
use Rattle.span_core.proofs.laws.outcome.unwanted_spans_are_the_outcome.Goals as goal

pub returns-clause-outcome : goal.returns-clause-outcome
returns-clause-outcome g c request new call = (not_wanted_outcome c.args.core.now request new call).0
