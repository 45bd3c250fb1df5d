use Rattle.span_core.proofs.Outcomes.{refused_outcome, late_outcome}
use Rattle.span_core.proofs.laws.outcome.refused_calls_are_the_outcome.Goals as goal

pub returns-clause-refused : goal.returns-clause-refused
returns-clause-refused g c request fault new call judged = (refused_outcome c.args.core.now request fault new call judged).0

pub returns-clause-unchanged : goal.returns-clause-unchanged
returns-clause-unchanged g c request fault new call judged = (refused_outcome c.args.core.now request fault new call judged).1

pub returns-clause-late : goal.returns-clause-late
returns-clause-late g c = late_outcome c.args.core.now
