use Rattle.span_core.proofs.Outcomes.{one_step}
use Rattle.span_core.proofs.laws.outcome.steps_leave_no_choice.Goals as goal

pub returns : goal.returns
returns c = one_step
