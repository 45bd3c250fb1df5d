-- What a run makes of a call on the core: the answer that it writes, and the core that it goes on with.
-- No public clause cites it.
use Rattle.std.specs.Prelude.{◌≡◌}
use Rattle.span_core.specs.Core.{CoreView}
use Rattle.span_outlet.specs.Request as call
use Rattle.span_core.specs.Outcome.{outcome}
use Rattle.span_replay.specs.Written.{answer_for, core_left}
use Rattle.span_replay.specs.declared.run.answer.Answer.{Answer}

-- the call was made: the answer is that of its outcome, and the outcome's core is left
pub record IsMade (old : CoreView) (request : call.Request) (answer : Answer) (new : CoreView) : Type 0 where
  pub answer_is : answer ≡ answer_for (outcome old request)
  pub core_is : new ≡ core_left old (outcome old request)
