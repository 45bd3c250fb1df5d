use Rattle.std.proofs.Common.{arith}
use Rattle.span_core.proofs.LegalWorlds.{stacks_are}
use Rattle.span_core.proofs.Outcomes.{outcome_allowed}
use Rattle.span_core.proofs.laws.outcome.outcome_is_allowed.Goals as goal

pub returns-clause-allowed : goal.returns-clause-allowed
returns-clause-allowed g c request within =
    let stacks = stacks_are _ _ _ _ c.what_was_sent_is_legal.ensures.legal in
    outcome_allowed c.args.core.now request (omega (arith, within, stacks)) c.next_id_is_new_here.ensures
