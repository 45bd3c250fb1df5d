use Rattle.std.proofs.Common.{rules}
use Rattle.span_storm.proofs.round.ask.Goals as goal

pub returns-else-before-clause-stopped : goal.returns-else-before-clause-stopped
returns-else-before-clause-stopped g c = record { calls = _; party_is = (search rules, search rules); held = c.before.before-2.ensures.held c.if-before.false }
