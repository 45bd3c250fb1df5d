use Rattle.std.proofs.Common.{refl}
use Rattle.span_storm.proofs.draining.step_beside.Goals as goal

pub returns-else-before-clause-stopped : goal.returns-else-before-clause-stopped
returns-else-before-clause-stopped g c = record { calls = 0; party_is = (refl, refl); held = c.before-2.ensures.held c.if-before.false }
