use Rattle.std.proofs.Common.{◌≡◌}
use Rattle.span_storm.proofs.draining.step_until.Given as goal

abbrev pub invariant-loop : goal.invariant-loop
invariant-loop g l = (l.drain.name ≡ l.initial.drain.name) × (l.drain.forms ≡ l.initial.drain.forms)
