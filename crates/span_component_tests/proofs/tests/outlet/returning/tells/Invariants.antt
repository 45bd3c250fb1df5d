use Rattle.std.proofs.Common.{◌≤◌, length}
use Rattle.span_component_tests.proofs.tests.outlet.returning.tells.Given as goal

-- each list sends at most one batch
abbrev pub invariant-loop : goal.invariant-loop
invariant-loop g l = length l.ring.sent ≤ l.counter
