use Rattle.std.proofs.Common.{◌≤◌, length}
use Rattle.span_component_tests.proofs.tests.outlet.drain.plays.Given as goal

-- each act sends at most one batch
abbrev pub invariant-loop-act : goal.invariant-loop-act
invariant-loop-act g l = length l.ring.sent ≤ l.act-index
