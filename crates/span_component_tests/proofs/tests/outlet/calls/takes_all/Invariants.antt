use Rattle.std.proofs.Common.{◌≡◌}
use Rattle.span_component_tests.proofs.tests.outlet.calls.takes_all.Given as goal

-- both ends stay a pair
abbrev pub invariant-loop-digits : goal.invariant-loop-digits
invariant-loop-digits g l = l.drain.name ≡ l.fn.drain.name
