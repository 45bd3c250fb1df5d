use Rattle.std.proofs.Common.{◌≡◌}
use Rattle.span_registry_tests.proofs.tests.registry.ended_by_reading.read_rest.Given as goal

abbrev pub invariant-loop : goal.invariant-loop
invariant-loop g l = l.ring.name ≡ l.reader.name
