use Rattle.std.proofs.Common.{◌≡◌}
use Rattle.span_registry_tests.proofs.tests.registry.on_registry.calls.Given as goal

-- the drain keeps the name of its ring
abbrev pub invariant-loop-number : goal.invariant-loop-number
invariant-loop-number g l = l.drain.name ≡ l.initial.drain.name
