use Rattle.std.proofs.Common.{◌≡◌}
use Rattle.call_loops.proofs.call_costs.core_loop.make_rounds.Given as goal

abbrev pub invariant-loop : goal.invariant-loop
invariant-loop g l = l.core.limits ≡ l.initial.core.limits

abbrev pub invariant-loop-2 : goal.invariant-loop-2
invariant-loop-2 g l = l.core.limits ≡ l.initial.core.limits
