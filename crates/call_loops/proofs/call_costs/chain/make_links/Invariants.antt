use Rattle.std.proofs.Common.{◌≡◌}
use Rattle.call_loops.proofs.call_costs.chain.make_links.Given as goal

abbrev pub invariant-loop : goal.invariant-loop
invariant-loop g l = l.core.limits ≡ l.initial.core.limits
