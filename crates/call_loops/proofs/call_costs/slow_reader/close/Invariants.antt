use Rattle.std.proofs.Common.{◌≡◌}
use Rattle.call_loops.proofs.call_costs.slow_reader.close.Given as goal

abbrev pub invariant-loop : goal.invariant-loop
invariant-loop g l = l.worker ≡ record l.initial.worker { seen = l.worker.seen }
