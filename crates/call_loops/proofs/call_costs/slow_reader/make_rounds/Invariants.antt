use Rattle.std.proofs.Common.{◌≡◌, ◌+◌, ◌*◌}
use Rattle.call_loops.proofs.call_costs.slow_reader.make_rounds.Given as goal

abbrev pub invariant-loop : goal.invariant-loop
invariant-loop g l = (l.worker.accepted ≡ l.initial.worker.accepted + 3 * l.counter) × (l.worker.spare ≡ l.initial.worker.spare)
