use Rattle.std.proofs.Common.{◌≡◌, ◌+◌, ◌*◌}
use Rattle.span_storm.specs.inside.Back.{HasRounds}
use Rattle.span_storm.proofs.round.make_rounds.Given as goal

abbrev pub invariant-loop : goal.invariant-loop
invariant-loop g l = HasRounds l.worker × (l.worker.number ≡ l.initial.worker.number) × (l.worker.accepted ≡ l.initial.worker.accepted + 9 * l.counter) × (l.worker.spare ≡ l.initial.worker.spare)
