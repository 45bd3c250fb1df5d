use Rattle.std.proofs.Common.{◌≡◌, ◌+◌, vec_len}
use Rattle.call_loops.proofs.soak.caller.Caller.make_random.Given as goal

abbrev pub invariant-loop : goal.invariant-loop
invariant-loop g l = l.self.worker.spare + vec_len l.self.hands ≡ l.initial.self.worker.spare + vec_len l.initial.self.hands
