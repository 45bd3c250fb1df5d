use Rattle.std.proofs.Common.{◌≡◌, ◌≤◌, vec_len, vec_capacity}
use Rattle.span_replay.proofs.run.hooks.plain_hooks.Given as goal

abbrev pub invariant-loop : goal.invariant-loop
invariant-loop l = (vec_len l.hooks ≡ l.counter) × (l.fn.count ≤ vec_capacity l.hooks)
