use Rattle.std.proofs.Common.{◌≡◌}
use Rattle.span_stack.specs.Stack.{ids_of_each}
use Rattle.span_core.proofs.WorkersInside.{first_with}
use Rattle.span_core.proofs.stacks.workers_with.Given as goal

abbrev pub invariant-loop-worker : goal.invariant-loop-worker
invariant-loop-worker l = l.workers.items ≡ first_with (ids_of_each l.stacks) l.fn.id l.worker
