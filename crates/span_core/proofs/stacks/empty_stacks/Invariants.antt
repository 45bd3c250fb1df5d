use Rattle.std.proofs.Common.{◌≡◌, [], replicate}
use Rattle.span_stack.specs.Stack.{ids_of_each}
use Rattle.span_core.proofs.stacks.empty_stacks.Given as goal

abbrev pub invariant-loop : goal.invariant-loop
invariant-loop l = ids_of_each l.stacks.items ≡ replicate l.counter []
