use Rattle.std.proofs.Common.{ap, ◌∙◌}
use Rattle.span_stack.specs.Stack.{ids_of_each}
use Rattle.span_core.proofs.WorkersInside.{as_many}
use Rattle.span_core.proofs.Core.workers_inside.Goals as goal

pub returns-clause-count : goal.returns-clause-count
returns-clause-count g c =
    as_many c.workers_with.result (ids_of_each c.as_slice.result.now) c.args.self.now.world.stacks c.args.id _ c.workers_with.ensures.workers
    (ap ids_of_each c.as_slice.ensures.value ∙ ap (λ v. v.world.stacks) c.self.view_is) (c.entries_are_the_workers_inside.ensures.entered c.args.id)
