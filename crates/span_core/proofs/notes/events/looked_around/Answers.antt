use Rattle.std.proofs.Common.{ℕ, List, subst}
use Rattle.span_stack.specs.Stack.{ids_of_each}
use Rattle.span_core.specs.inside.Summary.{Summarises}
use Rattle.span_core.proofs.StackLists.{ids_at}
use Rattle.span_core.proofs.notes.events.looked_around.Goals as goal

pub returns-in-Current-clause-summarised : goal.returns-in-Current-clause-summarised
returns-in-Current-clause-summarised c spans summary =
    subst (λ (ids : List ℕ). Summarises spans ids c.of.result.now)
    (ids_at c.args.stacks.now c.args.event.now.worker _ c.requires.worker c.index-stacks-event.is)
    (c.of.ensures spans (ids_of_each c.args.stacks.now) summary)
