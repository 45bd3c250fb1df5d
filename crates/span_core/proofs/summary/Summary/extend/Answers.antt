use Rattle.std.proofs.Common.{◌∙◌, ℕ, List, [], get_or, ap, subst}
use Rattle.span_stack.specs.Stack.{ids_of_each}
use Rattle.span_core.specs.inside.Summary.{Summarises}
use Rattle.span_core.proofs.StackLists.{ids_at}
use Rattle.span_core.proofs.summary.Summary.extend.Goals as goal

pub loop-init : goal.loop-init
loop-init c =
    let stacks = c.args.stacks.now in (
      c.if-self-worker.false,
      subst (λ (ids : List ℕ). Summarises c.args.forest.now.spans ids c.args.self.now.blocks.items)
          (ap (λ v. get_or (ids_of_each stacks) v []) c.if-self-worker.false ∙ ids_at stacks c.args.worker _ c.requires.within c.index-stacks-worker.is)
          c.requires.summary.blocks,
    )
