-- The stack of a worker that left a span.
use Rattle.std.proofs.Common.{◌≡◌, ℕ, List, [], ap, ◌∙◌}
use Rattle.std.proofs.lemmas.List.{get_or-set_same}
use Rattle.span_layers.specs.Note.{PlainNote}
use Rattle.span_layers.specs.Filter.{Filter}
use Rattle.span_stack.specs.Stack.{without_last}
use Rattle.span_outlet.specs.Request.{exit, exited}
use Rattle.span_core.specs.World.{World, stack_of}
use Rattle.span_core.specs.Step.{IsStep}

-- the last place of the id is taken out
pub stack_left : (rules : List Filter) (issued : List ℕ) (old : World) (worker id : ℕ) (closed : List ℕ) (notes : List PlainNote) (new : World) → IsStep rules issued old (exit worker id) (exited closed) notes new
    → stack_of new worker ≡ without_last (stack_of old worker) id
stack_left rules issued old worker id closed notes new step =
    ap (λ (w : World). stack_of w worker) step.changes.after ∙ get_or-set_same old.stacks worker (without_last (stack_of old worker) id) [] step.within
