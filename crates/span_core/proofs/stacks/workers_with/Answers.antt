use Rattle.std.proofs.Common.{◌≡◌, [], sym, ap, ◌∙◌}
use Rattle.std.specs.Prelude.{slice_index_or}
use Rattle.span_id.specs.Ids.{has}
use Rattle.span_stack.specs.Stack.{ids_of_each}
use Rattle.span_core.proofs.StackLists.{ids_at}
use Rattle.span_core.proofs.WorkersInside.{first_inside, first_outside}
use Rattle.span_core.proofs.stacks.workers_with.Goals as goal
use Rattle.span_core.proofs.stacks.workers_with.Goals.{then-has+in_ok-push, else-has}

pub loop-worker-preserved : goal.loop-worker-preserved
loop-worker-preserved c =
    let stacks = ids_of_each c.args.stacks.now in
    let stack = ids_at c.args.stacks.now c.loop-worker.worker c.index-stacks-worker.result c.loop-worker-test.true c.index-stacks-worker.is in
    let is : has (slice_index_or stacks c.loop-worker.worker []) c.args.id ≡ c.has.result = ap (λ ids. has ids c.args.id) stack ∙ sym c.has.ensures in
    elim c.if-has.branch [
      | then-has+in_ok-push w ↦ rw (w.workers-is, w.in_ok-push.ensures.items, c.loop-worker.invariant) (sym (first_inside stacks c.args.id c.loop-worker.worker (is ∙ w.if-has.true)))
      | else-has w ↦ rw (w.workers-is, c.loop-worker.invariant) (sym (first_outside stacks c.args.id c.loop-worker.worker (is ∙ w.if-has.false)))
    ]
