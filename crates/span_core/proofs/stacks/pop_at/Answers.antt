use Rattle.span_core.proofs.StackLists.{popped_at}
use Rattle.span_core.proofs.stacks.pop_at.Goals as goal

pub returns : goal.returns
returns c = popped_at c.args.stacks.now.items c.args.worker c.args.id _ c.pop_one.new.stack c.requires c.index_mut-stack.ensures.value c.pop_one.ensures
