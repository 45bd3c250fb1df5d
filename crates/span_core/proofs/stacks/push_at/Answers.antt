use Rattle.span_core.proofs.StackLists.{pushed_at, unpushed_at}
use Rattle.span_core.proofs.stacks.push_at.Goals as goal

pub returns-clause-pushed : goal.returns-clause-pushed
returns-clause-pushed c = pushed_at c.push_one.result c.args.stacks.now.items c.args.worker c.args.id _ c.push_one.new.stack c.requires.within c.index_mut-stack.ensures.value c.push_one.ensures.pushed

pub returns-clause-unchanged : goal.returns-clause-unchanged
returns-clause-unchanged c = unpushed_at c.push_one.result c.args.stacks.now.items c.args.worker _ c.push_one.new.stack c.requires.within c.index_mut-stack.ensures.value c.push_one.ensures.unchanged
