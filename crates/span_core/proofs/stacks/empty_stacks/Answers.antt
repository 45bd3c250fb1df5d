use Rattle.span_core.proofs.StackLists.{empty_more}
use Rattle.span_core.proofs.stacks.empty_stacks.Goals as goal

pub loop-preserved : goal.loop-preserved
loop-preserved c = empty_more _ _ _ c.loop.counter c.loop.invariant c.push_reserved.ensures.items c.new.ensures.ids
