use Rattle.std.proofs.Common.{arith}
use Rattle.span_why.proofs.Trees.{one_left}
use Rattle.span_why.proofs.tree.push_last_first.Goals as goal

pub loop-left-preserved : goal.loop-left-preserved
loop-left-preserved c =
    let before = c.loop-left.invariant in
    let some = c.loop-left-test.true in
    record {
      next = one_left _ _ _ _ _ _ _ some before.in_range c.index-spans-left.is c.in_ok-push.ensures.items before.next;
      in_range = let in_range = before.in_range in omega (arith, in_range);
    }
