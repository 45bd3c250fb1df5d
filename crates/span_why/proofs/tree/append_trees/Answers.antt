use Rattle.std.proofs.Common.{map}
use Rattle.span_why.specs.Why.{plain_open_span}
use Rattle.span_why.proofs.Trees.{leaves_all, leaves_front, popped, at_error}
use Rattle.span_why.proofs.tree.append_trees.Goals as goal

pub next-init : goal.next-init
next-init c =
    leaves_all (map plain_open_span c.args.spans.now) c.args.starts.now c.push_last_first.new.pending.items c.new-pending.result.items c.args.text.now.items c.new-pending.ensures.items c.in_ok-push_last_first.ensures

pub returns-in_err-append_next-clause-front : goal.returns-in_err-append_next-clause-front
returns-in_err-append_next-clause-front c =
    at_error c.from_residual-in_err-append_next.result (leaves_front _ _ _ _ _ _ _ c.next.invariant (popped (map plain_open_span c.args.spans.now) c.next.pending.items c.pop.new.self.items c.in-Some.at c.in-Some.ensures.items) c.in_err-append_next.ensures.front)
