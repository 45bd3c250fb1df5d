use Rattle.std.proofs.Common.{◌∙◌, ap, arith, map}
use Rattle.span_why.specs.Why.{plain_open_span}
use Rattle.span_why.specs.inside.Pending.{pending_lines}
use Rattle.span_why.proofs.Trees.{plain_at, past_all, before_all, no_lines, no_size, leaves_none, next_leaves, next_front, next_size, left_lines, left_size, with_children, without_children, childless, childless_size, at_error}
use Rattle.span_why.proofs.tree.append_next.Goals as goal

pub returns-then-at-spans-clause-leaves : goal.returns-then-at-spans-clause-leaves
returns-then-at-spans-clause-leaves c =
    leaves_none c.args.text.now.items _ _ (no_lines (map plain_open_span c.args.spans.now) c.args.at.depth (plain_open_span c.args.at.span.now) (past_all c.args.spans.now c.args.at.depth c.if-at-spans.true))

pub returns-then-at-spans-clause-shorter : goal.returns-then-at-spans-clause-shorter
returns-then-at-spans-clause-shorter c =
    let one = no_size (map plain_open_span c.args.spans.now) c.args.at.depth (plain_open_span c.args.at.span.now) (past_all c.args.spans.now c.args.at.depth c.if-at-spans.true) in
    omega (arith, one)

pub returns-in_err-push_last_first-clause-front : goal.returns-in_err-push_last_first-clause-front
returns-in_err-push_last_first-clause-front c =
    at_error c.from_residual-in_err-push_last_first.result (next_front (map plain_open_span c.args.spans.now) c.args.at.depth (plain_open_span c.args.at.span.now) _ _ (before_all c.args.spans.now c.args.at.depth c.if-at-spans.false) c.in_ok-append_line.ensures.whole)

pub returns-in_ok-push_last_first-clause-leaves : goal.returns-in_ok-push_last_first-clause-leaves
returns-in_ok-push_last_first-clause-leaves c =
    let S = map plain_open_span c.args.spans.now in
    let span = plain_open_span c.args.at.span.now in
    let kin = with_children _ _ _ (c.children.ensures ∙ c.requires.children_are span.details.id) c.in-Some.is in
    next_leaves S c.args.at.depth span _ _ _ _ (before_all c.args.spans.now c.args.at.depth c.if-at-spans.false) c.in_ok-append_line.ensures.whole
    (left_lines S _ _ c.push_last_first.new.pending.items c.args.pending.now.items _ c.in_ok-push_last_first.ensures (ap (map plain_at) c.as_slice.ensures.value ∙ kin))

pub returns-in_ok-push_last_first-clause-shorter : goal.returns-in_ok-push_last_first-clause-shorter
returns-in_ok-push_last_first-clause-shorter c =
    let S = map plain_open_span c.args.spans.now in
    let span = plain_open_span c.args.at.span.now in
    let kin = with_children _ _ _ (c.children.ensures ∙ c.requires.children_are span.details.id) c.in-Some.is in
    next_size S c.args.at.depth span _ _ (before_all c.args.spans.now c.args.at.depth c.if-at-spans.false)
    (left_size S _ _ c.push_last_first.new.pending.items c.args.pending.now.items _ c.in_ok-push_last_first.ensures (ap (map plain_at) c.as_slice.ensures.value ∙ kin))

pub returns-in_default-clause-leaves : goal.returns-in_default-clause-leaves
returns-in_default-clause-leaves c =
    let S = map plain_open_span c.args.spans.now in
    let span = plain_open_span c.args.at.span.now in
    let before = pending_lines S c.args.pending.now.items in
    next_leaves S c.args.at.depth span _ _ before before (before_all c.args.spans.now c.args.at.depth c.if-at-spans.false) c.in_ok-append_line.ensures.whole
    (childless S span.details.id _ _ _ (without_children _ _ c.children.ensures c.in_default.is) (c.requires.children_are span.details.id))

pub returns-in_default-clause-shorter : goal.returns-in_default-clause-shorter
returns-in_default-clause-shorter c =
    let S = map plain_open_span c.args.spans.now in
    let span = plain_open_span c.args.at.span.now in
    next_size S c.args.at.depth span _ _ (before_all c.args.spans.now c.args.at.depth c.if-at-spans.false)
    (childless_size S span.details.id _ _ _ (without_children _ _ c.children.ensures c.in_default.is) (c.requires.children_are span.details.id))
