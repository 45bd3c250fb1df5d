use Rattle.std.proofs.Common.{◌≡◌, ◌++◌, ◌∙◌, ap, subst, map, flat_map}
use Rattle.std.specs.Prelude.{OnErr}
use Rattle.span_why.specs.Why.{GrowsByFront, plain_open_span, open_line, whole_tree, roots}
use Rattle.span_why.specs.inside.Pending.{lines_text}
use Rattle.span_why.proofs.Trees.{plain_at, error_after}
use Rattle.span_why.proofs.tree.write_why.Goals as goal

pub returns-clause-front : goal.returns-clause-front
returns-clause-front c =
    let S = map plain_open_span c.args.spans.now in
    let all : map plain_at c.as_slice.result.now ≡ roots S = ap (map plain_at) c.as_slice.ensures.value ∙ c.in_ok-families.ensures.roots_are in
    subst (λ starts. OnErr c.append_trees.result (GrowsByFront c.args.text.now.items c.append_trees.new.text.items (open_line S ++ lines_text (flat_map (whole_tree S) starts)))) all
    (error_after c.append_trees.result c.args.text.now.items _ _ (open_line S) _ c.in_ok-append_count.ensures.whole c.append_trees.ensures.front)
