use Rattle.std.proofs.Common.{◌≡◌, ◌++◌, ap, subst, map, sym, ◌∙◌, Some}
use Rattle.std.specs.Prelude.{OnErr, option_map}
use Rattle.span_why.specs.Why.{GrowsByFront, plain_open_span, open_line, one_text, span_at}
use Rattle.span_why.proofs.Trees.{plain_at, error_after}
use Rattle.span_why.proofs.tree.write_why_of.Goals as goal

pub returns-in-Some-clause-front : goal.returns-in-Some-clause-front
returns-in-Some-clause-front c =
    let S = map plain_open_span c.args.spans.now in
    let found : Some (plain_at c.in-Some.span) ≡ span_at S c.args.id = sym (ap (option_map plain_at) c.in-Some.is) ∙ c.find.ensures in
    subst (λ one. OnErr c.append_tree.result (GrowsByFront c.args.text.now.items c.append_tree.new.text.items (open_line S ++ one_text S one))) found
    (error_after c.append_tree.result c.args.text.now.items _ _ (open_line S) _ c.in_ok-append_count.ensures.whole c.append_tree.ensures.front)
