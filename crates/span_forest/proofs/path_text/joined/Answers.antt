use Rattle.span_forest.proofs.Texts.{joined-path}
use Rattle.span_forest.proofs.path_text.joined.Goals as goal

pub returns : goal.returns
returns c = joined-path (λ name. name.now) c.args.names.now c.in-Some.others.now c.in-Some.first.now _ _ _ c.in-Some.ensures.cases.0 c.in_ok-text.ensures.bytes c.in_ok-push_str.ensures.bytes c.in_ok-push_others.ensures
