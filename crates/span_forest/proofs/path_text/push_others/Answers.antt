use Rattle.span_forest.proofs.Texts.{following-more}
use Rattle.span_forest.proofs.path_text.push_others.Goals as goal

pub loop-name-preserved : goal.loop-name-preserved
loop-name-preserved c = following-more (λ name. name.now) c.args.others.now c.loop-name.name-index _ _ _ _ _ c.loop-name-test.true c.in_ok-push_str.ensures.bytes c.in_ok-push_str-2.ensures.bytes c.loop-name.invariant
