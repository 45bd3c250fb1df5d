use Rattle.std.proofs.Common.{◌∙◌, ◌++◌, take, ap, sym}
use Rattle.span_stack.specs.Stack.{distinct_from_top}
use Rattle.span_core.proofs.Summaries.{none_passed, one_passed, all_passed}
use Rattle.span_core.proofs.summary.none_admit.Goals as goal

pub loop-id-init : goal.loop-id-init
loop-id-init c =
    none_passed _ _ _ _ _ _
    (c.walk_between-id-items.ensures.ids
    ∙ ap (λ left. left ++ distinct_from_top (take c.args.from c.args.stack.now.ids)) (sym c.into_iter-id-iterator.ensures.into_iter_gives))

pub loop-id-preserved : goal.loop-id-preserved
loop-id-preserved c =
    one_passed _ _ _ _ _ c.bits_of.result.0 _ _ _ _ c.in-Some.ensures.steps c.bits_of.ensures c.without-none.ensures c.loop-id.invariant

pub returns : goal.returns
returns c = all_passed _ _ _ _ _ _ c.in-None.ensures.steps.0 c.loop-id.invariant
