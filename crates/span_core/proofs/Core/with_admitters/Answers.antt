use Rattle.std.proofs.Common.{◌∙◌, List, length, ap, sym, replicate, []}
use Rattle.span_id.specs.declared.limits.Limits.{Limits}
use Rattle.span_outlet.specs.Batch.{PlainBatch}
use Rattle.span_core.specs.History.{issued}
use Rattle.span_core.proofs.Soundness.{sound_start}
use Rattle.span_core.proofs.Core.with_admitters.Goals as goal

pub invariant_of-result : goal.invariant_of-result
invariant_of-result g c =
    (sound_start c.args.checked.now c.args.rules _ _ _ c.requires c.in_ok-forest.ensures.empty (c.in_ok-stacks.ensures.stacks ∙ ap (λ (l : Limits). replicate l.workers []) c.limits.ensures.value), ap (λ (sent : List PlainBatch). length (issued sent)) (sym c.requires), c.none.ensures c.in_ok-forest.forest, c.none-2.ensures _ _)
