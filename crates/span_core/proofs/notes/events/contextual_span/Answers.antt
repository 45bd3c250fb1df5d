use Rattle.std.proofs.Common.{◌≡◌, ◌∙◌, ◌<◌, ◌+◌, ◌*◌, ◌-◌, length, take, ap, sym, arith}
use Rattle.std.proofs.lemmas.Option.{slice_get-get_or}
use Rattle.span_core.specs.Happening.{contextual_span}
use Rattle.span_core.proofs.Summaries.{seen_skipped}
use Rattle.span_core.proofs.notes.events.contextual_span.Goals as goal

-- a block in which the layer admits none is skipped
pub loop-nth-preserved : goal.loop-nth-preserved
loop-nth-preserved c =
    let ids = c.args.stack.now.ids in
    let blocks = c.args.blocks.now in
    let nth = c.loop-nth.nth - 1 in
    let next : c.loop-nth.nth * 64 ≡ nth * 64 + 64 = omega (arith, c.loop-nth-test.true) in
    let inside : nth < length blocks = omega (arith, c.loop-nth-test.true, c.loop-nth.auto.nth) in
    c.loop-nth.invariant
    ∙ ap (λ k. contextual_span c.args.forest.now.spans (take k ids) c.args.layer) next
    ∙ seen_skipped c.args.forest.now.spans ids blocks nth c.args.layer _ c.requires (slice_get-get_or blocks nth _ inside) (sym c.has.ensures ∙ c.if-not-has.false)
