use Rattle.std.proofs.Common.{◌&&◌, length, ap, ◌∙◌, arith}
use Rattle.span_id.specs.Bits.{has_bit}
use Rattle.span_layers.specs.Filter.{layer_wants}
use Rattle.span_core.specs.inside.Sound.{hears}
use Rattle.span_core.proofs.Telling.{told_start, wants_beyond, never}
use Rattle.span_core.proofs.notes.layers.told_layers.Goals as goal

pub returns : goal.returns
returns c =
    let rules = c.args.rules.now in
    let bits = c.args.bits.0 in
    let kind = c.args.kind in
    told_start c.and.result.0 (hears rules bits kind) (length rules) (omega (arith, c.len.ensures.few, c.len.ensures.value))
    (λ layer. c.and.ensures layer ∙ ap (λ b. has_bit bits layer && b) (c.wanting.ensures layer))
    (λ layer past. never (has_bit bits layer) (layer_wants rules layer kind) (wants_beyond rules kind layer past))
