use Rattle.std.proofs.Common.{refl, arith}
use Rattle.span_layers.proofs.layers.Layers.add.Goals as goal

pub returns-then-number-ge-MAX_LAYERS-clause-full : goal.returns-then-number-ge-MAX_LAYERS-clause-full
returns-then-number-ge-MAX_LAYERS-clause-full g c = (λ _. omega (arith, c.len-number.ensures.value, c.len-number.ensures.few, c.if-number-ge-MAX_LAYERS.true), λ _. refl)
