use Rattle.span_layers.proofs.Masks.{has_bit-set, has_bit-unset}
use Rattle.span_layers.proofs.wanting.with_layer.Goals as goal

pub returns-then-wanted : goal.returns-then-wanted
returns-then-wanted c = λ number. rw c.if-wanted.true (has_bit-set c.args.mask c.args.layer number c.requires)

pub returns-else-wanted : goal.returns-else-wanted
returns-else-wanted c = λ number. rw c.if-wanted.false (has_bit-unset c.args.mask c.args.layer number)
