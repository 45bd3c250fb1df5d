use Rattle.span_core.proofs.Legal.{whole}
use Rattle.span_core.proofs.KeptOpen.{none_held_left}
use Rattle.span_core.proofs.laws.no_span_is_held_where_none_is_left.Goals as goal

pub returns : goal.returns
returns c = λ rules workers history world legal. none_held_left world.spans (whole rules workers history world legal).settled.upheld
