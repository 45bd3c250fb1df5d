use Rattle.std.proofs.Common.{refl}
use Rattle.span_core.proofs.OneWorld.{one_world}
use Rattle.span_core.proofs.laws.outcome.a_history_leaves_one_world.Goals as goal

pub returns : goal.returns
returns c = λ rules workers history world other first second. one_world rules workers history history world other first second refl
