use Rattle.std.proofs.Common.{[], refl, ◌∙◌}
use Rattle.std.proofs.lemmas.List.{append-nil}
use Rattle.span_stack.proofs.Stacks.{without_last-at}
use Rattle.span_stack.proofs.laws.pop_undoes_push.Goals as goal

pub returns : goal.returns
returns c ids id = without_last-at ids [] id refl ∙ append-nil ids
