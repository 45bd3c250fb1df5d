use Rattle.span_stack.proofs.Stacks.{first_places-push}
use Rattle.span_stack.proofs.laws.push_adds_a_first_place_or_a_duplicate.Goals as goal

pub returns : goal.returns
returns c ids id = first_places-push ids id
