use Rattle.span_stack.proofs.Stacks.{first_places-without_last}
use Rattle.span_stack.proofs.laws.pop_takes_out_a_duplicate_or_a_first_place.Goals as goal

pub returns : goal.returns
returns c ids id = first_places-without_last ids id
