use Rattle.span_stack.proofs.Stacks.{times-first_places}
use Rattle.span_stack.proofs.laws.an_id_has_one_first_place.Goals as goal

pub returns : goal.returns
returns c ids id = times-first_places ids id
