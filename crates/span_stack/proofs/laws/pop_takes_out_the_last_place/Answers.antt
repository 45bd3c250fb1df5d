use Rattle.span_stack.proofs.Stacks.{last_place, without_last-absent}
use Rattle.span_stack.proofs.laws.pop_takes_out_the_last_place.Goals as goal

pub returns : goal.returns
returns c = record { there = last_place; absent = without_last-absent }
