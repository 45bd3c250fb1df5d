use Rattle.span_stack.proofs.Stacks.{has-current, has-top}
use Rattle.span_stack.proofs.laws.current_and_top_stand_in_the_stack.Goals as goal

pub returns : goal.returns
returns c = record { current = has-current; top = has-top }
