use Rattle.span_registry.proofs.Free.{free_seated, free_same}
use Rattle.span_registry.proofs.laws.promises.two_handles_have_two_numbers.Goals as goal

pub show_two-one-requires : goal.show_two-one-requires
show_two-one-requires g c = record { seated = free_seated c.locked.invariant }

pub invariant_of-locked : goal.invariant_of-locked
invariant_of-locked g c = free_same c.locked.invariant c.show_two-one.ensures.seated
