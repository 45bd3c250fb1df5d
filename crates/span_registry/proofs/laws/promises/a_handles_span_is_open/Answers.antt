use Rattle.span_registry.proofs.Free.{free_seated, free_same}
use Rattle.span_registry.proofs.laws.promises.a_handles_span_is_open.Goals as goal

pub show-requires : goal.show-requires
show-requires g c = record { seated = free_seated c.locked.invariant }

pub invariant_of-locked : goal.invariant_of-locked
invariant_of-locked g c = free_same c.locked.invariant c.show.ensures.seated
