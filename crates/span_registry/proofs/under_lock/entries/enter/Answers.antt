use Rattle.std.proofs.Common.{refl}
use Rattle.span_registry.proofs.Free.{free_worker, free_room, free_longer, free_as_long, free_seated, free_refused, free_counted}
use Rattle.span_registry.proofs.under_lock.entries.enter.Goals as goal

pub enter-requires-clause-worker : goal.enter-requires-clause-worker
enter-requires-clause-worker g c = free_worker c.locked.invariant c.worker.invariant.4

pub enter-requires-clause-seated : goal.enter-requires-clause-seated
enter-requires-clause-seated g c = free_seated c.locked.invariant

pub count_call-requires-clause-room : goal.count_call-requires-clause-room
count_call-requires-clause-room g c = free_room c.locked.invariant c.in-Ok.ensures.done

pub count_call-requires-clause-longer : goal.count_call-requires-clause-longer
count_call-requires-clause-longer g c = rw (← c.worker.view_is) (free_longer c.locked.invariant c.in-Ok.ensures.done)

pub invariant_of-locked-2 : goal.invariant_of-locked-2
invariant_of-locked-2 g c = free_counted c.locked.invariant c.in-Ok.ensures.done c.in-Ok.ensures.seated refl c.count_call.ensures.total c.count_call.ensures.history

pub invariant_of-locked : goal.invariant_of-locked
invariant_of-locked g c = free_refused c.locked.invariant c.in-Err.ensures.done.refused c.in-Err.ensures.seated c.see.ensures.history

pub see-requires : goal.see-requires
see-requires g c = free_as_long c.locked.invariant c.in-Err.ensures.done.refused
