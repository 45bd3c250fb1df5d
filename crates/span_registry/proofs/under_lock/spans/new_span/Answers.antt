use Rattle.std.proofs.Math.Nat.{add-zero}
use Rattle.span_registry.proofs.Free.{free_worker, free_room, free_longer, free_as_long, free_seated, free_refused, free_not_wanted, free_unwanted, free_counted}
use Rattle.span_registry.proofs.under_lock.spans.new_span.Goals as goal

pub new_span-new-requires-clause-worker : goal.new_span-new-requires-clause-worker
new_span-new-requires-clause-worker g c = free_worker c.locked.invariant c.worker.invariant.4

pub new_span-new-requires-clause-seated : goal.new_span-new-requires-clause-seated
new_span-new-requires-clause-seated g c = free_seated c.locked.invariant

pub invariant_of-locked : goal.invariant_of-locked
invariant_of-locked g c =
    free_not_wanted c.locked.invariant (rw c.in-Ok-None.field-0-is at c.in-Ok-None.ensures.not_wanted) c.in-Ok-None.ensures.seated

pub invariant_of-locked-in-Err : goal.invariant_of-locked-in-Err
invariant_of-locked-in-Err g c = free_refused c.locked.invariant c.in-Err.ensures.refused c.in-Err.ensures.seated c.see.ensures.history

pub count_call-requires-clause-room : goal.count_call-requires-clause-room
count_call-requires-clause-room g c = free_room c.locked.invariant (rw c.in-Ok-Some.field-0-is at c.in-Ok-Some.ensures.made)

pub count_call-requires-clause-longer : goal.count_call-requires-clause-longer
count_call-requires-clause-longer g c = rw (← c.worker.view_is) (free_longer c.locked.invariant (rw c.in-Ok-Some.field-0-is at c.in-Ok-Some.ensures.made))

pub invariant_of-locked-2 : goal.invariant_of-locked-2
invariant_of-locked-2 g c =
    free_counted c.locked.invariant (rw c.in-Ok-Some.field-0-is at c.in-Ok-Some.ensures.made) c.in-Ok-Some.ensures.seated (rw add-zero c.make_handle.ensures.total) c.count_call.ensures.total c.count_call.ensures.history

pub see-requires : goal.see-requires
see-requires g c = free_as_long c.locked.invariant c.in-Err.ensures.refused

pub returns-in-Ok-None-clause-unwanted : goal.returns-in-Ok-None-clause-unwanted
returns-in-Ok-None-clause-unwanted g c = free_unwanted c.locked.invariant (rw c.in-Ok-None.field-0-is at c.in-Ok-None.ensures.not_wanted)
