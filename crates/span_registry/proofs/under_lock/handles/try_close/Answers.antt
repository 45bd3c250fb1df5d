use Rattle.std.proofs.Common.{refl, ap, ◌∙◌}
use Rattle.std.proofs.Math.Nat.{add-zero}
use Rattle.span_registry.proofs.Free.{free_worker, free_room, free_longer, free_as_long, free_seated, free_refused, free_counted}
use Rattle.span_registry.specs.Worker.{WorkerView}
use Rattle.span_registry.proofs.Happens.{happened_here}
use Rattle.span_registry.proofs.under_lock.handles.try_close.Goals as goal

pub try_close-requires-clause-worker : goal.try_close-requires-clause-worker
try_close-requires-clause-worker g c = free_worker c.locked.invariant c.worker.invariant.4

pub try_close-requires-clause-seated : goal.try_close-requires-clause-seated
try_close-requires-clause-seated g c = free_seated c.locked.invariant

pub invariant_of-locked : goal.invariant_of-locked
invariant_of-locked g c = free_refused c.locked.invariant c.in-Err.ensures.done.0.refused c.in-Err.ensures.seated c.see.ensures.history

pub count_call-requires-clause-room : goal.count_call-requires-clause-room
count_call-requires-clause-room g c = free_room c.locked.invariant c.in-Ok.ensures.done.0

pub count_call-requires-clause-longer : goal.count_call-requires-clause-longer
count_call-requires-clause-longer g c = rw (← c.worker.view_is) (free_longer c.locked.invariant c.in-Ok.ensures.done.0)

pub invariant_of-locked-2 : goal.invariant_of-locked-2
invariant_of-locked-2 g c = free_counted c.locked.invariant c.in-Ok.ensures.done.0 c.in-Ok.ensures.seated (rw add-zero c.take_back.ensures.total) c.count_call.ensures.total c.count_call.ensures.history

pub see-requires : goal.see-requires
see-requires g c = free_as_long c.locked.invariant c.in-Err.ensures.done.0.refused

pub returns-clause-released : goal.returns-clause-released
returns-clause-released g c =
    rw (← c.locked.view_is, ← c.worker.view_is, ← c.handle.view_is) (c.accepted_releases_close_what_nothing_holds.ensures _ _ _ c.in-Ok.ensures.done.0.accepted refl)

pub returns-clause-was_released : goal.returns-clause-was_released
returns-clause-was_released g c =
    let accepted = c.in-Ok.ensures.done.0.accepted in
    happened_here c.locked.invariant
    (record {
      seen_before = c.count_call.ensures.seen;
      seen_after = ap (λ (w : WorkerView). w.seen) c.take_back.ensures.worker ∙ ap (λ (w : WorkerView). w.seen) c.count_call.ensures.worker;
      legal = c.count_call.ensures.legal;
      within = c.count_call.ensures.within;
    })
    (rw (← c.worker.view_is, ← c.handle.view_is) (
      c.accepted_releases_close_what_nothing_holds.ensures _ _ _ accepted refl,
      c.in-Ok.ensures.done.1,
    ))
