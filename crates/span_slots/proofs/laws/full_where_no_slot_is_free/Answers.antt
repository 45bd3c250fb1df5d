use Rattle.span_slots.proofs.Described.{described}
use Rattle.span_slots.proofs.Promises.{full_exactly}
use Rattle.span_slots.proofs.laws.full_where_no_slot_is_free.Goals as goal

pub returns : goal.returns
returns g c =
    let i = c.slots.inside in
    rw (← c.slots.view_is) (full_exactly _ (described i.slots i.last_generation i.len _ _ i.cells.items i.freed.items c.slots.invariant))
