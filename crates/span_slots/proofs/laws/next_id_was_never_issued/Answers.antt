use Rattle.span_slots.proofs.Described.{described, kept}
use Rattle.span_slots.proofs.Promises.{next_in_layout, never_issued}
use Rattle.span_slots.proofs.laws.next_id_was_never_issued.Goals as goal

pub returns-clause-in_layout : goal.returns-clause-in_layout
returns-clause-in_layout g c =
    let i = c.slots.inside in
    rw (← c.slots.view_is) (next_in_layout _ (described i.slots i.last_generation i.len _ _ i.cells.items i.freed.items c.slots.invariant) c.slots.invariant.last_high)

pub returns-clause-never_issued : goal.returns-clause-never_issued
returns-clause-never_issued g c =
    let i = c.slots.inside in
    rw (← c.slots.view_is) (never_issued _ (kept i.slots i.last_generation i.len _ _ i.cells.items i.freed.items c.slots.invariant))
