use Rattle.span_slots.proofs.Described.{described, kept}
use Rattle.span_slots.proofs.Issued.{issued_since}
use Rattle.span_slots.proofs.Promises.{newest, next_not_issued, one_slot, ascending, found}
use Rattle.span_slots.proofs.laws.each_slot_has_one_id.Goals as goal

pub returns-clause-in_layout : goal.returns-clause-in_layout
returns-clause-in_layout g c =
    let i = c.slots.inside in
    rw (← c.slots.view_is) (λ id there. (newest _ id (described i.slots i.last_generation i.len _ _ i.cells.items i.freed.items c.slots.invariant) there).0)

pub returns-clause-issued : goal.returns-clause-issued
returns-clause-issued g c =
    let i = c.slots.inside in
    rw (← c.slots.view_is) (λ id there. issued_since _ _ id (kept i.slots i.last_generation i.len _ _ i.cells.items i.freed.items c.slots.invariant).issued there)

pub returns-clause-newest : goal.returns-clause-newest
returns-clause-newest g c =
    let i = c.slots.inside in
    rw (← c.slots.view_is) (λ id there. next_not_issued _ id (described i.slots i.last_generation i.len _ _ i.cells.items i.freed.items c.slots.invariant) there)

pub returns-clause-one_slot : goal.returns-clause-one_slot
returns-clause-one_slot g c =
    let i = c.slots.inside in
    rw (← c.slots.view_is) (λ id other there too same. one_slot _ 0 id other (described i.slots i.last_generation i.len _ _ i.cells.items i.freed.items c.slots.invariant).ascending there too same)

pub returns-clause-ascending : goal.returns-clause-ascending
returns-clause-ascending g c =
    let i = c.slots.inside in
    rw (← c.slots.view_is) (ascending _ 0 (described i.slots i.last_generation i.len _ _ i.cells.items i.freed.items c.slots.invariant).ascending)

pub returns-clause-found : goal.returns-clause-found
returns-clause-found g c =
    let i = c.slots.inside in
    rw (← c.slots.view_is) (found _ 0 (described i.slots i.last_generation i.len _ _ i.cells.items i.freed.items c.slots.invariant).ascending)
