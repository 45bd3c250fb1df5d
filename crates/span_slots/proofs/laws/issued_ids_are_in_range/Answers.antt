use Rattle.span_slots.proofs.Described.{described, kept}
use Rattle.span_slots.proofs.Promises.{issued_slot, issued_generation}
use Rattle.span_slots.proofs.laws.issued_ids_are_in_range.Goals as goal

pub returns-clause-slot : goal.returns-clause-slot
returns-clause-slot g c =
    let i = c.slots.inside in
    rw (← c.slots.view_is) (λ id issued. issued_slot _ id (kept i.slots i.last_generation i.len _ _ i.cells.items i.freed.items c.slots.invariant) issued)

pub returns-clause-generation : goal.returns-clause-generation
returns-clause-generation g c =
    let i = c.slots.inside in
    rw (← c.slots.view_is) (λ id issued. issued_generation _ id (described i.slots i.last_generation i.len _ _ i.cells.items i.freed.items c.slots.invariant) issued)
