use Rattle.span_slots.proofs.Described.{described}
use Rattle.span_slots.proofs.Promises.{freed_last, first_use, lowest}
use Rattle.span_slots.proofs.laws.next_slot_is_the_one_freed_last.Goals as goal

pub returns-clause-freed_last : goal.returns-clause-freed_last
returns-clause-freed_last g c =
    let i = c.slots.inside in
    rw (← c.slots.view_is) (λ id there low. freed_last _ id (described i.slots i.last_generation i.len _ _ i.cells.items i.freed.items c.slots.invariant) there low)

pub returns-clause-else_first_use : goal.returns-clause-else_first_use
returns-clause-else_first_use g c =
    let i = c.slots.inside in
    rw (← c.slots.view_is) (λ none. first_use _ (described i.slots i.last_generation i.len _ _ i.cells.items i.freed.items c.slots.invariant) none)

pub returns-clause-else_lowest : goal.returns-clause-else_lowest
returns-clause-else_lowest g c =
    let i = c.slots.inside in
    rw (← c.slots.view_is) (λ none. lowest _ (described i.slots i.last_generation i.len _ _ i.cells.items i.freed.items c.slots.invariant) none)
