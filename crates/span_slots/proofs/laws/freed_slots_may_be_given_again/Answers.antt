use Rattle.span_slots.proofs.Described.{described}
use Rattle.span_slots.proofs.Promises.{freed_exactly, freed_apart}
use Rattle.span_slots.proofs.laws.freed_slots_may_be_given_again.Goals as goal

pub returns-clause-exact : goal.returns-clause-exact
returns-clause-exact g c =
    let i = c.slots.inside in
    rw (← c.slots.view_is) (λ slot low. freed_exactly _ slot (described i.slots i.last_generation i.len _ _ i.cells.items i.freed.items c.slots.invariant) low)

pub returns-clause-once : goal.returns-clause-once
returns-clause-once g c =
    let i = c.slots.inside in
    rw (← c.slots.view_is) (freed_apart _ (described i.slots i.last_generation i.len _ _ i.cells.items i.freed.items c.slots.invariant))
