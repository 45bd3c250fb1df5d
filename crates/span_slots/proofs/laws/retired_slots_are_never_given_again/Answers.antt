use Rattle.span_slots.proofs.Described.{described, kept}
use Rattle.span_slots.proofs.Promises.{retired_at_last, retired_for_good, retired_never_next, retired}
use Rattle.span_slots.proofs.laws.retired_slots_are_never_given_again.Goals as goal

pub returns-clause-retired : goal.returns-clause-retired
returns-clause-retired g c =
    let i = c.slots.inside in
    rw (← c.slots.view_is) (λ id issued last. retired_at_last _ id (kept i.slots i.last_generation i.len _ _ i.cells.items i.freed.items c.slots.invariant) issued last)

pub returns-clause-for_good : goal.returns-clause-for_good
returns-clause-for_good g c =
    let i = c.slots.inside in
    rw (← c.slots.view_is) (λ slot changes low gone. retired_for_good _ slot changes (kept i.slots i.last_generation i.len _ _ i.cells.items i.freed.items c.slots.invariant) low gone)

pub returns-clause-never_next : goal.returns-clause-never_next
returns-clause-never_next g c =
    let i = c.slots.inside in
    rw (← c.slots.view_is) (λ slot gone. retired_never_next _ slot (described i.slots i.last_generation i.len _ _ i.cells.items i.freed.items c.slots.invariant) gone)

pub returns-clause-frees_none : goal.returns-clause-frees_none
returns-clause-frees_none g c =
    let i = c.slots.inside in
    rw (← c.slots.view_is) (λ id there last. retired _ id (described i.slots i.last_generation i.len _ _ i.cells.items i.freed.items c.slots.invariant) there last)
