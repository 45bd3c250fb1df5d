use Rattle.span_slots.proofs.Described.{kept}
use Rattle.span_slots.proofs.Issued.{removed_for_good, absent_for_good}
use Rattle.span_slots.proofs.laws.removed_id_never_comes_back.Goals as goal

pub returns-clause-removed : goal.returns-clause-removed
returns-clause-removed g c =
    let i = c.slots.inside in
    rw (← c.slots.view_is) (λ id changes there. removed_for_good _ changes id (kept i.slots i.last_generation i.len _ _ i.cells.items i.freed.items c.slots.invariant) there)

pub returns-clause-absent : goal.returns-clause-absent
returns-clause-absent g c =
    let i = c.slots.inside in
    rw (← c.slots.view_is) (λ id changes issued none. absent_for_good _ changes id (kept i.slots i.last_generation i.len _ _ i.cells.items i.freed.items c.slots.invariant) issued none)
