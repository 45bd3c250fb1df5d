use Rattle.span_slots.proofs.Described.{kept}
use Rattle.span_slots.proofs.Issued.{issued_for_good}
use Rattle.span_slots.proofs.laws.issued_ids_stay_issued.Goals as goal

pub returns : goal.returns
returns g c =
    let i = c.slots.inside in
    rw (← c.slots.view_is) (λ id changes issued. issued_for_good _ changes id (kept i.slots i.last_generation i.len _ _ i.cells.items i.freed.items c.slots.invariant) issued)
