use Rattle.span_slots.proofs.Described.{kept}
use Rattle.span_slots.proofs.Promises.{insert_issues, remove_issues_none}
use Rattle.span_slots.proofs.laws.insert_issues_its_id_alone.Goals as goal

pub returns-clause-insert : goal.returns-clause-insert
returns-clause-insert g c =
    let i = c.slots.inside in
    rw (← c.slots.view_is) (λ value id layout. insert_issues _ value id (kept i.slots i.last_generation i.len _ _ i.cells.items i.freed.items c.slots.invariant) layout)

pub returns-clause-remove : goal.returns-clause-remove
returns-clause-remove g c =
    let i = c.slots.inside in
    rw (← c.slots.view_is) (λ id other. remove_issues_none _ id other)
