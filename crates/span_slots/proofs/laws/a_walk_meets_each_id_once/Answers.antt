use Rattle.span_slots.proofs.Described.{described}
use Rattle.span_slots.proofs.Walks.{walk_all, walk_next, walk_end}
use Rattle.span_slots.proofs.laws.a_walk_meets_each_id_once.Goals as goal

pub returns-clause-all : goal.returns-clause-all
returns-clause-all g c =
    let i = c.slots.inside in
    rw (← c.slots.view_is) (walk_all _)

pub returns-clause-next : goal.returns-clause-next
returns-clause-next g c =
    let i = c.slots.inside in
    rw (← c.slots.view_is) (λ slot id told. walk_next _ 0 slot id (described i.slots i.last_generation i.len _ _ i.cells.items i.freed.items c.slots.invariant).ascending told)

pub returns-clause-end : goal.returns-clause-end
returns-clause-end g c =
    let i = c.slots.inside in
    rw (← c.slots.view_is) (λ slot none. walk_end _ slot none)
