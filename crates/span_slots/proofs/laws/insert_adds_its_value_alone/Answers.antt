use Rattle.span_slots.proofs.Described.{kept}
use Rattle.span_slots.proofs.Promises.{next_absent, added, others-inserted}
use Rattle.span_slots.proofs.laws.insert_adds_its_value_alone.Goals as goal

pub returns-clause-absent : goal.returns-clause-absent
returns-clause-absent g c =
    let i = c.slots.inside in
    rw (← c.slots.view_is) (next_absent _ (kept i.slots i.last_generation i.len _ _ i.cells.items i.freed.items c.slots.invariant))

pub returns-clause-added : goal.returns-clause-added
returns-clause-added g c =
    let i = c.slots.inside in
    rw (← c.slots.view_is) (λ value. added _ value (kept i.slots i.last_generation i.len _ _ i.cells.items i.freed.items c.slots.invariant))

pub returns-clause-others : goal.returns-clause-others
returns-clause-others g c = λ value other ne. others-inserted c.args.slots.now value other ne
