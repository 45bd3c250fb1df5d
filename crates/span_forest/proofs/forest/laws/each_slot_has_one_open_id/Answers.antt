use Rattle.span_forest.proofs.Slotted.{open_value}
use Rattle.span_forest.proofs.forest.laws.each_slot_has_one_open_id.Goals as goal

pub returns-clause-one_slot : goal.returns-clause-one_slot
returns-clause-one_slot c =
    let es = c.forest.inside.slots.entries in
    rw (← c.forest.view_is) (λ id other o p e. c.each_slot_has_one_id.ensures.one_slot id other (open_value es id o) (open_value es other p) e)

pub returns-clause-in_layout : goal.returns-clause-in_layout
returns-clause-in_layout c =
    rw (← c.forest.view_is) (λ id o. c.each_slot_has_one_id.ensures.in_layout id (open_value c.forest.inside.slots.entries id o))

pub returns-clause-issued : goal.returns-clause-issued
returns-clause-issued c =
    rw (← c.forest.view_is) (λ id o. c.each_slot_has_one_id.ensures.issued id (open_value c.forest.inside.slots.entries id o))
