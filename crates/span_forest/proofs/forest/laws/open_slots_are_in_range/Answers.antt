use Rattle.span_forest.proofs.Slotted.{open_value}
use Rattle.span_forest.proofs.forest.laws.open_slots_are_in_range.Goals as goal

pub returns : goal.returns
returns c =
    let es = c.forest.inside.slots.entries in
    rw (← c.forest.view_is) (λ id o. c.issued_ids_are_in_range.ensures.slot id (c.each_slot_has_one_id.ensures.issued id (open_value es id o)))
