use Rattle.span_slots.specs.Table.{next_id, IsIssued}
use Rattle.span_forest.proofs.Slotted.{never_open}
use Rattle.span_forest.proofs.forest.laws.next_id_is_new.Goals as goal

pub returns-clause-not_open : goal.returns-clause-not_open
returns-clause-not_open c =
    let slots = c.forest.inside.slots in
    rw (← c.forest.view_is) (never_open (next_id slots) slots.entries (IsIssued slots) c.next_id_was_never_issued.ensures.never_issued c.each_slot_has_one_id.ensures.issued)
