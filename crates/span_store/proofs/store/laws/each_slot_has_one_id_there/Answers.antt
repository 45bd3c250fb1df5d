use Rattle.span_store.proofs.Maps.{there_is}
use Rattle.span_store.proofs.Plain.{entry_at}
use Rattle.span_slots.specs.Table.{find}
use Rattle.span_store.proofs.store.laws.each_slot_has_one_id_there.Goals as goal

pub returns-clause-one_slot : goal.returns-clause-one_slot
returns-clause-one_slot c =
    let i = c.store.inside in
    rw (← c.store.view_is) (λ id other there too same. (
    let a = entry_at i.slots.entries id there in
    let b = entry_at i.slots.entries other too in
    c.each_slot_has_one_id.ensures.one_slot id other (there_is (find i.slots.entries id) a.0 a.1) (there_is (find i.slots.entries other) b.0 b.1) same))

pub returns-clause-in_layout : goal.returns-clause-in_layout
returns-clause-in_layout c =
    let i = c.store.inside in
    rw (← c.store.view_is) (λ id there. (
    let a = entry_at i.slots.entries id there in
    c.each_slot_has_one_id.ensures.in_layout id (there_is (find i.slots.entries id) a.0 a.1)))

pub returns-clause-issued : goal.returns-clause-issued
returns-clause-issued c =
    let i = c.store.inside in
    rw (← c.store.view_is) (λ id there. (
    let a = entry_at i.slots.entries id there in
    c.each_slot_has_one_id.ensures.issued id (there_is (find i.slots.entries id) a.0 a.1)))
