use Rattle.span_store.specs.inside.Invariant.{spans_of}
use Rattle.span_store.proofs.Plain.{apart-spans}
use Rattle.span_store.proofs.Told.{told_there, told_apart, told_ascends, told_closing}
use Rattle.span_store.proofs.store.laws.spans_are_told_once.Goals as goal

pub returns-clause-exact : goal.returns-clause-exact
returns-clause-exact c =
    rw (← c.store.view_is) (told_there (spans_of c.store.inside.slots.entries))

pub returns-clause-once : goal.returns-clause-once
returns-clause-once c =
    let i = c.store.inside in
    rw (← c.store.view_is) (told_apart (spans_of i.slots.entries) (apart-spans i.slots.entries c.store.invariant.apart))

pub returns-clause-ascending : goal.returns-clause-ascending
returns-clause-ascending c =
    let i = c.store.inside in
    rw (← c.store.view_is) (told_ascends i.slots.entries c.each_slot_has_one_id.ensures.ascending)

pub returns-clause-closing : goal.returns-clause-closing
returns-clause-closing c =
    let i = c.store.inside in
    rw (← c.store.view_is) (told_closing (spans_of i.slots.entries) (apart-spans i.slots.entries c.store.invariant.apart))
