use Rattle.std.proofs.Common.{◌+◌, ◌∷◌, ◌∙◌, sym, ap}
use Rattle.span_id.specs.Id.{slot_of}
use Rattle.span_store.proofs.Walks.{id_from-spans, ids_from-spans, ids-spans}
use Rattle.span_store.proofs.store.laws.a_walk_meets_each_span_once.Goals as goal

pub returns-clause-all : goal.returns-clause-all
returns-clause-all c =
    let i = c.store.inside in
    rw (← c.store.view_is) (ids_from-spans i.slots.entries 0 ∙ c.a_walk_meets_each_id_once.ensures.all ∙ sym (ids-spans i.slots.entries))

pub returns-clause-next : goal.returns-clause-next
returns-clause-next c =
    let i = c.store.inside in
    rw (← c.store.view_is) (λ slot id told. ids_from-spans i.slots.entries slot ∙ (c.a_walk_meets_each_id_once.ensures.next slot id (sym (id_from-spans i.slots.entries slot) ∙ told) ∙ ap (λ x. id ∷ x) (sym (ids_from-spans i.slots.entries (slot_of id + 1)))))

pub returns-clause-end : goal.returns-clause-end
returns-clause-end c =
    let i = c.store.inside in
    rw (← c.store.view_is) (λ slot none. ids_from-spans i.slots.entries slot ∙ c.a_walk_meets_each_id_once.ensures.end slot (sym (id_from-spans i.slots.entries slot) ∙ none))
