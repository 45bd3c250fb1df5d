use Rattle.span_store.proofs.Others.{is_store}
use Rattle.span_store.proofs.Gone.{ended_gone, gone_for_good, never_given}
use Rattle.span_store.proofs.Views.{view_of}
use Rattle.span_store.proofs.Steps.{IsStore-store_after}
use Rattle.span_store.specs.Calls.{Ended, store_after, store_after_all}
use Rattle.span_store.proofs.store.laws.ended_ids_never_come_back.Goals as goal

pub returns-clause-gone : goal.returns-clause-gone
returns-clause-gone c =
    let i = c.store.inside in
    rw (← c.store.view_is) (λ id calls closing. (let e = ended_gone (view_of i.slots i.max_count) id (is_store i.slots i.max_count i.handles c.store.invariant) closing in (gone_for_good (store_after (view_of i.slots i.max_count) (Ended id)) calls id (IsStore-store_after (view_of i.slots i.max_count) (Ended id) (is_store i.slots i.max_count i.handles c.store.invariant)) e.0 e.1).1.1))

pub returns-clause-never_given : goal.returns-clause-never_given
returns-clause-never_given c =
    let i = c.store.inside in
    rw (← c.store.view_is) (λ id calls closing. (let e = ended_gone (view_of i.slots i.max_count) id (is_store i.slots i.max_count i.handles c.store.invariant) closing in let g = gone_for_good (store_after (view_of i.slots i.max_count) (Ended id)) calls id (IsStore-store_after (view_of i.slots i.max_count) (Ended id) (is_store i.slots i.max_count i.handles c.store.invariant)) e.0 e.1 in never_given (store_after_all (store_after (view_of i.slots i.max_count) (Ended id)) calls) id g.0 g.1.0))
