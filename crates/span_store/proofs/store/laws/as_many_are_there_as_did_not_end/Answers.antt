use Rattle.span_store.proofs.Others.{is_store}
use Rattle.span_store.proofs.Numbers.{counted_spans, counted_handles}
use Rattle.span_store.proofs.Views.{view_of}
use Rattle.span_store.proofs.store.laws.as_many_are_there_as_did_not_end.Goals as goal

pub returns-clause-spans : goal.returns-clause-spans
returns-clause-spans c =
    let i = c.store.inside in
    rw (← c.store.view_is) (λ calls. counted_spans (view_of i.slots i.max_count) calls (is_store i.slots i.max_count i.handles c.store.invariant))

pub returns-clause-handles : goal.returns-clause-handles
returns-clause-handles c =
    let i = c.store.inside in
    rw (← c.store.view_is) (λ calls. counted_handles (view_of i.slots i.max_count) calls (is_store i.slots i.max_count i.handles c.store.invariant))
