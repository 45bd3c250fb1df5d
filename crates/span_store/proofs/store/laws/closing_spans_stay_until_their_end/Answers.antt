use Rattle.span_store.proofs.Others.{is_store}
use Rattle.span_store.proofs.Closing.{stays_same, stays_closing}
use Rattle.span_store.proofs.Views.{view_of}
use Rattle.span_store.proofs.store.laws.closing_spans_stay_until_their_end.Goals as goal

pub returns-clause-same : goal.returns-clause-same
returns-clause-same c =
    let i = c.store.inside in
    rw (← c.store.view_is) (λ id calls closing never. stays_same (view_of i.slots i.max_count) calls id (is_store i.slots i.max_count i.handles c.store.invariant) closing never)

pub returns-clause-closing : goal.returns-clause-closing
returns-clause-closing c =
    let i = c.store.inside in
    rw (← c.store.view_is) (λ id calls closing never. stays_closing (view_of i.slots i.max_count) calls id (is_store i.slots i.max_count i.handles c.store.invariant) closing never)
