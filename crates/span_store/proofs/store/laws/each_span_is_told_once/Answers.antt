use Rattle.span_store.proofs.Others.{is_store}
use Rattle.span_store.proofs.Gone.{told_at_most_once, told_once, told_no_more}
use Rattle.span_store.proofs.Views.{view_of}
use Rattle.span_store.proofs.store.laws.each_span_is_told_once.Goals as goal

pub returns-clause-at_most : goal.returns-clause-at_most
returns-clause-at_most c =
    let i = c.store.inside in
    rw (← c.store.view_is) (λ id calls. told_at_most_once (view_of i.slots i.max_count) calls id (is_store i.slots i.max_count i.handles c.store.invariant))

pub returns-clause-once : goal.returns-clause-once
returns-clause-once c =
    let i = c.store.inside in
    rw (← c.store.view_is) (λ id calls before closing. told_once (view_of i.slots i.max_count) calls id (is_store i.slots i.max_count i.handles c.store.invariant) before closing)

pub returns-clause-not_again : goal.returns-clause-not_again
returns-clause-not_again c =
    let i = c.store.inside in
    rw (← c.store.view_is) (λ id calls closing. told_no_more (view_of i.slots i.max_count) calls id (is_store i.slots i.max_count i.handles c.store.invariant) closing)
