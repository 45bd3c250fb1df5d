use Rattle.span_store.specs.Calls.{store_after_all}
use Rattle.span_store.proofs.Others.{is_store}
use Rattle.span_store.proofs.Closing.{stays_closing, closing_not_kept, closing_not_released, closing_no_child}
use Rattle.span_store.proofs.Views.{view_of}
use Rattle.span_store.proofs.store.laws.closing_spans_are_held_by_nobody.Goals as goal

pub returns-clause-not_kept : goal.returns-clause-not_kept
returns-clause-not_kept c =
    let i = c.store.inside in
    rw (← c.store.view_is) (λ id calls closing never. closing_not_kept (store_after_all (view_of i.slots i.max_count) calls) id (stays_closing (view_of i.slots i.max_count) calls id (is_store i.slots i.max_count i.handles c.store.invariant) closing never))

pub returns-clause-not_released : goal.returns-clause-not_released
returns-clause-not_released c =
    let i = c.store.inside in
    rw (← c.store.view_is) (λ id calls closing never. closing_not_released (store_after_all (view_of i.slots i.max_count) calls) id (stays_closing (view_of i.slots i.max_count) calls id (is_store i.slots i.max_count i.handles c.store.invariant) closing never))

pub returns-clause-no_child : goal.returns-clause-no_child
returns-clause-no_child c =
    let i = c.store.inside in
    rw (← c.store.view_is) (λ id bits word calls closing never. closing_no_child (store_after_all (view_of i.slots i.max_count) calls) id bits word (stays_closing (view_of i.slots i.max_count) calls id (is_store i.slots i.max_count i.handles c.store.invariant) closing never))
