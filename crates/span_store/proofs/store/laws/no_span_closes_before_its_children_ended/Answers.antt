use Rattle.span_store.proofs.Others.{is_store}
use Rattle.span_store.proofs.Closing.{told_exactly}
use Rattle.span_store.proofs.Numbers.{no_child_of_closing}
use Rattle.span_store.proofs.Views.{view_of}
use Rattle.span_store.specs.Calls.{store_after}
use Rattle.span_store.proofs.store.laws.no_span_closes_before_its_children_ended.Goals as goal

pub returns-clause-closing : goal.returns-clause-closing
returns-clause-closing c =
    let i = c.store.inside in
    rw (← c.store.view_is) (λ id child closing. no_child_of_closing (view_of i.slots i.max_count) id child closing)

pub returns-clause-told : goal.returns-clause-told
returns-clause-told c =
    let i = c.store.inside in
    rw (← c.store.view_is) (λ call id child told. no_child_of_closing (store_after (view_of i.slots i.max_count) call) id child ((told_exactly (view_of i.slots i.max_count) call id (is_store i.slots i.max_count i.handles c.store.invariant)).0 told).1)
