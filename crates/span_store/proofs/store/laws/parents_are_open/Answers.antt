use Rattle.span_store.proofs.Others.{is_store}
use Rattle.span_store.proofs.Numbers.{parent_open, bounded}
use Rattle.span_store.proofs.Views.{view_of}
use Rattle.span_store.proofs.store.laws.parents_are_open.Goals as goal

pub returns-clause-parent : goal.returns-clause-parent
returns-clause-parent c =
    let i = c.store.inside in
    rw (← c.store.view_is) (λ id parent e. parent_open (view_of i.slots i.max_count) id parent (is_store i.slots i.max_count i.handles c.store.invariant) e)

pub returns-clause-bounded : goal.returns-clause-bounded
returns-clause-bounded c =
    let i = c.store.inside in
    rw (← c.store.view_is) (λ id. bounded i.slots i.max_count i.handles id c.store.invariant)
