use Rattle.span_store.proofs.Others.{is_store}
use Rattle.span_store.proofs.Numbers.{empty}
use Rattle.span_store.proofs.Views.{view_of}
use Rattle.span_store.proofs.store.laws.empty_where_nothing_is_held.Goals as goal

pub returns : goal.returns
returns c =
    let i = c.store.inside in
    rw (← c.store.view_is) (λ none never. empty (view_of i.slots i.max_count) (is_store i.slots i.max_count i.handles c.store.invariant) none never)
