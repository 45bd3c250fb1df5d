use Rattle.span_store.proofs.Others.{is_store}
use Rattle.span_store.proofs.Closing.{told_exactly}
use Rattle.span_store.proofs.Views.{view_of}
use Rattle.span_store.proofs.store.laws.what_becomes_closing_is_told.Goals as goal

pub returns : goal.returns
returns c =
    let i = c.store.inside in
    rw (← c.store.view_is) (λ call id. told_exactly (view_of i.slots i.max_count) call id (is_store i.slots i.max_count i.handles c.store.invariant))
