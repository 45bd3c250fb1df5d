use Rattle.span_store.proofs.Others.{is_store, new_found, others_found, others_kept, others_released, others_ended}
use Rattle.span_store.proofs.Views.{view_of}
use Rattle.span_store.proofs.store.laws.calls_change_their_span_alone.Goals as goal

pub returns-clause-added : goal.returns-clause-added
returns-clause-added c =
    let i = c.store.inside in
    rw (← c.store.view_is) (λ parent bits word id accepted next. new_found (view_of i.slots i.max_count) parent bits word id (is_store i.slots i.max_count i.handles c.store.invariant) accepted next)

pub returns-clause-others : goal.returns-clause-others
returns-clause-others c =
    let i = c.store.inside in
    rw (← c.store.view_is) (λ parent bits word other ne. others_found (view_of i.slots i.max_count) parent bits word other (is_store i.slots i.max_count i.handles c.store.invariant) ne)

pub returns-clause-keep : goal.returns-clause-keep
returns-clause-keep c =
    let i = c.store.inside in
    rw (← c.store.view_is) (λ id other ne. others_kept (view_of i.slots i.max_count) id other ne)

pub returns-clause-release : goal.returns-clause-release
returns-clause-release c =
    let i = c.store.inside in
    rw (← c.store.view_is) (λ id other ne. others_released (view_of i.slots i.max_count) id other ne)

pub returns-clause-ended : goal.returns-clause-ended
returns-clause-ended c =
    let i = c.store.inside in
    rw (← c.store.view_is) (λ id other ne. others_ended (view_of i.slots i.max_count) id other ne)
