use Rattle.span_store.proofs.Others.{is_store}
use Rattle.span_store.proofs.Made.{keeps_what_it_was}
use Rattle.span_store.proofs.Views.{view_of}
use Rattle.span_store.proofs.store.laws.a_span_keeps_what_it_was_made_with.Goals as goal

pub returns-clause-parent : goal.returns-clause-parent
returns-clause-parent c =
    let i = c.store.inside in
    rw (← c.store.view_is) (λ id calls first last e h. (keeps_what_it_was (view_of i.slots i.max_count) calls id first last (is_store i.slots i.max_count i.handles c.store.invariant) e h).parent)

pub returns-clause-bits : goal.returns-clause-bits
returns-clause-bits c =
    let i = c.store.inside in
    rw (← c.store.view_is) (λ id calls first last e h. (keeps_what_it_was (view_of i.slots i.max_count) calls id first last (is_store i.slots i.max_count i.handles c.store.invariant) e h).bits)

pub returns-clause-word : goal.returns-clause-word
returns-clause-word c =
    let i = c.store.inside in
    rw (← c.store.view_is) (λ id calls first last e h. (keeps_what_it_was (view_of i.slots i.max_count) calls id first last (is_store i.slots i.max_count i.handles c.store.invariant) e h).word)
