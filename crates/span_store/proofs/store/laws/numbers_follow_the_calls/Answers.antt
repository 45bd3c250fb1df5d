use Rattle.span_store.proofs.Others.{is_store}
use Rattle.span_store.proofs.Numbers.{numbers}
use Rattle.span_store.proofs.Views.{view_of}
use Rattle.span_store.proofs.store.laws.numbers_follow_the_calls.Goals as goal

pub returns-clause-handles : goal.returns-clause-handles
returns-clause-handles c =
    let i = c.store.inside in
    rw (← c.store.view_is) (λ call accepted. (numbers (view_of i.slots i.max_count) call (is_store i.slots i.max_count i.handles c.store.invariant) accepted).0)

pub returns-clause-spans : goal.returns-clause-spans
returns-clause-spans c =
    let i = c.store.inside in
    rw (← c.store.view_is) (λ call accepted. (numbers (view_of i.slots i.max_count) call (is_store i.slots i.max_count i.handles c.store.invariant) accepted).1)
