use Rattle.std.proofs.Common.{◌∙◌, sym}
use Rattle.std.proofs.lemmas.Bool.{false≢true}
use Rattle.span_id.specs.declared.fault.Fault.TheVariants.{Unknown}
use Rattle.span_store.specs.Calls.{Release}
use Rattle.span_store.proofs.Views.{view_of, after_refused, release_refused}
use Rattle.span_store.proofs.Held.{released_accepted, released_enough, released_consistent, released_view, released_closing, same_test}
use Rattle.span_store.proofs.store.Store.release.Goals as goal

pub returns-then-not-is_held-clause-refused : goal.returns-then-not-is_held-clause-refused
returns-then-not-is_held-clause-refused c =
    let i = c.self.inside in
    rw (← c.self.view_is) (release_refused i.slots i.max_count c.args.id (λ h. false≢true (sym c.if-not-is_held.true ∙ c.is_held.ensures.1 h)))

pub returns-then-not-is_held-clause-change : goal.returns-then-not-is_held-clause-change
returns-then-not-is_held-clause-change c =
    let i = c.self.inside in
    rw (← c.self.view_is) (sym (after_refused (view_of i.slots i.max_count) (Release c.args.id) Unknown (release_refused i.slots i.max_count c.args.id (λ h. false≢true (sym c.if-not-is_held.true ∙ c.is_held.ensures.1 h)))))

pub overflow_sub-self : goal.overflow_sub-self
overflow_sub-self c =
    let i = c.self.inside in
    released_enough i.slots i.max_count i.handles c.args.id c.self.invariant (c.is_held.ensures.0 c.if-not-is_held.false)

pub invariant_of-self : goal.invariant_of-self
invariant_of-self c =
    let i = c.self.inside in
    released_consistent i.slots c.drop_handle-closing.new.slots i.max_count i.handles c.args.id c.self.invariant (c.is_held.ensures.0 c.if-not-is_held.false) c.drop_handle-closing.ensures.table

pub returns-clause-accepted : goal.returns-clause-accepted
returns-clause-accepted c =
    let i = c.self.inside in
    rw (← c.self.view_is) (released_accepted i.slots i.max_count i.handles c.args.id c.self.invariant (c.is_held.ensures.0 c.if-not-is_held.false))

pub returns-clause-change : goal.returns-clause-change
returns-clause-change c =
    let i = c.self.inside in
    rw (← c.self.view_is) (released_view i.slots c.drop_handle-closing.new.slots i.max_count i.handles c.args.id c.self.invariant (c.is_held.ensures.0 c.if-not-is_held.false) c.drop_handle-closing.ensures.table)

pub returns-clause-closing : goal.returns-clause-closing
returns-clause-closing c =
    let i = c.self.inside in
    same_test (released_closing i.slots c.drop_handle-closing.new.slots i.max_count i.handles c.args.id c.self.invariant (c.is_held.ensures.0 c.if-not-is_held.false) c.drop_handle-closing.ensures.table c.drop_handle-closing.result c.drop_handle-closing.ensures.last)
