use Rattle.std.proofs.Common.{sym, ◌∙◌, arith}
use Rattle.std.proofs.lemmas.Result.{err_from_is_err_and}
use Rattle.span_store.specs.Calls.{Keep}
use Rattle.span_store.proofs.Upheld.{handles_fit}
use Rattle.span_store.proofs.Views.{view_of, no_more-at, after_refused}
use Rattle.span_store.proofs.Held.{kept_consistent, kept_view, kept_accepted}
use Rattle.span_store.proofs.store.Store.keep.Goals as goal

pub returns-in_err-may_be_held-clause-refused : goal.returns-in_err-may_be_held-clause-refused
returns-in_err-may_be_held-clause-refused c =
    let i = c.self.inside in
    let p = err_from_is_err_and c.from_residual.result c.from_residual.ensures.1 in
    rw (p.1, p.2) (rw (← c.self.view_is) (no_more-at i.slots i.max_count c.args.id c.self.invariant.counted ∙ c.in_err-may_be_held.ensures.refused))

pub returns-in_err-may_be_held-clause-change : goal.returns-in_err-may_be_held-clause-change
returns-in_err-may_be_held-clause-change c =
    let i = c.self.inside in
    rw (← c.self.view_is) (sym (after_refused (view_of i.slots i.max_count) (Keep c.args.id) c.in_err-may_be_held.field-0.0 (no_more-at i.slots i.max_count c.args.id c.self.invariant.counted ∙ c.in_err-may_be_held.ensures.refused)))

pub overflow_add-self : goal.overflow_add-self
overflow_add-self c =
    let i = c.self.inside in
    let fits = handles_fit i.slots i.max_count i.handles c.self.invariant in
    omega arith

pub invariant_of-self : goal.invariant_of-self
invariant_of-self c =
    let i = c.self.inside in
    kept_consistent i.slots c.add_handle.new.slots i.max_count i.handles c.args.id c.self.invariant c.in_ok-may_be_held.ensures.accepted c.add_handle.ensures

pub returns-clause-accepted : goal.returns-clause-accepted
returns-clause-accepted c =
    let i = c.self.inside in
    rw (← c.self.view_is) (kept_accepted i.slots i.max_count i.handles c.args.id c.self.invariant c.in_ok-may_be_held.ensures.accepted)

pub returns-clause-change : goal.returns-clause-change
returns-clause-change c =
    let i = c.self.inside in
    rw (← c.self.view_is) (kept_view i.slots c.add_handle.new.slots i.max_count i.handles c.args.id c.self.invariant c.in_ok-may_be_held.ensures.accepted c.add_handle.ensures)
