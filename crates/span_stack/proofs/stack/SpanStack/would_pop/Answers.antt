use Rattle.std.proofs.Common.{not, ap, subst, sym, ◌∙◌}
use Rattle.span_id.specs.Ids.{has}
use Rattle.span_stack.specs.Stack.{without_last}
use Rattle.span_stack.specs.inside.Entry.{IsLastPlace}
use Rattle.span_stack.proofs.Removals.{once-last}
use Rattle.span_stack.proofs.stack.SpanStack.would_pop.Goals as goal

pub returns-clause-no_duplicate : goal.returns-clause-no_duplicate
returns-clause-no_duplicate c =
    let old = c.self.inside.entries in
    let at : IsLastPlace old.items c.args.id c.in_ok-place.place = subst (λ l. IsLastPlace l c.args.id c.in_ok-place.place) c.as_slice-entries.ensures c.in_ok-place.ensures in
    ap (λ e. not e.duplicate) (sym c.index-entries-place.is)
    ∙ once-last old.items c.args.id c.in_ok-place.place at c.self.invariant.flagged c.index-entries-place.result (rw (← c.as_slice-entries.ensures) c.index-entries-place.is)
    ∙ ap (λ s. not (has (without_last s.ids c.args.id) c.args.id)) c.self.view_is
