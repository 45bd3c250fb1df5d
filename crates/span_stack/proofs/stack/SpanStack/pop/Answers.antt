use Rattle.std.proofs.Common.{not, arith, ap, subst, sym, ◌∙◌}
use Rattle.span_id.specs.Ids.{has}
use Rattle.span_stack.specs.Stack.{without_last}
use Rattle.span_stack.specs.inside.Entry.{ids_of, IsLastPlace}
use Rattle.span_stack.proofs.Stacks.{without_last-absent}
use Rattle.span_stack.proofs.Removals.{ids_of-remove, AreFlagged-remove, duplicate-last}
use Rattle.span_stack.proofs.stack.SpanStack.pop.Goals as goal

pub returns-in_err-place-clause-ids : goal.returns-in_err-place-clause-ids
returns-in_err-place-clause-ids c =
    sym (without_last-absent c.args.self.now.ids c.args.id
    (ap (λ s. has s.ids c.args.id) (sym c.self.view_is) ∙ ap (λ l. has (ids_of l) c.args.id) (sym c.as_slice.ensures) ∙ c.in_err-place.ensures))

pub invariant_of-self : goal.invariant_of-self
invariant_of-self c =
    let old = c.self.inside.entries in
    let at : IsLastPlace old.items c.args.id c.in_ok-place.place = subst (λ l. IsLastPlace l c.args.id c.in_ok-place.place) c.as_slice.ensures c.in_ok-place.ensures in
    record {
      flagged = rw c.remove.ensures.items (AreFlagged-remove old.items c.args.id c.in_ok-place.place at c.self.invariant.flagged);
      fits = omega (arith, c.remove.ensures.len, c.remove.ensures.capacity, c.self.invariant.fits);
    }

pub returns-clause-ids : goal.returns-clause-ids
returns-clause-ids c =
    let old = c.self.inside.entries in
    let at : IsLastPlace old.items c.args.id c.in_ok-place.place = subst (λ l. IsLastPlace l c.args.id c.in_ok-place.place) c.as_slice.ensures c.in_ok-place.ensures in
    ap ids_of c.remove.ensures.items ∙ ids_of-remove old.items c.args.id c.in_ok-place.place at ∙ ap (λ s. without_last s.ids c.args.id) c.self.view_is

pub returns-clause-no_duplicate : goal.returns-clause-no_duplicate
returns-clause-no_duplicate c =
    let old = c.self.inside.entries in
    let at : IsLastPlace old.items c.args.id c.in_ok-place.place = subst (λ l. IsLastPlace l c.args.id c.in_ok-place.place) c.as_slice.ensures c.in_ok-place.ensures in
    ap not (duplicate-last old.items c.args.id c.in_ok-place.place at c.self.invariant.flagged c.remove.result c.remove.ensures.value
    ∙ ap (λ l. has (ids_of l) c.args.id) (sym c.remove.ensures.items))
