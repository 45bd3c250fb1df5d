use Rattle.std.proofs.Common.{arith, ap, ◌∙◌, length}
use Rattle.std.specs.Iterator.{YieldsFirst}
use Rattle.std.proofs.iter.runs.Sources.{from_front, as_is}
use Rattle.std.proofs.lemmas.List.{length-map}
use Rattle.span_stack.specs.Stack.{distinct_from_top}
use Rattle.span_stack.specs.inside.Entry.{ids_of, unflagged}
use Rattle.span_stack.proofs.Stacks.{length-distinct_from_top}
use Rattle.span_stack.proofs.Entries.{unflagged-distinct_from_top}
use Rattle.span_stack.proofs.stack.SpanStack.walk.Goals as goal

pub returns-clause-ids : goal.returns-clause-ids
returns-clause-ids c =
    ap unflagged (c.iter.ensures.rest ∙ c.as_slice.ensures)
    ∙ unflagged-distinct_from_top c.self.inside.entries.items c.self.invariant.flagged ∙ ap (λ s. distinct_from_top s.ids) c.self.view_is

pub returns-clause-fits : goal.returns-clause-fits
returns-clause-fits c =
    let entries = c.self.inside.entries.items in
    let same = c.iter.ensures.rest ∙ c.as_slice.ensures in
    let walked = ap length (ap unflagged same ∙ unflagged-distinct_from_top entries c.self.invariant.flagged) in
    omega (arith, walked, length-distinct_from_top (ids_of entries), length-map entries (λ entry. entry.id), c.iter.ensures.bound, ap length same)

pub returns-clause-runs : goal.returns-clause-runs
returns-clause-runs c p seen =
    as_is p p.from (from_front (YieldsFirst (λ rest. rest)) (λ x. x) (λ rest. rest) (λ s t h. ap length h.0) (λ s x t h. h) p seen)
