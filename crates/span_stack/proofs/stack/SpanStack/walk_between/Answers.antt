use Rattle.std.proofs.Common.{arith, ap, sym, ◌∙◌, ◌++◌, length, take}
use Rattle.std.specs.Iterator.{YieldsFirst}
use Rattle.std.specs.List.{between}
use Rattle.std.specs.Slice.Iter.{iter_rest}
use Rattle.std.proofs.iter.runs.Sources.{from_front, as_is}
use Rattle.span_stack.specs.Stack.{distinct_from_top}
use Rattle.span_stack.specs.inside.Entry.{unflagged}
use Rattle.span_stack.proofs.Entries.{distinct_from_top-between, length-unflagged}
use Rattle.span_stack.proofs.stack.SpanStack.walk_between.Goals as goal

pub returns-clause-ids : goal.returns-clause-ids
returns-clause-ids c =
    ap (λ s. distinct_from_top (take c.args.to s.ids)) (sym c.self.view_is)
    ∙ distinct_from_top-between c.args.from c.args.to c.self.inside.entries.items c.requires.order c.self.invariant.flagged
    ∙ (λ j. unflagged (sym (c.iter.ensures.rest ∙ ap (between c.args.from c.args.to) c.as_slice.ensures) j) ++ distinct_from_top (take c.args.from (c.self.view_is j).ids))

pub returns-clause-fits : goal.returns-clause-fits
returns-clause-fits c = omega (arith, length-unflagged (iter_rest c.iter.result), c.iter.ensures.bound)

pub returns-clause-runs : goal.returns-clause-runs
returns-clause-runs c p seen =
    as_is p p.from (from_front (YieldsFirst (λ rest. rest)) (λ x. x) (λ rest. rest) (λ s t h. ap length h.0) (λ s x t h. h) p seen)
