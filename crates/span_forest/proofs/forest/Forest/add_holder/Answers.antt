use Rattle.std.proofs.Common.{◌+◌, ◌<◌, ◌≤◌, refl, sym, ap, subst, arith}
use Rattle.std.specs.Option.{IsSomeAnd}
use Rattle.span_slots.specs.Table.{Table, with_value}
use Rattle.span_forest.specs.declared.span.Span.{Span}
use Rattle.span_forest.specs.Node.{node_of}
use Rattle.span_forest.specs.Spans.{nodes_of}
use Rattle.span_forest.specs.Holders.{held_by}
use Rattle.span_forest.specs.Keep.{CanKeep}
use Rattle.span_forest.specs.inside.Invariant.{IsConsistent, span_more}
use Rattle.span_forest.proofs.Counts.{held_part, nodes_more, IsConsistent-kept, kept_view, total_fits, handles_fit}
use Rattle.span_forest.proofs.Handles.{handles_in_le}
use Rattle.span_forest.proofs.forest.Forest.add_holder.Goals as goal
use Rattle.span_forest.proofs.forest.Forest.add_holder.Goals.{After-self}

can : (c : After-self) → CanKeep (nodes_of c.self.inside.slots.entries) c.self.inside.max_count c.args.id
can c = rw (← c.self.view_is) at c.requires

pub raise_holder-requires : goal.raise_holder-requires
raise_holder-requires c =
    let i = c.self.inside in
    let v = c.self.invariant in
    let k = can (goal.at.raise_holder-requires c).After-self in
    let s = held_part i.slots.entries c.args.id c.args.holder v.settled k.0 in
    let low : s.0.count < 4294967295 = omega (arith, k.1, s.2.1, v.max_high) in
    subst (λ o. IsSomeAnd o (λ (span : Span). (held_by c.args.holder (node_of span) ≤ span.count) × (span.count < 4294967295))) (sym s.1) (s.2.0, low)

pub overflow_add-self : goal.overflow_add-self
overflow_add-self c =
    let i = c.self.inside in
    let fits = total_fits i.slots.entries i.max_count i.total i.handles c.self.invariant in
    omega arith

pub overflow_add-self-2 : goal.overflow_add-self-2
overflow_add-self-2 c =
    let i = c.self.inside in
    let fits = handles_fit i.slots.entries i.max_count i.total i.handles c.self.invariant in
    omega (arith, fits, c.handles_in.ensures, handles_in_le c.args.holder)

pub invariant_of-self : goal.invariant_of-self
invariant_of-self c =
    let i = c.self.inside in
    let v = c.self.invariant in
    let k = can (goal.at.invariant_of-self c).After-self in
    let s = held_part i.slots.entries c.args.id c.args.holder v.settled k.0 in
    let low : s.0.count < i.max_count = omega (arith, k.1, s.2.1) in
    subst (λ (t : Table Span). IsConsistent t.entries i.max_count (i.total + 1) (i.handles + c.handles_in.result)) (sym (c.raise_holder.ensures s.0 s.1)) (IsConsistent-kept i.slots.entries i.max_count i.total (i.total + 1) i.handles (i.handles + c.handles_in.result) c.args.id c.args.holder s.0 v s.1 low refl (ap (λ n. i.handles + n) c.handles_in.ensures))

pub returns : goal.returns
returns c =
    let i = c.self.inside in
    let v = c.self.invariant in
    let k = can (goal.at.returns c).After-self in
    let s = held_part i.slots.entries c.args.id c.args.holder v.settled k.0 in
    rw (← c.self.view_is) (kept_view i.slots c.raise_holder.new.slots i.max_count c.args.id c.args.holder (with_value i.slots.entries c.args.id (span_more c.args.holder s.0)) (c.raise_holder.ensures s.0 s.1) (nodes_more i.slots.entries c.args.id c.args.holder s.0 v.settled.forest.ids_apart s.1))
