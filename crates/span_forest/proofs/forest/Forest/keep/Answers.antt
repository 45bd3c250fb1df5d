use Rattle.std.proofs.Common.{◌≡◌, ◌<◌, arith}
use Rattle.span_forest.specs.declared.span.Holder.TheVariants.{Handle}
use Rattle.span_forest.specs.Spans.{nodes_of}
use Rattle.span_forest.specs.Count.{reference_count}
use Rattle.span_forest.specs.Holders.{IsHeld}
use Rattle.span_forest.specs.Keep.{CanKeep}
use Rattle.span_forest.proofs.Counts.{held_part}
use Rattle.span_forest.proofs.forest.Forest.keep.Goals as goal
use Rattle.span_forest.proofs.forest.Forest.keep.Goals.{Else-count_of-self}

can : (c : Else-count_of-self) → CanKeep (nodes_of c.self.inside.slots.entries) c.self.inside.max_count c.args.id
can c =
    let i = c.self.inside in
    let held : IsHeld (nodes_of i.slots.entries) c.args.id Handle = c.is_held.ensures.0 c.if-not-is_held.false in
    let s = held_part i.slots.entries c.args.id c.args.holder c.self.invariant.settled held in
    let e = c.count_of.ensures s.0 s.1 in
    let low : reference_count (nodes_of i.slots.entries) c.args.id < i.max_count = omega (arith, c.if-count_of-self.false, s.2.1) in
    (held, low)

pub returns-then-count_of-self-clause-refused : goal.returns-then-count_of-self-clause-refused
returns-then-count_of-self-clause-refused c =
    let i = c.self.inside in
    let v = c.self.invariant in
    let held : IsHeld (nodes_of i.slots.entries) c.args.id Handle = c.is_held.ensures.0 c.if-not-is_held.false in
    let s = held_part i.slots.entries c.args.id c.args.holder v.settled held in
    let e = c.count_of.ensures s.0 s.1 in
    let b = v.bounded c.args.id in
    let same : reference_count (nodes_of i.slots.entries) c.args.id ≡ i.max_count = omega (arith, c.if-count_of-self.true, s.2.1) in
    rw (← c.self.view_is) (held, same)

pub add_holder-requires : goal.add_holder-requires
add_holder-requires c = rw (← c.self.view_is) (can (goal.at.add_holder-requires c).Else-count_of-self)

pub returns-clause-accepted : goal.returns-clause-accepted
returns-clause-accepted c = rw (← c.self.view_is) (can (goal.at.returns-clause-accepted c).Else-count_of-self)
