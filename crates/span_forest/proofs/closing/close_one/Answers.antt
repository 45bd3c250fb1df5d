use Rattle.std.proofs.Common.{◌<◌, sym, subst, ◌∙◌}
use Rattle.std.specs.Option.{IsSomeAnd}
use Rattle.span_slots.specs.Table.{find}
use Rattle.span_forest.specs.declared.span.Span.{Span}
use Rattle.span_forest.proofs.Nodes.{fields-found, value_of_open}
use Rattle.span_forest.proofs.Counts.{closed_root, closed_child, parent_counts, none_is}
use Rattle.span_forest.specs.Spans.{nodes_of}
use Rattle.span_forest.proofs.Ranks.{ranked}
use Rattle.span_forest.proofs.closing.close_one.Goals as goal

pub unreachable-requires : goal.unreachable-requires
unreachable-requires c =
    let s = value_of_open c.args.slots.now.entries c.args.id c.requires.open in
    none_is (find c.args.slots.now.entries c.args.id) s.0 (sym c.remove.ensures.value ∙ c.in_default.is) s.1

pub lower-requires : goal.lower-requires
lower-requires c =
    let found = sym c.remove.ensures.value ∙ c.in-Some.is in
    let up = parent_counts c.args.slots.now c.remove.new.self c.args.id c.in-Some-parent.parent c.in-Some.span (ranked (nodes_of c.args.slots.now.entries) c.requires.forest) c.requires.counted c.requires.leaf found c.remove.ensures.table c.in-Some-parent.is in
    subst (λ o. IsSomeAnd o (λ (s : Span). 0 < s.count)) (sym up.1) up.2

pub returns : goal.returns
returns c =
    let found = sym c.remove.ensures.value ∙ c.in-Some.is in
    let d = closed_child c.args.slots.now c.remove.new.self c.lower.new.slots c.args.id c.in-Some-parent.parent c.in-Some.span (ranked (nodes_of c.args.slots.now.entries) c.requires.forest) c.requires.counted c.requires.leaf found c.remove.ensures.table c.in-Some-parent.is c.lower.ensures in
    record {
      nodes = d.nodes;
      counted = d.counted;
      table = d.table;
      fields = fields-found c.args.slots.now.entries c.args.id c.in-Some.span found;
    }

pub returns-in_default-parent : goal.returns-in_default-parent
returns-in_default-parent c =
    let found = sym c.remove.ensures.value ∙ c.in-Some.is in
    let d = closed_root c.args.slots.now c.remove.new.self c.args.id c.in-Some.span (ranked (nodes_of c.args.slots.now.entries) c.requires.forest) c.requires.counted found c.remove.ensures.table c.in_default-parent.is in
    record {
      nodes = d.nodes;
      counted = d.counted;
      table = d.table;
      fields = fields-found c.args.slots.now.entries c.args.id c.in-Some.span found;
    }
