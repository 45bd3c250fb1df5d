use Rattle.std.proofs.Common.{sym, ap, ◌∙◌, ◌≡◌, None}
use Rattle.std.specs.Option.{option_copied}
use Rattle.span_forest.specs.inside.Marks.{known_of}
use Rattle.span_forest.specs.Spans.{parent_in, parent_of, nodes_of}
use Rattle.span_forest.proofs.Counts.{node_found}
use Rattle.span_forest.proofs.Slotted.{open_value}
use Rattle.span_forest.proofs.Marks.{climbs_first, climbs_there, climbs_turn, marks_first, marks_turn, none_from}
use Rattle.span_forest.proofs.holding.write_down.Goals as goal

pub unreachable-requires : goal.unreachable-requires
unreachable-requires c =
    climbs_there c.args.slots.now.entries c.args.id c.args.at c.in-Some.x c.up.next c.up.invariant.climbs c.in-Some.is (sym c.get.ensures ∙ ap option_copied c.in_default-get.is)

pub up-smaller : goal.up-smaller
up-smaller c =
    let unknown : known_of c.up.marks c.args.id c.in-Some.x ≡ None = sym c.known.ensures ∙ none_from c.known.result (sym c.if-is_some.ensures) in
    (climbs_turn c.args.slots.now.entries c.args.id c.args.at c.in-Some.x c.in-Some-get.span.now c.up.marks c.up.next c.requires.forest c.up.invariant.climbs c.in-Some.is unknown (sym c.get.ensures ∙ ap option_copied c.in-Some-get.is)).smaller

pub up-init : goal.up-init
up-init c = record {
  climbs = climbs_first (nodes_of c.args.slots.now.entries) c.args.id c.args.at c.requires.open;
  marks = marks_first (nodes_of c.args.slots.now.entries) c.args.id c.args.at c.args.marks.now c.requires.marks;
}

pub up-preserved : goal.up-preserved
up-preserved c =
    let es = c.args.slots.now.entries in
    let unknown : known_of c.up.marks c.args.id c.in-Some.x ≡ None = sym c.known.ensures ∙ none_from c.known.result (sym c.if-is_some.ensures) in
    let found = sym c.get.ensures ∙ ap option_copied c.in-Some-get.is in
    let turn = climbs_turn es c.args.id c.args.at c.in-Some.x c.in-Some-get.span.now c.up.marks c.up.next c.requires.forest c.up.invariant.climbs c.in-Some.is unknown found in
    let parent : parent_of (nodes_of es) c.in-Some.x ≡ c.in-Some-get.span.now.parent = ap parent_in (node_found es c.in-Some.x c.in-Some-get.span.now found) in
    record {
      climbs = turn.climbs;
      marks = rw (c.slot.ensures.value, ← parent) (marks_turn (nodes_of es) c.args.id c.args.at c.in-Some.x c.args.below c.args.marks.now c.up.marks c.up.next c.up.invariant.marks (λ a b oa ob. c.each_slot_has_one_id.ensures.one_slot a b (open_value es a oa) (open_value es b ob)) c.up.invariant.climbs c.in-Some.is c.requires.below);
    }
