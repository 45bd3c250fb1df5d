use Rattle.std.proofs.Common.{sym, ap, ◌∙◌}
use Rattle.std.specs.Option.{option_copied}
use Rattle.span_forest.proofs.Marks.{climbs_there, climbs_turn}
use Rattle.span_forest.proofs.holding.look_up.Goals as goal

pub unreachable-requires : goal.unreachable-requires
unreachable-requires c =
    climbs_there c.args.slots.now.entries c.args.id c.args.at c.in-Some.x c.up.next c.up.invariant c.in-Some.is (sym c.get.ensures ∙ ap option_copied c.in_default-get.is)

pub up-smaller : goal.up-smaller
up-smaller c =
    (climbs_turn c.args.slots.now.entries c.args.id c.args.at c.in-Some.x c.in-Some-get.span.now c.args.marks.now c.up.next c.requires.forest c.up.invariant c.in-Some.is (sym c.known.ensures ∙ c.in_default-known.is) (sym c.get.ensures ∙ ap option_copied c.in-Some-get.is)).smaller

pub up-preserved : goal.up-preserved
up-preserved c =
    (climbs_turn c.args.slots.now.entries c.args.id c.args.at c.in-Some.x c.in-Some-get.span.now c.args.marks.now c.up.next c.requires.forest c.up.invariant c.in-Some.is (sym c.known.ensures ∙ c.in_default-known.is) (sym c.get.ensures ∙ ap option_copied c.in-Some-get.is)).climbs
