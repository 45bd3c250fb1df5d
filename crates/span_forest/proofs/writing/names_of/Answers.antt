use Rattle.std.proofs.Common.{map, sym, ap, ◌∙◌}
use Rattle.std.specs.Prelude.{string_bytes}
use Rattle.std.specs.Option.{option_copied}
use Rattle.span_forest.specs.Spans.{nodes_of}
use Rattle.span_forest.proofs.Counts.{node_found}
use Rattle.span_forest.proofs.Paths.{Gathers_turn, gathered, there}
use Rattle.span_forest.proofs.writing.names_of.Goals as goal
use Rattle.span_forest.proofs.writing.names_of.Goals.{After-push_name}

pub unreachable-requires : goal.unreachable-requires
unreachable-requires c =
    there c.args.slots.now.entries c.args.layer c.args.id c.in-Some.at (map string_bytes c.up.names.items) c.up.next c.up.invariant c.in-Some.is (sym c.get.ensures ∙ ap option_copied c.in_default-get.is)

pub up-smaller : goal.up-smaller
up-smaller c =
    (Gathers_turn c.args.slots.now.entries c.args.layer c.args.id c.in-Some.at c.in-Some-get.span.now (map string_bytes c.up.names.items) (map string_bytes c.push_name.new.names.items) c.up.next c.requires.forest c.up.invariant c.in-Some.is (node_found c.args.slots.now.entries c.in-Some.at c.in-Some-get.span.now (sym c.get.ensures ∙ ap option_copied c.in-Some-get.is)) c.in_ok-push_name.ensures).smaller

pub up-preserved : goal.up-preserved
up-preserved c =
    (Gathers_turn c.args.slots.now.entries c.args.layer c.args.id c.in-Some.at c.in-Some-get.span.now (map string_bytes c.up.names.items) (map string_bytes c.push_name.new.names.items) c.up.next c.requires.forest c.up.invariant c.in-Some.is (node_found c.args.slots.now.entries c.in-Some.at c.in-Some-get.span.now (sym c.get.ensures ∙ ap option_copied c.in-Some-get.is)) c.in_ok-push_name.ensures).gathers

pub returns : goal.returns
returns c = record { names = gathered (nodes_of c.args.slots.now.entries) c.args.layer c.args.id c.up.names.items c.reverse.new.self.items c.up.next c.up.invariant c.in_default.is c.reverse.ensures.items }
