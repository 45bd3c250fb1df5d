use Rattle.std.proofs.Common.{Some, is_some, map, refl, sym, ap, subst, ◌∙◌}
use Rattle.std.specs.Option.{option_copied}
use Rattle.span_forest.proofs.Counts.{node_found}
use Rattle.span_forest.proofs.Paths.{Gathers_turn, there}
use Rattle.span_forest.proofs.Texts.{Sees, Sees_none, Sees_turn}
use Rattle.span_forest.specs.Spans.{nodes_of}
use Rattle.span_forest.proofs.path_text.seen_on_walk.Goals as goal

pub unreachable-requires : goal.unreachable-requires
unreachable-requires c =
    there c.args.slots.now.entries c.args.layer c.args.id c.in-Some.at (map (λ name. name.now) c.up.seen.names.items) c.up.next c.up.invariant.gathers c.in-Some.is (sym c.get.ensures ∙ ap option_copied c.in_default-get.is)

-- the first turn is that of the span in hand
pub up-init : goal.up-init
up-init c =
    let spans = nodes_of c.args.slots.now.entries in
    let names = map (λ name. name.now) c.new.result.items in
    let begun = subst (λ names. Sees spans c.args.layer c.args.id names c.all.result.0 (Some c.args.id)) (sym (ap (map (λ name. name.now)) c.new.ensures.items))
    (Sees_none spans c.args.layer c.args.id c.all.result.0 c.all.ensures (ap is_some c.requires.found)) in
    Sees_turn c.args.slots.now.entries c.args.layer c.args.id c.args.id c.args.span.now names (map (λ name. name.now) c.look.new.self.names.items) c.all.result.0 c.look.new.self.same.0 (Some c.args.id) c.requires.forest begun refl c.requires.found c.in_ok-look.ensures.name c.in_ok-look.ensures.same

pub up-smaller : goal.up-smaller
up-smaller c =
    (Gathers_turn c.args.slots.now.entries c.args.layer c.args.id c.in-Some.at c.in-Some-get.span.now (map (λ name. name.now) c.up.seen.names.items) (map (λ name. name.now) c.look-in-Some.new.self.names.items) c.up.next c.requires.forest c.up.invariant.gathers c.in-Some.is (node_found c.args.slots.now.entries c.in-Some.at c.in-Some-get.span.now (sym c.get.ensures ∙ ap option_copied c.in-Some-get.is)) c.in_ok-look-2.ensures.name).smaller

pub up-preserved : goal.up-preserved
up-preserved c =
    Sees_turn c.args.slots.now.entries c.args.layer c.args.id c.in-Some.at c.in-Some-get.span.now (map (λ name. name.now) c.up.seen.names.items) (map (λ name. name.now) c.look-in-Some.new.self.names.items) c.up.seen.same.0 c.look-in-Some.new.self.same.0 c.up.next c.requires.forest c.up.invariant c.in-Some.is (node_found c.args.slots.now.entries c.in-Some.at c.in-Some-get.span.now (sym c.get.ensures ∙ ap option_copied c.in-Some-get.is)) c.in_ok-look-2.ensures.name c.in_ok-look-2.ensures.same
