use Rattle.std.proofs.Common.{sym, ap, ◌∙◌}
use Rattle.std.specs.Option.{option_copied}
use Rattle.span_forest.specs.Spans.{nodes_of}
use Rattle.span_forest.specs.Release.{without_holder}
use Rattle.span_forest.specs.inside.Chain.{without_all}
use Rattle.span_forest.proofs.Along.{Along_first, Along_turn, Along_stop, Along_root, next_is_there}
use Rattle.span_forest.proofs.closing.chain_up.Goals as goal
use Rattle.span_forest.proofs.closing.chain_up.Goals.{in-Some+in-Some-get+then-span-gt-LAST, in_default}

pub up-init : goal.up-init
up-init c =
    Along_first c.args.slots.now.entries c.args.id c.args.holder c.push.new.self.items c.args.parent c.requires.settled c.requires.held c.requires.last c.requires.parent (rw c.requires.empty at c.in_ok-push.ensures.items)

pub unreachable-requires : goal.unreachable-requires
unreachable-requires c =
    next_is_there c.args.slots.now.entries (without_holder (nodes_of c.args.slots.now.entries) c.args.id c.args.holder) c.args.id c.up.closed.items c.up.next _ c.in-Some.at c.up.invariant c.in-Some.is (sym c.get.ensures ∙ ap option_copied c.in_default-get.is)

pub up-smaller : goal.up-smaller
up-smaller c =
    let start = without_holder (nodes_of c.args.slots.now.entries) c.args.id c.args.holder in
    let t = Along_turn c.args.slots.now.entries start c.args.id c.up.closed.items c.push-in-Some.new.self.items c.up.next c.in-Some.at c.in-Some-get.span.now c.up.invariant c.in-Some.is (sym c.get.ensures ∙ ap option_copied c.in-Some-get.is) c.if-span-gt-LAST.false c.in_ok-push-2.ensures.items in
    t.smaller

pub up-preserved : goal.up-preserved
up-preserved c =
    let start = without_holder (nodes_of c.args.slots.now.entries) c.args.id c.args.holder in
    let t = Along_turn c.args.slots.now.entries start c.args.id c.up.closed.items c.push-in-Some.new.self.items c.up.next c.in-Some.at c.in-Some-get.span.now c.up.invariant c.in-Some.is (sym c.get.ensures ∙ ap option_copied c.in-Some-get.is) c.if-span-gt-LAST.false c.in_ok-push-2.ensures.items in
    t.along

pub returns : goal.returns
returns c =
    let start = without_holder (nodes_of c.args.slots.now.entries) c.args.id c.args.holder in
    elim c.match-next.branch [
      | in-Some+in-Some-get+then-span-gt-LAST w ↦ Along_stop c.args.slots.now.entries start c.args.id c.up.closed.items c.up.next w.in-Some.at w.in-Some-get.span.now (without_all start c.up.closed.items) c.up.invariant w.in-Some.is (sym w.get.ensures ∙ ap option_copied w.in-Some-get.is) w.if-span-gt-LAST.true
      | in_default w ↦ Along_root c.args.slots.now.entries start c.args.id c.up.closed.items c.up.next (without_all start c.up.closed.items) c.up.invariant w.in_default.is
    ]
