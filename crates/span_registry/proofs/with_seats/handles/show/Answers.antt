use Rattle.span_forest.specs.declared.span.Holder.TheVariants.{Handle}
use Rattle.span_forest.proofs.Nodes.{held_open}
use Rattle.span_registry.proofs.Seats.{span_is_held, seated_back, joined_opens, shown_is}
use Rattle.span_registry.proofs.with_seats.handles.show.Goals as goal

pub split-requires : goal.split-requires
split-requires g c = joined_opens c.args.root.now c.join.new.self _ _ c.join.ensures.root c.join.ensures.is_open

pub returns-clause-seated : goal.returns-clause-seated
returns-clause-seated g c = seated_back c.args.core.now c.args.root.now c.join.new.self c.take_seat.result c.handle.inside.id c.requires.seated c.join.ensures.in_set (shown_is c.take_seat.ensures c.handle.invariant.0) c.join.ensures.root _ c.split.ensures.root

pub returns-clause-held : goal.returns-clause-held
returns-clause-held g c = rw (← c.handle.view_is) (span_is_held c.args.core.now c.args.root.now c.join.new.self c.take_seat.result c.handle.inside.id c.requires.seated c.join.ensures.in_set (shown_is c.take_seat.ensures c.handle.invariant.0) c.join.ensures.root)

pub returns-clause-slot : goal.returns-clause-slot
returns-clause-slot g c =
    let held = span_is_held c.args.core.now c.args.root.now c.join.new.self c.take_seat.result c.handle.inside.id c.requires.seated c.join.ensures.in_set (shown_is c.take_seat.ensures c.handle.invariant.0) c.join.ensures.root in
    rw (← c.handle.view_is) (λ other is same. c.each_slot_has_one_open_span.ensures.one_slot other c.handle.inside.id is (held_open c.args.core.now.world.spans c.handle.inside.id Handle held) same)
