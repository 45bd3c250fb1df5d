use Rattle.std.proofs.Common.{take}
use Rattle.span_seats.proofs.Closing.{has_item, closed_round, length-closed}
use Rattle.span_seats.proofs.root.RootSeat.mark_closed.Goals as goal

pub store-requires-clause-slot : goal.store-requires-clause-slot
store-requires-clause-slot g c =
    let lt = (c.requires _ (has_item c.args.closed.now c.loop-id.id-index c.id-item.result c.loop-id-test.true c.id-item.is)).0 in
    rw (c.slot.ensures.value, c.loop-id.invariant.2, length-closed c.args.self.now.words (take c.loop-id.id-index c.args.closed.now)) lt

pub store-requires-clause-free : goal.store-requires-clause-free
store-requires-clause-free g c =
    rw (c.slot.ensures.value, c.loop-id.invariant.0) (c.requires _ (has_item c.args.closed.now c.loop-id.id-index c.id-item.result c.loop-id-test.true c.id-item.is)).1

pub loop-id-preserved : goal.loop-id-preserved
loop-id-preserved g c =
    closed_round c.args.self.now c.args.closed.now c.loop-id.id-index c.id-item.result c.slot.result c.loop-id.self c.store.new.self c.loop-id-test.true c.id-item.is c.slot.ensures.value c.loop-id.invariant c.store.ensures
