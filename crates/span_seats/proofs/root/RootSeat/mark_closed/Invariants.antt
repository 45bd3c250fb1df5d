use Rattle.span_seats.proofs.Closing.{Closed}
use Rattle.span_seats.proofs.root.RootSeat.mark_closed.Given as goal

abbrev pub invariant-loop-id : goal.invariant-loop-id
invariant-loop-id g l = Closed l.initial.self l.closed l.id-index l.self
