use Rattle.std.proofs.Common.{sym, ap, ◌∙◌}
use Rattle.span_seats.proofs.Moves.{joins_at, looks_at}
use Rattle.span_seats.proofs.root.RootSeat.join.Goals as goal

pub join_seat-requires : goal.join_seat-requires
join_seat-requires g c =
    let i = c.self.invariant in
    let h = c.handle.invariant in
    (i.1 ∙ sym i.0, h.0 ∙ sym i.0, ap (λ m. m.1) h.1, i.2, joins_at _ _ _ _ i.4 (ap (λ m. m.0.is_handle) h.1))

pub load-requires : goal.load-requires
load-requires g c =
    let i = c.self.invariant in
    let j = c.join_seat.ensures in
    (j.0 ∙ i.1 ∙ sym i.0, i.2, looks_at _ _ _ _ (j.1 ∙ i.4))
