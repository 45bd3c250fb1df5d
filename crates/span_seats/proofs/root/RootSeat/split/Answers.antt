use Rattle.std.proofs.Common.{sym, ◌∙◌}
use Rattle.span_seats.specs.RootView.{IsOpenIn}
use Rattle.span_seats.proofs.Moves.{splits_at}
use Rattle.span_seats.proofs.root.RootSeat.split.Goals as goal

pub split_seat-seat-requires : goal.split_seat-seat-requires
split_seat-seat-requires g c =
    let i = c.self.invariant in
    let opens : IsOpenIn c.self.inside.seat.me.0.root.words c.self.inside.seat.me.0.root.split_id = rw c.self.view_is c.requires in
    (i.1 ∙ sym i.0, i.2, splits_at _ _ i.4 opens)
