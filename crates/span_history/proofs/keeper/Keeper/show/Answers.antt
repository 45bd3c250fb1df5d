use Rattle.std.proofs.Common.{sym, ap, ◌∙◌}
use Rattle.span_history.proofs.Moves.{joins_at, looks_at, gives_at}
use Rattle.span_history.proofs.keeper.Keeper.show.Goals as goal

pub join_seat-requires : goal.join_seat-requires
join_seat-requires g c =
    let i = c.self.invariant in
    let h = c.front.invariant in
    (i.1 ∙ sym i.0, h.0 ∙ sym i.0, h.1, i.2, joins_at _ _ _ _ i.3 h.2)

pub load-requires : goal.load-requires
load-requires g c =
    let i = c.self.invariant in
    let j = c.join_seat.ensures in
    (j.0 ∙ i.1 ∙ sym i.0, i.2, looks_at _ _ _ _ (j.1 ∙ i.3))

pub split_seat-shown-requires : goal.split_seat-shown-requires
split_seat-shown-requires g c =
    let i = c.self.invariant in
    let j = c.join_seat.ensures in
    let l = c.load.ensures in
    (l.0 ∙ j.0 ∙ i.1 ∙ sym i.0, i.2, gives_at _ _ (l.1 ∙ j.1 ∙ i.3) (ap (λ m. m.0.has) (l.2.0 ∙ j.2)))
