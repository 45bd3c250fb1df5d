use Rattle.std.proofs.Common.{sym, ◌∙◌}
use Rattle.span_history.proofs.Moves.{enrolls_at}
use Rattle.span_history.proofs.keeper.Keeper.enroll.Goals as goal

pub split_seat-seat-requires : goal.split_seat-seat-requires
split_seat-seat-requires g c =
    let i = c.self.invariant in
    (i.1 ∙ sym i.0, i.2, enrolls_at _ _ i.3 i.5)
