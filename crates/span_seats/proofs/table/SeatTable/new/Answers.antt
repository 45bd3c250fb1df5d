use Rattle.std.proofs.Common.{◌≡◌, replicate, ◌∙◌}
use Rattle.span_seats.proofs.Moves.{begins}
use Rattle.span_seats.proofs.table.SeatTable.new.Goals as goal

pub of_words-requires : goal.of_words-requires
of_words-requires c =
    let same : c.as_slice.result.now ≡ replicate c.args.slots 0 = c.as_slice.ensures.value ∙ c.in_ok-zeros.ensures.items_if_clones_equal (λ y e. e) in
    rw (same, c.from.ensures) (begins c.args.slots)
