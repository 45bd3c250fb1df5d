use Rattle.span_registry.proofs.Within.{within_limits}
use Rattle.span_registry.proofs.books.show_limits.Goals as goal

pub returns : goal.returns
returns g c =
    let bounds = c.counts_and_calls_have_bounds.ensures in
    within_limits _ _ c.requires bounds.counts c.each_slot_has_one_open_span.ensures.in_range bounds.calls
