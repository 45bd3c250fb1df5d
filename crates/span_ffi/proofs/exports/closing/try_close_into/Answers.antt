use Rattle.std.proofs.Common.{ℕ, List}
use Rattle.span_ffi.specs.declared.exports.closing.ClosedIds.{ClosedIds}
use Rattle.span_ffi.specs.Closing.{WritesFirst}
use Rattle.span_ffi.proofs.Firsts.{kept_part, shown_between, some_where_none}
use Rattle.span_ffi.proofs.exports.closing.try_close_into.Goals as goal

pub returns-in-Ok-clause-same_buffer : goal.returns-in-Ok-clause-same_buffer
returns-in-Ok-clause-same_buffer c =
    let shown = c.in-Ok.ensures.shown in
    kept_part (λ (closed : ClosedIds). closed.into.ghost_name) _ _ _ _ shown.lent_is shown.left_is shown.called.0

pub returns-in-Ok-clause-told : goal.returns-in-Ok-clause-told
returns-in-Ok-clause-told c =
    let shown = c.in-Ok.ensures.shown in
    let first = shown_between (λ (ids : List ℕ) (old new : ClosedIds). WritesFirst ids old.into.now new.into.now new.len)
    _ _ _ _ _ _ shown.list_is shown.lent_is shown.left_is shown.called.1 in
    (first, some_where_none _ _ _ first.1 (c.the_named_span_closes_first.ensures.try_close _ _ _ _ c.in-Ok.ensures.accepted))
