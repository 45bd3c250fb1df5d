use Rattle.std.proofs.Common.{◌∙◌}
use Rattle.span_core.proofs.Deciding.{handle_from}
use Rattle.span_registry.proofs.Seats.{span_is_held, seated_back, seated_cloned, seated_refused, never_unknown, joined_opens, given_opens, joined_id, given_id, shown_is}
use Rattle.span_registry.proofs.Totals.{counted_of}
use Rattle.std.proofs.lemmas.Result.{err_from_is_err_and}
use Rattle.span_registry.proofs.with_seats.handles.clone_span.Goals as goal

pub split-requires : goal.split-requires
split-requires g c = joined_opens c.args.root.now c.join.new.self _ _ c.join.ensures.root c.join.ensures.is_open

pub split-requires-2 : goal.split-requires-2
split-requires-2 g c =
    given_opens c.join.new.self c.split.new.self c.split.ensures.root (joined_opens c.args.root.now c.join.new.self _ _ c.join.ensures.root c.join.ensures.is_open)

pub returns-clause-seated : goal.returns-clause-seated
returns-clause-seated g c =
    seated_cloned c.args.core.now c.args.root.now c.join.new.self c.take_seat.result c.handle.inside.id c.requires.seated c.join.ensures.in_set (shown_is c.take_seat.ensures c.handle.invariant.0) c.join.ensures.root _ _ _ _ c.split.ensures.root c.split-2.ensures.root c.in_ok-made.ensures.accepted

pub returns-clause-done : goal.returns-clause-done
returns-clause-done g c =
    let id = c.split-2.ensures.id ∙ given_id c.join.new.self c.split.new.self c.split.ensures.root ∙ joined_id c.args.root.now c.join.new.self _ _ c.join.ensures.root ∙ shown_is c.take_seat.ensures c.handle.invariant.0 in
    rw (← c.handle.view_is) (counted_of _ _ _ _ c.what_was_sent_is_legal.ensures.legal c.what_was_sent_is_legal-2.ensures.legal c.what_was_sent_is_legal-2.ensures.fits c.in_ok-made.ensures.accepted, id)

pub returns-in_err-made-clause-seated : goal.returns-in_err-made-clause-seated
returns-in_err-made-clause-seated g c =
    seated_refused _ _ _ _ _ c.in_err-made.ensures.refused (seated_back c.args.core.now c.args.root.now c.join.new.self c.take_seat.result c.handle.inside.id c.requires.seated c.join.ensures.in_set (shown_is c.take_seat.ensures c.handle.invariant.0) c.join.ensures.root _ c.split.ensures.root)

pub returns-in_err-made-clause-done : goal.returns-in_err-made-clause-done
returns-in_err-made-clause-done g c =
    let known = handle_from c.args.core.now.world.spans c.handle.inside.id (span_is_held c.args.core.now c.args.root.now c.join.new.self c.take_seat.result c.handle.inside.id c.requires.seated c.join.ensures.in_set (shown_is c.take_seat.ensures c.handle.invariant.0) c.join.ensures.root) in
    let handed_on = err_from_is_err_and c.from_residual.result c.from_residual.ensures.1 in
    rw (handed_on.1, handed_on.2, ← c.handle.view_is) (record { refused = c.in_err-made.ensures.refused; never_unknown = never_unknown _ _ _ _ known c.in_err-made.ensures.refused })
