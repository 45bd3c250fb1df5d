use Rattle.span_outlet.specs.Request.{enter, entered}
use Rattle.span_core.proofs.Deciding.{handle_from}
use Rattle.span_registry.proofs.Seats.{span_is_held, seated_back, seated_entered, seated_done, done_of, joined_opens, shown_is}
use Rattle.span_registry.proofs.with_seats.entries.enter.Goals as goal

pub split-requires : goal.split-requires
split-requires g c = joined_opens c.args.root.now c.join.new.self _ _ c.join.ensures.root c.join.ensures.is_open

pub returns-clause-seated : goal.returns-clause-seated
returns-clause-seated g c =
    seated_done c.enter-done.result c.args.core.now c.enter-done.new.self (enter c.args.worker c.handle.inside.id) entered _ (λ first accepted a. seated_entered _ _ _ _ first _ accepted a) c.enter-done.ensures.accepted c.enter-done.ensures.refused
    (seated_back c.args.core.now c.args.root.now c.join.new.self c.take_seat.result c.handle.inside.id c.requires.seated c.join.ensures.in_set (shown_is c.take_seat.ensures c.handle.invariant.0) c.join.ensures.root _ c.split.ensures.root)

pub returns-clause-done : goal.returns-clause-done
returns-clause-done g c =
    let known = handle_from c.args.core.now.world.spans c.handle.inside.id (span_is_held c.args.core.now c.args.root.now c.join.new.self c.take_seat.result c.handle.inside.id c.requires.seated c.join.ensures.in_set (shown_is c.take_seat.ensures c.handle.invariant.0) c.join.ensures.root) in
    rw (← c.handle.view_is) (done_of c.enter-done.result c.args.core.now c.enter-done.new.self (enter c.args.worker c.handle.inside.id) entered known c.what_was_sent_is_legal.ensures.legal c.what_was_sent_is_legal-2.ensures.legal c.what_was_sent_is_legal-2.ensures.fits c.enter-done.ensures.accepted c.enter-done.ensures.refused)
