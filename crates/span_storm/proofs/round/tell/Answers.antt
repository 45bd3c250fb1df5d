use Rattle.std.proofs.Common.{rules, refl, ap}
use Rattle.std.proofs.lemmas.Result.{err_from_is_err_and}
use Rattle.span_id.specs.Meta.{plain_meta}
use Rattle.span_outlet.specs.Request.{event}
use Rattle.span_registry.specs.Worker.{WorkerView}
use Rattle.span_storm.proofs.Refusing.{is_sent, one_more_made, refused_call}
use Rattle.span_storm.proofs.round.tell.Goals as goal

pub returns-in_err-event-clause-stopped : goal.returns-in_err-event-clause-stopped
returns-in_err-event-clause-stopped g c =
    let handed_on = err_from_is_err_and c.from_residual-in_err-event.result c.from_residual-in_err-event.ensures.1 in
    rw (handed_on.1, handed_on.2) (refused_call _ _ _ _ (λ core. event c.args.worker.now.number (plain_meta c.args.meta.now) _ _ _) _ c.in_ok-ask.ensures.own c.requires.rounds.0 c.in_err-event.ensures.unchanged (λ core. (refl, c.requires.place, c.requires.meta, search rules, search rules, refl)) (c.in_err-event.ensures.was_refused))

pub returns-clause-rounds : goal.returns-clause-rounds
returns-clause-rounds g c = one_more_made _ _ _ _ _ c.in_ok-ask.ensures.own c.requires.rounds.0 c.in_ok-event.ensures.happened (ap (λ (worker : WorkerView). worker.number) c.in_ok-event.ensures.worker) (λ old new is. is_sent _ _ old new _ _ (refl, c.requires.place, c.requires.meta, search rules, search rules, refl) is)
