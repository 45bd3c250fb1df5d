use Rattle.std.proofs.Common.{refl, ap}
use Rattle.std.proofs.lemmas.Result.{err_from_is_err_and}
use Rattle.span_outlet.specs.Request.{enter}
use Rattle.span_registry.specs.Worker.{WorkerView}
use Rattle.span_storm.proofs.Refusing.{is_sent, one_more_made, refused_call}
use Rattle.span_storm.proofs.round.enter.Goals as goal

pub returns-in_err-enter-clause-stopped : goal.returns-in_err-enter-clause-stopped
returns-in_err-enter-clause-stopped g c =
    let handed_on = err_from_is_err_and c.from_residual-in_err-enter.result c.from_residual-in_err-enter.ensures.1 in
    rw (handed_on.1, handed_on.2) (refused_call _ _ _ _ (λ core. enter c.args.worker.now.number c.args.handle.now.id) _ c.in_ok-ask.ensures.own c.requires.rounds.0 c.in_err-enter.ensures.unchanged (λ core. (refl, c.requires.place)) (c.in_err-enter.ensures.was_refused))

pub returns-clause-rounds : goal.returns-clause-rounds
returns-clause-rounds g c = one_more_made _ _ _ _ _ c.in_ok-ask.ensures.own c.requires.rounds.0 c.in_ok-enter.ensures.happened (ap (λ (worker : WorkerView). worker.number) c.in_ok-enter.ensures.worker) (λ old new is. is_sent _ _ old new _ _ (refl, c.requires.place) is)
