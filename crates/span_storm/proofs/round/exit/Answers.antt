use Rattle.std.proofs.Common.{refl, ap}
use Rattle.std.proofs.lemmas.Result.{err_from_is_err_and}
use Rattle.span_outlet.specs.Request.{exit}
use Rattle.span_registry.specs.Worker.{WorkerView}
use Rattle.span_storm.proofs.Refusing.{is_sent, one_more_made, refused_call}
use Rattle.span_storm.proofs.round.exit.Goals as goal

pub returns-in_err-exit-clause-stopped : goal.returns-in_err-exit-clause-stopped
returns-in_err-exit-clause-stopped g c =
    let handed_on = err_from_is_err_and c.from_residual-in_err-exit.result c.from_residual-in_err-exit.ensures.1 in
    rw (handed_on.1, handed_on.2) (refused_call _ _ _ _ (λ core. exit c.args.worker.now.number c.id.result) _ c.in_ok-ask.ensures.own c.requires.rounds.0 c.in_err-exit.ensures.unchanged (λ core. (refl, c.requires.place)) (c.in_err-exit.ensures.was_refused))

pub returns-clause-rounds : goal.returns-clause-rounds
returns-clause-rounds g c = one_more_made _ _ _ _ _ c.in_ok-ask.ensures.own c.requires.rounds.0 c.in_ok-exit.ensures.happened (ap (λ (worker : WorkerView). worker.number) c.in_ok-exit.ensures.worker) (λ old new is. is_sent _ _ old new _ _ (refl, c.requires.place) is)
