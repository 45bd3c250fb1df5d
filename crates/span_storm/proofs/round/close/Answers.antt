use Rattle.std.proofs.Common.{refl, ap}
use Rattle.span_outlet.specs.Request.{try_close}
use Rattle.span_registry.specs.Worker.{WorkerView}
use Rattle.span_storm.proofs.Refusing.{is_sent, one_more_made, refused_call}
use Rattle.span_storm.proofs.round.close.Goals as goal

pub returns-in-Err-clause-stopped : goal.returns-in-Err-clause-stopped
returns-in-Err-clause-stopped g c = refused_call _ _ _ _ (λ core. try_close c.args.worker.now.number _) c.in-Err.field-0.fault c.in_ok-ask.ensures.own c.requires.rounds.0 c.in-Err.ensures.unchanged (λ core. (refl, c.requires.place)) (c.in-Err.ensures.was_refused)

pub returns-in-Ok-clause-rounds : goal.returns-in-Ok-clause-rounds
returns-in-Ok-clause-rounds g c = one_more_made _ _ _ _ _ c.in_ok-ask.ensures.own c.requires.rounds.0 c.in-Ok.ensures.happened (ap (λ (worker : WorkerView). worker.number) c.in-Ok.ensures.worker) (λ old new is. is_sent _ _ old new _ _ (refl, c.requires.place) is)
