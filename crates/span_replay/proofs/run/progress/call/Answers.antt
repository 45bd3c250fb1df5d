use Rattle.std.proofs.Common.{refl}
use Rattle.std.proofs.lemmas.Result.{err_from_is_err_and}
use Rattle.span_script.specs.Operation.{running}
use Rattle.span_replay.proofs.Callings.{is_call, call_ran, call_failed, read_stops}
use Rattle.span_replay.proofs.run.progress.call.Goals as goal

pub returns-in_err-operation-clause-err : goal.returns-in_err-operation-clause-err
returns-in_err-operation-clause-err g c =
    let p = err_from_is_err_and c.from_residual.result c.from_residual.ensures.1 in
    rw (p.1, p.2) (λ hooks. read_stops hooks _ _ _ _ refl c.requires.workers c.in_err-operation.ensures.meant)

pub run-requires-clause-call : goal.run-requires-clause-call
run-requires-clause-call g c = is_call _ _ _ c.in_ok-operation.ensures.meant

pub returns-clause-turned : goal.returns-clause-turned
returns-clause-turned g c = call_ran _ _ _ _ _ _ _ _ refl refl c.requires.workers c.in_ok-operation.ensures.meant c.clear.ensures.items (λ hooks. c.run.ensures.turn hooks running)

pub returns-clause-err : goal.returns-clause-err
returns-clause-err g c = call_failed _ _ _ _ _ _ _ _ refl c.requires.workers c.in_ok-operation.ensures.meant (λ hooks. c.run.ensures.turn hooks running)
