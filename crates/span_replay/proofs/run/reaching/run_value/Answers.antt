use Rattle.std.proofs.Common.{refl}
use Rattle.std.proofs.lemmas.Result.{err_from_is_err_and}
use Rattle.span_replay.proofs.Callings.{is_call, read_stops}
use Rattle.span_replay.proofs.Reachings.{halts_here, value_reached, value_halts}
use Rattle.span_replay.proofs.run.reaching.run_value.Goals as goal

pub run_operation-requires-clause-call : goal.run_operation-requires-clause-call
run_operation-requires-clause-call g c = is_call _ _ _ c.in_ok-operation.ensures.meant

pub returns-clause-turned : goal.returns-clause-turned
returns-clause-turned g c = value_reached _ _ _ _ _ _ _ refl refl c.requires.written.workers c.in_ok-operation.ensures.meant c.run_operation.ensures.turned

pub returns-clause-err : goal.returns-clause-err
returns-clause-err g c = value_halts _ _ _ _ _ _ refl c.requires.written.workers c.in_ok-operation.ensures.meant c.run_operation.ensures.err

pub returns-in_err-operation-clause-err : goal.returns-in_err-operation-clause-err
returns-in_err-operation-clause-err g c =
    let p = err_from_is_err_and c.from_residual.result c.from_residual.ensures.1 in
    rw (p.1, p.2) (λ hooks. halts_here _ _ _ (read_stops hooks _ _ _ _ refl c.requires.written.workers c.in_err-operation.ensures.meant))
