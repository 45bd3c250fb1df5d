use Rattle.std.proofs.Common.{ap}
use Rattle.std.proofs.lemmas.Result.{err_from_is_err_and}
use Rattle.span_replay.proofs.Setups.{line_sets_up, setup_lacks, setup_told, setup_stops}
use Rattle.span_replay.proofs.run.setup.Setup.run.Goals as goal

pub returns-in_err-operation-clause-err : goal.returns-in_err-operation-clause-err
returns-in_err-operation-clause-err g c =
    let p = err_from_is_err_and c.from_residual.result c.from_residual.ensures.1 in
    rw (p.1, p.2) (setup_stops _ _ _ _ _ (ap (λ limits. limits.workers) c.limits.ensures.value) c.in_err-operation.ensures.meant)

pub obey-requires : goal.obey-requires
obey-requires g c = line_sets_up _ _ _ _ c.requires c.in_ok-operation.ensures.meant

pub returns-clause-ok : goal.returns-clause-ok
returns-clause-ok g c =
    setup_told _ _ _ _ _ _ _ _ _ _ c.requires (ap (λ limits. limits.workers) c.limits.ensures.value) c.in_ok-operation.ensures.meant c.in_ok-answer.ensures.ok c.clear.ensures.items c.write_answer.ensures.text

pub returns-clause-err : goal.returns-clause-err
returns-clause-err g c = setup_lacks _ _ _ _ c.write_answer.ensures.memory
