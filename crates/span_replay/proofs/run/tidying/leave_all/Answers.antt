use Rattle.std.proofs.Common.{◌≡◌, ◌-◌, ◌∙◌, ℕ, refl, arith}
use Rattle.std.proofs.lemmas.Result.{err_from_is_err_and}
use Rattle.std.specs.List.{range_with_len}
use Rattle.span_core.specs.Core.{CoreView}
use Rattle.span_replay.specs.inside.Turns.{ArePartlyMade}
use Rattle.span_replay.specs.Written.{exits, each_written}
use Rattle.span_run.proofs.Fronts.{Known}
use Rattle.span_replay.proofs.Tidied.{part_none, each_made, each_fails, each_ends, one_worker, no_worker}
use Rattle.span_replay.proofs.Flushes.{fails_from}
use Rattle.span_replay.proofs.run.tidying.leave_all.Goals as goal

none_left_yet : (a : Known) (core : CoreView) (workers : ℕ) → ArePartlyMade a a (each_written exits core (range_with_len 0 workers)) (each_written exits core (range_with_len 0 (workers - 0)))
none_left_yet a core workers = let e : workers - 0 ≡ workers = omega arith in rw e (part_none a (each_written exits core (range_with_len 0 workers)))

pub loop-worker-init : goal.loop-worker-init
loop-worker-init g c = record {
  made = none_left_yet _ _ _;
  written = c.requires.written;
  labels = refl;
  workers = refl;
  failed = refl;
  flushes = refl;
}

pub returns-in_err-leave-clause-err : goal.returns-in_err-leave-clause-err
returns-in_err-leave-clause-err g c =
    let p = err_from_is_err_and c.from_residual.result c.from_residual.ensures.1 in
    rw (p.1, p.2) (each_fails exits _ _ _ _ _ _ _ _ _ c.loop-worker.invariant.made (one_worker _ _ c.loop-worker-test.true) c.in_err-leave.ensures.err)

pub loop-worker-preserved : goal.loop-worker-preserved
loop-worker-preserved g c = record {
  made = each_made exits _ _ _ _ _ _ _ _ _ c.loop-worker.invariant.made (one_worker _ _ c.loop-worker-test.true) c.in_ok-leave.ensures.made;
  written = c.in_ok-leave.ensures.written;
  labels = c.in_ok-leave.ensures.labels ∙ c.loop-worker.invariant.labels;
  workers = c.in_ok-leave.ensures.workers ∙ c.loop-worker.invariant.workers;
  failed = c.in_ok-leave.ensures.calls.0.1 ∙ c.loop-worker.invariant.failed;
  flushes = c.in_ok-leave.ensures.calls.1 ∙ c.loop-worker.invariant.flushes;
}

pub returns-clause-made : goal.returns-clause-made
returns-clause-made g c = each_ends exits _ _ _ _ _ c.loop-worker.invariant.made (no_worker _ _ c.loop-worker-test.false)

pub returns-in_err-leave-clause-calls : goal.returns-in_err-leave-clause-calls
returns-in_err-leave-clause-calls g c =
    let p = err_from_is_err_and c.from_residual.result c.from_residual.ensures.1 in
    rw (p.1, p.2) (fails_from _ _ _ _ c.loop-worker.invariant.failed c.in_err-leave.ensures.calls.0, c.in_err-leave.ensures.calls.1 ∙ c.loop-worker.invariant.flushes)
