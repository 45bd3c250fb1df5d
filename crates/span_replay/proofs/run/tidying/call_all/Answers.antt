use Rattle.std.proofs.Common.{◌∙◌, refl}
use Rattle.std.proofs.lemmas.Result.{err_from_is_err_and}
use Rattle.span_replay.proofs.Tidied.{part_none, one_made, one_fails, none_left, next_call, no_call}
use Rattle.span_replay.proofs.Flushes.{fails_from}
use Rattle.span_replay.proofs.run.tidying.call_all.Goals as goal

pub loop-id-init : goal.loop-id-init
loop-id-init g c = record { made = part_none _ _; written = c.requires.written; labels = refl; workers = refl; failed = refl; flushes = refl }

pub returns-in_err-call_one-clause-err : goal.returns-in_err-call_one-clause-err
returns-in_err-call_one-clause-err g c =
    let p = err_from_is_err_and c.from_residual.result c.from_residual.ensures.1 in
    rw (p.1, p.2) (one_fails _ _ _ _ _ _ _ _ _ c.loop-id.invariant.made (next_call _ _ _ _ c.loop-id-test.true c.id-item.is) c.in_err-call_one.ensures.err)

pub loop-id-preserved : goal.loop-id-preserved
loop-id-preserved g c =
    let before = c.loop-id.invariant in
    let called = c.in_ok-call_one.ensures in
    record {
      made = one_made _ _ _ _ _ _ _ _ _ before.made (next_call _ _ _ _ c.loop-id-test.true c.id-item.is) called.made;
      written = called.written;
      labels = called.labels ∙ before.labels;
      workers = called.workers ∙ before.workers;
      failed = called.calls.0.1 ∙ before.failed;
      flushes = called.calls.1 ∙ before.flushes;
    }

pub returns-clause-made : goal.returns-clause-made
returns-clause-made g c = none_left _ _ _ _ _ c.loop-id.invariant.made (no_call _ _ _ c.loop-id-test.false)

pub returns-in_err-call_one-clause-calls : goal.returns-in_err-call_one-clause-calls
returns-in_err-call_one-clause-calls g c =
    let p = err_from_is_err_and c.from_residual.result c.from_residual.ensures.1 in
    rw (p.1, p.2) (fails_from _ _ _ _ c.loop-id.invariant.failed c.in_err-call_one.ensures.calls.0, c.in_err-call_one.ensures.calls.1 ∙ c.loop-id.invariant.flushes)
