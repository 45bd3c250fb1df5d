use Rattle.std.proofs.Common.{rules, arith, refl, ap, sym, ◌∙◌, [], length, drop_of_length-le}
use Rattle.std.proofs.lemmas.Result.{err_from_is_err_and}
use Rattle.span_replay.proofs.LineTurns.{empty_line, skipped_line, stop_fails, turn_begun, turn_written}
use Rattle.span_replay.proofs.Written.{sent_none, loop_more, loop_fails, loop_ends}
use Rattle.span_replay.proofs.Flushes.{fails_from}
use Rattle.span_replay.proofs.run.replay.run_lines.Goals as goal

pub loop-lines-init : goal.loop-lines-init
loop-lines-init g c = record {
  sent = λ hooks has. sent_none _ _;
  ready = c.requires.ready;
  hooks = λ hooks has. has;
  failed = refl;
  flushes = refl;
  place = let fits = c.requires.fits in omega (arith, fits);
}

pub loop-lines-preserved-in-Some : goal.loop-lines-preserved-in-Some
loop-lines-preserved-in-Some g c =
    let before = c.loop-lines.invariant in
    let first = c.in-Some.ensures.some in
    record {
      sent = λ hooks has. loop_more hooks _ _ _ _ _ _ _ _ [] c.in-Some.tail.now (before.sent hooks has) (empty_line _ _ first)
          (skipped_line hooks _ [] _ refl);
      ready = before.ready;
      hooks = before.hooks;
      failed = before.failed;
      flushes = before.flushes;
      place = let place = before.place in let longer = ap length first in omega (arith, place, longer);
    }

pub loop-lines-preserved-then-is_skipped : goal.loop-lines-preserved-then-is_skipped
loop-lines-preserved-then-is_skipped g c =
    let before = c.loop-lines.invariant in
    let shorter = c.cut_line.ensures.shorter in
    record {
      sent = λ hooks has. loop_more hooks _ _ _ _ _ _ _ _ c.cut_line.result.0.now c.cut_line.result.1.now (before.sent hooks has) c.cut_line.ensures.line
          (skipped_line hooks _ c.cut_line.result.0.now _ (sym c.if-is_skipped.ensures));
      ready = before.ready;
      hooks = before.hooks;
      failed = before.failed;
      flushes = before.flushes;
      place = let place = before.place in omega (arith, place, shorter);
    }

pub loop-lines-preserved : goal.loop-lines-preserved
loop-lines-preserved g c =
    let before = c.loop-lines.invariant in
    let shorter = c.cut_line.ensures.shorter in
    record {
      sent = λ hooks has. loop_more hooks _ _ _ _ _ _ _ _ c.cut_line.result.0.now c.cut_line.result.1.now (before.sent hooks has) c.cut_line.ensures.line
          (turn_written _ _ _ _ _ _ _ refl (c.in_default-step.ensures.turned hooks (before.hooks hooks has)) c.as_slice.ensures.value c.in_ok-send.ensures.ok);
      ready = c.in_default-step.ensures.ready;
      hooks = λ hooks has. c.in_default-step.ensures.hooks hooks (before.hooks hooks has);
      failed = c.in_ok-send.ensures.calls.0.1 ∙ before.failed;
      flushes = c.in_ok-send.ensures.calls.1 ∙ before.flushes;
      place = let place = before.place in omega (arith, place, shorter);
    }

pub returns-clause-sent : goal.returns-clause-sent
returns-clause-sent g c = λ hooks has. loop_ends hooks _ _ _ _ _ _ (c.loop-lines.invariant.sent hooks has) (drop_of_length-le c.loop-lines.lines.now {i = 0} (search rules))

-- ---- a line ended the run

pub returns-in-Err-clause-err : goal.returns-in-Err-clause-err
returns-in-Err-clause-err g c = λ hooks has.
    let before = c.loop-lines.invariant in
    loop_fails hooks _ _ _ _ _ _ _ c.cut_line.result.0.now c.cut_line.result.1.now _ (before.sent hooks has) c.cut_line.ensures.line
    (stop_fails _ _ _ _ _ (c.in-Err.ensures.err hooks (before.hooks hooks has)) c.at_line.ensures)

-- ---- the writer ended it

pub returns-in_err-send-clause-err : goal.returns-in_err-send-clause-err
returns-in_err-send-clause-err g c =
    let p = err_from_is_err_and c.from_residual.result c.from_residual.ensures.1 in
    let before = c.loop-lines.invariant in
    rw (p.1, p.2) (λ hooks has. loop_fails hooks _ _ _ _ _ _ _ c.cut_line.result.0.now c.cut_line.result.1.now _ (before.sent hooks has) c.cut_line.ensures.line
    (turn_begun _ _ _ _ _ _ _ _ _ refl (c.in_default-step.ensures.turned hooks (before.hooks hooks has)) c.as_slice.ensures.value c.in_err-send.ensures.device c.in_err-send.ensures.front))

pub returns-in_err-send-clause-calls : goal.returns-in_err-send-clause-calls
returns-in_err-send-clause-calls g c =
    let p = err_from_is_err_and c.from_residual.result c.from_residual.ensures.1 in
    rw (p.1, p.2) (fails_from _ _ _ _ c.loop-lines.invariant.failed c.in_err-send.ensures.calls.0, c.in_err-send.ensures.calls.1 ∙ c.loop-lines.invariant.flushes)
