use Rattle.std.proofs.Common.{◌++◌, ◌∙◌, ap, arith}
use Rattle.span_layers.proofs.Texts.{run_more, run_ends}
use Rattle.span_layers.proofs.compact.push_runs.Goals as goal
use Rattle.span_layers.proofs.compact.push_runs.Goals.{in-Some+in_ok-push+in_ok-push-2, in_default}

pub loop-at-preserved : goal.loop-at-preserved
loop-at-preserved c =
    let bytes = c.args.bytes.now in
    let written = c.loop-at.sheet.text in
    let start = c.loop-at.start in
    let at = c.loop-at.at in
    elim c.match-escape_of.branch [
      | in-Some+in_ok-push+in_ok-push-2 w ↦
          (let ends = run_ends written bytes start at w.in-Some.escape.now c.loop-at-test.true w.in-Some.ensures in
          record {
            in_range = rw w.start-is (omega arith);
            before = rw w.sheet-is (w.in_ok-push-2.ensures.0 ∙ w.in_ok-push.ensures.0 ∙ c.loop-at.invariant.before);
            so_far = rw (w.start-is, w.sheet-is, w.in_ok-push-2.ensures.1, w.in_ok-push.ensures.1, w.as_bytes.ensures.value) (ends ∙ c.loop-at.invariant.so_far);
          })
      | in_default w ↦
          (let more = run_more bytes start at c.loop-at.invariant.in_range c.loop-at-test.true w.in_default.ensures in
          record {
            in_range = rw w.start-is (omega arith);
            before = rw w.sheet-is c.loop-at.invariant.before;
            so_far = rw (w.start-is, w.sheet-is) (ap (λ rest. written ++ rest) more ∙ c.loop-at.invariant.so_far);
          })
    ]
