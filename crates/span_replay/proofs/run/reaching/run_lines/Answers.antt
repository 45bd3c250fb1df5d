use Rattle.std.proofs.Common.{rules, arith, refl, sym, drop_of_length-le}
use Rattle.span_replay.proofs.Reachings.{skipped_reached, why_more, why_ends, why_fails, knows}
use Rattle.span_replay.proofs.run.reaching.run_lines.Goals as goal

pub loop-rest-init : goal.loop-rest-init
loop-rest-init g c = record { meant = λ hooks about. refl; written = c.requires.written; place = c.requires.place }

pub loop-rest-preserved-then-is_skipped : goal.loop-rest-preserved-then-is_skipped
loop-rest-preserved-then-is_skipped g c =
    let before = c.loop-rest.invariant in
    let shorter = c.cut_line.ensures.shorter in
    record {
      meant = λ hooks about. why_more hooks _ about _ _ _ _ c.cut_line.result.0.now c.cut_line.result.1.now (before.meant hooks about) c.cut_line.ensures.line
          (skipped_reached hooks _ _ c.cut_line.result.0.now (sym c.if-is_skipped.ensures));
      written = before.written;
      place = let place = before.place in omega (arith, place, shorter);
    }

pub loop-rest-preserved : goal.loop-rest-preserved
loop-rest-preserved g c =
    let before = c.loop-rest.invariant in
    let shorter = c.cut_line.ensures.shorter in
    record {
      meant = λ hooks about. why_more hooks _ about _ _ _ _ c.cut_line.result.0.now c.cut_line.result.1.now (before.meant hooks about) c.cut_line.ensures.line (c.in_default.ensures.turned hooks);
      written = c.in_default.ensures.written;
      place = let place = before.place in omega (arith, place, shorter);
    }

pub returns-in-Err-clause-err : goal.returns-in-Err-clause-err
returns-in-Err-clause-err g c = λ hooks about.
    why_fails hooks _ about _ _ _ _ c.cut_line.result.0.now c.cut_line.result.1.now _ _ (c.loop-rest.invariant.meant hooks about) c.cut_line.ensures.line (c.in-Err.ensures.err hooks) c.at_line.ensures

pub returns-clause-ended : goal.returns-clause-ended
returns-clause-ended g c = λ hooks about. why_ends hooks _ about _ _ _ (c.loop-rest.invariant.meant hooks about) (drop_of_length-le c.loop-rest.rest.now {i = 0} (search rules))

pub returns-in-Err-clause-known : goal.returns-in-Err-clause-known
returns-in-Err-clause-known g c = knows _ _ _ _ _ _ _ _ (c.in-Err.ensures.err 0) c.at_line.ensures c.in-Err.ensures.workers c.loop-rest.invariant.written.workers
