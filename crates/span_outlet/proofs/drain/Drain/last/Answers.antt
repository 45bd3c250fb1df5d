use Rattle.std.proofs.Common.{◌∷◌, [], length, map, ap, ◌∙◌, arith}
use Rattle.rtrb.specs.Ring.{received}
use Rattle.std.proofs.lemmas.List.{map-append}
use Rattle.span_outlet.specs.Posted.{plain_posted}
use Rattle.span_outlet.proofs.Keeping.{kept_more, batch_kept}
use Rattle.span_outlet.proofs.Draining.{moved_on, prefix_more}
use Rattle.span_outlet.proofs.drain.Drain.last.Goals as goal

pub loop-preserved : goal.loop-preserved
loop-preserved g c =
    let kept = c.loop.invariant in
    let told = c.take_first.ensures in
    let next = told.first in
    let fewer = ap length next.stood in
    record {
      name = told.name ∙ kept.name;
      forms = told.forms ∙ kept.forms;
      number = told.number;
      kept = batch_kept plain_posted _ _ _ _ next.batch _ _ _ told.forms kept.number next.moved (kept_more _ _ _ _ _ _ _ kept.kept next.gains);
      fifo = moved_on _ _ _ _ next.batch _ next.moved next.stood kept.fifo;
      standing = omega (arith, fewer, kept.standing);
      before = prefix_more _ _ _ _ kept.before (ap (map plain_posted) next.moved ∙ map-append plain_posted (received c.loop.consumer) (next.batch ∷ []));
      first = prefix_more _ _ _ _ kept.first next.gains.lines_are;
    }
