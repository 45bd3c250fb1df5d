use Rattle.std.proofs.Common.{rules}
use Rattle.rtrb.specs.Ring.{received}
use Rattle.span_outlet.specs.Posted.{plain_posted}
use Rattle.span_outlet.proofs.Keeping.{nothing_kept}
use Rattle.span_outlet.proofs.drain.Drain+Formatters+F.new.Goals as goal

pub invariant_of-result-2 : goal.invariant_of-result-2
invariant_of-result-2 g c = (nothing_kept plain_posted c.args.formatting.forms (received c.tap.inside.consumer) c.new.result.items c.tap.invariant c.new.ensures.items, search rules)
