use Rattle.std.proofs.Common.{rules}
use Rattle.span_outlet.specs.Batch.{plain_batch}
use Rattle.span_outlet.proofs.Keeping.{nothing_kept}
use Rattle.span_outlet.proofs.kept.Kept+Formatters+F.new.Goals as goal

pub invariant_of-result-2 : goal.invariant_of-result-2
invariant_of-result-2 g c = (nothing_kept plain_batch c.args.formatting.forms c.new.result.items c.new-2.result.items c.new.ensures.items c.new-2.ensures.items, search rules)
