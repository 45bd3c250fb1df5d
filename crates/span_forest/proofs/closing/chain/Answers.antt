use Rattle.std.proofs.Common.{◌<◌, subst}
use Rattle.span_forest.specs.Spans.{nodes_of}
use Rattle.span_forest.proofs.Along.{Chain_none}
use Rattle.span_forest.proofs.closing.chain.Goals as goal

pub returns-then-count-gt-LAST : goal.returns-then-count-gt-LAST
returns-then-count-gt-LAST c =
    Chain_none (nodes_of c.args.slots.now.entries) c.args.id c.args.holder c.args.empty.items c.requires.held (subst (λ n. 1 < n) c.requires.count c.if-count-gt-LAST.true) c.requires.empty
