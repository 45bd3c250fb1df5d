use Rattle.std.proofs.Common.{ap, ◌∙◌}
use Rattle.std.specs.Prelude.{is_some}
use Rattle.span_forest.proofs.Nodes.{open_at, copied_some}
use Rattle.span_forest.proofs.holders.is_open.Goals as goal

pub returns : goal.returns
returns c = open_at c.args.slots.now.entries c.args.id c.is_some.result (c.is_some.ensures ∙ (copied_some c.get.result ∙ ap is_some c.get.ensures))
