use Rattle.span_layers.proofs.Blocks.{escaped_on_clean}
use Rattle.span_layers.proofs.clean.is_clean.Goals as goal

pub returns : goal.returns
returns c = escaped_on_clean c.has_no_escapes.result c.args.text.now c.has_no_escapes.ensures
