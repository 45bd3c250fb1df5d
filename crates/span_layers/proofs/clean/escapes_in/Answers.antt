use Rattle.span_layers.proofs.Blocks.{clean_from_block}
use Rattle.span_layers.proofs.clean.escapes_in.Goals as goal

pub returns : goal.returns
returns g c = clean_from_block c.args.text.now c.args.start g.row.N c.requires.inside c.requires.block
