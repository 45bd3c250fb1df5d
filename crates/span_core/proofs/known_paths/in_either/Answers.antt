use Rattle.span_core.proofs.LayerSets.{in_one}
use Rattle.span_core.proofs.known_paths.in_either.Goals as goal

pub returns : goal.returns
returns c = in_one c.args.one.0 c.args.other.0
