use Rattle.span_id.proofs.Names.{in_names}
use Rattle.span_id.proofs.name_bytes.is_name_byte.Goals as goal

pub returns : goal.returns
returns c = in_names c.args.byte c.ranges.byte.fits
