use Rattle.span_id.proofs.Masks.{has_bit-and}
use Rattle.span_id.proofs.bits.Bits.and.Goals as goal

pub returns : goal.returns
returns c = has_bit-and c.args.self.0 c.args.other.0
