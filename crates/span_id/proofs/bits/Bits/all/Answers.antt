use Rattle.span_id.proofs.Masks.{has_bit-all}
use Rattle.span_id.proofs.bits.Bits.all.Goals as goal

pub returns : goal.returns
returns c = has_bit-all
