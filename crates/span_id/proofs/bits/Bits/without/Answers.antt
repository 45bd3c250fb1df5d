use Rattle.std.proofs.Common.{arith}
use Rattle.span_id.proofs.Masks.{has_bit-without}
use Rattle.span_id.proofs.bits.Bits.without.Goals as goal

pub returns : goal.returns
returns c = λ layer. has_bit-without c.args.self.0 c.args.other.0 layer (omega arith)
