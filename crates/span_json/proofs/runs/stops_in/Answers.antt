use Rattle.std.proofs.Common.{arith}
use Rattle.std.proofs.lemmas.Simd.{length-chunk}
use Rattle.span_json.proofs.PlainRuns.{stops_mask}
use lib.Lanes.{chunk}
use Rattle.span_json.proofs.runs.stops_in.Goals as goal

pub returns : goal.returns
returns c = stops_mask 16 (chunk c.args.at 16 c.args.text.now) (length-chunk c.args.at 16 c.args.text.now c.requires) (omega arith)
