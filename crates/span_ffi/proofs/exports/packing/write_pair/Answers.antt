use Rattle.span_ffi.proofs.Packing.{writes_then}
use Rattle.span_ffi.proofs.exports.packing.write_pair.Goals as goal

pub returns-clause-written : goal.returns-clause-written
returns-clause-written c =
    writes_then c.args.first.now c.args.second.now c.args.into.now c.write_text-behind.new.into c.write_text.new.into c.args.at c.write_text-behind.result c.write_text.result
    c.write_text-behind.ensures.written c.write_text.ensures.written
