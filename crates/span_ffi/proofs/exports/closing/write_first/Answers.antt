use Rattle.span_ffi.proofs.Firsts.{first_written}
use Rattle.span_ffi.proofs.exports.closing.write_first.Goals as goal

pub returns : goal.returns
returns c =
    first_written c.args.ids.now c.first_of-first.result.now c.args.into.now c.write_ids.new.into c.write_ids.new.len c.write_ids.result
    c.first_of-first.ensures c.write_ids.ensures
