use Rattle.std.proofs.Common.{rules}
use Rattle.span_ffi.specs.Calls.{HasWorker}
use Rattle.span_ffi.specs.Data.{IsSpan, said_meta, said_fields, behind_meta}
use Rattle.span_ffi.proofs.Alike.{makes_as_read}
use Rattle.span_ffi.proofs.exports.spans.make_span.Goals as goal

pub returns-in-Some-read_span-clause-made : goal.returns-in-Some-read_span-clause-made
returns-in-Some-read_span-clause-made c =
    let within : HasWorker c.args.core.now c.args.worker = search rules in
    let says : IsSpan c.args.parent_kind c.args.meta.now c.args.fields.now c.args.texts.now = search rules in
    makes_as_read c.args.worker c.args.parent_kind c.args.parent _
    (said_meta c.args.meta.now c.args.texts.now) (said_fields c.args.fields.now (behind_meta c.args.meta.now c.args.texts.now))
    c.new_span.new.id c.args.core.now c.new_span.result c.new_span.new.core
    _ _ c.in-Some.parent within says (search rules) (search rules) c.in-Some.ensures.parent (rw c.read_span.ensures.same at c.new_span.ensures.made)
