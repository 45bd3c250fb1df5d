use Rattle.std.proofs.Common.{◌≡◌, Some, rules}
use Rattle.std.specs.Prelude.{slice_get}
use Rattle.span_ffi.specs.Calls.{HasWorker, MakesAsked, span_asked}
use Rattle.span_ffi.specs.Data.{IsSpanAt, said_fields}
use Rattle.span_ffi.proofs.Alike.{makes_as_read}
use Rattle.span_ffi.proofs.Found.{at_found}
use Rattle.span_ffi.proofs.exports.spans.make_span_at.Goals as goal

pub returns-in-Some-read_span_fields-clause-made : goal.returns-in-Some-read_span_fields-clause-made
returns-in-Some-read_span_fields-clause-made c =
    let a = c.args in
    let Says = IsSpanAt a.parent_kind a.fields.now a.texts.now in
    let said = said_fields a.fields.now a.texts.now in
    let within : HasWorker a.core.now a.worker = search rules in
    let says : IsSpanAt a.parent_kind a.fields.now a.texts.now = search rules in
    let found : slice_get a.callsites.now a.callsite ≡ Some c.in-Some.meta.now = search rules in
    at_found a.worker
    (λ meta old. MakesAsked a.worker Says (span_asked a.worker a.parent_kind a.parent meta said old) c.new_span.new.id old)
    c.in-Some.meta.now a.core.now c.new_span.new.core (λ lacks. lacks) (λ never. never.2) _ c.new_span.result found
    (makes_as_read a.worker a.parent_kind a.parent Says c.in-Some.meta.now said c.new_span.new.id a.core.now c.new_span.result c.new_span.new.core
    _ _ c.in-Some-read_parent.parent within says (search rules) (search rules) c.in-Some-read_parent.ensures.parent (rw c.read_span_fields.ensures.same at c.new_span.ensures.made))
