use Rattle.std.proofs.Common.{◌≡◌, ◌≤◌, Some, drop, take, rules}
use Rattle.std.specs.Prelude.{slice_get}
use Rattle.span_outlet.specs.Request.{event, told}
use Rattle.span_ffi.specs.Calls.{AnswersData}
use Rattle.span_ffi.specs.Data.{IsEventAt, said_fields, said_parent}
use Rattle.span_ffi.proofs.Found.{at_found}
use Rattle.span_ffi.proofs.Told.{tells_as_said}
use Rattle.span_ffi.proofs.exports.events.tell_at.Goals as goal

pub returns-in-Some-read_parent : goal.returns-in-Some-read_parent
returns-in-Some-read_parent c =
    let a = c.args in
    let Says = IsEventAt a.message_len a.fields.now a.texts.now in
    let message = take a.message_len a.texts.now in
    let said = said_fields a.fields.now (drop a.message_len a.texts.now) in
    let kind_is : a.parent_kind ≤ 2 = search rules in
    let found : slice_get a.callsites.now a.callsite ≡ Some c.in-Some.meta.now = search rules in
    at_found a.worker
    (λ meta. AnswersData a.worker ((a.parent_kind ≤ 2) × Says) (event a.worker meta message said (said_parent a.parent_kind a.parent)) told)
    c.in-Some.meta.now a.core.now c.tell.new.core (λ lacks. lacks) (λ never. never.1) _ c.tell.result found
    (tells_as_said a.worker c.in-Some.meta.now message said a.core.now c.tell.new.core
    Says ((a.parent_kind ≤ 2) × Says) c.in-Some-read_parent.parent (said_parent a.parent_kind a.parent) c.in-Some-read_parent.ensures.parent
    (λ says. (kind_is, says)) (λ says. says.1) c.tell.result c.tell.ensures.told)
