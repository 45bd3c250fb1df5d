use Rattle.std.proofs.Common.{◌≤◌, drop, take, rules}
use Rattle.span_ffi.specs.Data.{IsEvent, said_meta, said_fields, said_parent, behind_meta}
use Rattle.span_ffi.proofs.Read.{tells_as_read}
use Rattle.span_ffi.proofs.Told.{tells_as_said}
use Rattle.span_ffi.proofs.exports.events.event.Goals as goal

pub returns-in-Some-recall_meta : goal.returns-in-Some-recall_meta
returns-in-Some-recall_meta c =
    let a = c.args in
    let behind = behind_meta a.meta.now a.texts.now in
    let Says = IsEvent a.meta.now a.message_len a.fields.now a.texts.now in
    let kind_is : a.parent_kind ≤ 2 = search rules in
    tells_as_said a.worker (said_meta a.meta.now a.texts.now) (take a.message_len behind) (said_fields a.fields.now (drop a.message_len behind)) a.core.now c.tell.new.core
    Says ((a.parent_kind ≤ 2) × Says) c.in-Some.parent (said_parent a.parent_kind a.parent) c.in-Some.ensures.parent
    (λ says. (kind_is, says)) (λ says. says.1) c.tell.result
    (tells_as_read a.worker a.meta.now a.message_len a.fields.now a.texts.now c.in-Some.parent a.core.now c.tell.result c.tell.new.core
    c.in-Some-recall_meta.meta c.in-Some-recall_meta.rest.now c.in-Some-recall_meta.ensures.is c.in-Some-recall_meta.ensures.meta c.in-Some-recall_meta.ensures.behind (rw c.recall_meta.ensures.same at c.tell.ensures.told))
