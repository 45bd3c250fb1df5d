-- What a caller asks for, and what an accepted call answers, with texts as bytes.
use Rattle.std.specs.Prelude.{ℕ, Bool, List, Option}
use Rattle.std.specs.Arc.{arc_str_bytes}
use Rattle.span_id.specs.Meta.{PlainMeta, KeyValue}
use Rattle.span_outlet.specs.declared.batch.ParentOf.{ParentOf}
use Rattle.span_outlet.specs.declared.batch.Call.{Call}
use Rattle.span_outlet.specs.declared.batch.Call.TheVariants.{NewSpan, CloneSpan, Enter, Exit, TryClose, RecordFields, Event}
use Rattle.span_outlet.specs.declared.batch.Reply.{Reply}
use Rattle.span_outlet.specs.declared.batch.Reply.TheVariants.{Made, Cloned, Entered, Exited, Released, Recorded, Told}

-- a call with its arguments; the first is the worker that calls. A new span's parent is the one that was found, an
-- event's the one that was asked for, since its layers may find different ones.
pub data Request : Type 0 where
  new_span : ℕ → PlainMeta → List KeyValue → Option ℕ → Request
  clone_span : ℕ → ℕ → Request
  enter : ℕ → ℕ → Request
  exit : ℕ → ℕ → Request
  try_close : ℕ → ℕ → Request
  record_fields : ℕ → ℕ → List KeyValue → Request
  event : ℕ → PlainMeta → List ℕ → List KeyValue → ParentOf → Request

-- the new id; whether the entry is no duplicate; the spans that closed, child first
pub data Answer : Type 0 where
  made : ℕ → Answer
  cloned : Answer
  entered : Bool → Answer
  exited : List ℕ → Answer
  released : List ℕ → Answer
  recorded : Answer
  told : Answer

-- a call with its texts as bytes
abbrev pub request_of : Call → Request
request_of (NewSpan worker meta fields parent) = new_span worker meta fields parent
request_of (CloneSpan worker id) = clone_span worker id
request_of (Enter worker id) = enter worker id
request_of (Exit worker id) = exit worker id
request_of (TryClose worker id) = try_close worker id
request_of (RecordFields worker id fields) = record_fields worker id fields
request_of (Event worker meta message fields parent) = event worker meta (arc_str_bytes message) fields parent

-- a reply, with the closed spans as a list of ids
abbrev pub answer_of : Reply → Answer
answer_of (Made id) = made id
answer_of Cloned = cloned
answer_of (Entered first) = entered first
answer_of (Exited closed) = exited closed.items
answer_of (Released closed) = released closed.items
answer_of Recorded = recorded
answer_of Told = told

-- the worker that calls
abbrev pub worker_of : Request → ℕ
worker_of (new_span worker meta fields parent) = worker
worker_of (clone_span worker id) = worker
worker_of (enter worker id) = worker
worker_of (exit worker id) = worker
worker_of (try_close worker id) = worker
worker_of (record_fields worker id fields) = worker
worker_of (event worker meta message fields parent) = worker
