-- The calls that a script's operations make.
use Rattle.std.specs.Prelude.{ℕ, Option}
use Rattle.span_outlet.specs.Request as call
use Rattle.span_outlet.specs.declared.batch.ParentOf.TheVariants.{Current}
use Rattle.span_script.specs.Operation.{NewSpan, NewEvent}
use Rattle.span_script.specs.declared.operations.SpanCall.{SpanCall}
use Rattle.span_script.specs.declared.operations.SpanCall.TheVariants.{Clone, Close, Enter, Exit}

-- a worker's call on a span
abbrev pub request_of_call : SpanCall → ℕ → ℕ → call.Request
request_of_call Clone worker id = call.clone_span worker id
request_of_call Close worker id = call.try_close worker id
request_of_call Enter worker id = call.enter worker id
request_of_call Exit worker id = call.exit worker id

-- a new span under the parent that was found
abbrev pub request_of_new : NewSpan → Option ℕ → call.Request
request_of_new new parent =
    call.new_span new.worker (record { name = new.name; target = new.target; level = new.level }) new.fields parent

-- an event, under the worker's current span
abbrev pub request_of_event : NewEvent → call.Request
request_of_event event =
    call.event event.worker (record { name = event.name; target = event.target; level = event.level }) event.message
    event.fields Current
