-- What a caller gave for a new span or an event, for the functions inside this crate: no public clause
-- cites it.
use Rattle.std.specs.Prelude.{ℕ, List}
use Rattle.span_forest.specs.Spans.{Spans}
use Rattle.span_id.specs.Meta.{KeyValue}
use Rattle.span_layers.specs.Note.{PlainNote}
use Rattle.span_core.specs.declared.given.GivenEvent.{GivenEvent}
use Rattle.span_core.specs.declared.notes.events.Event.{Event}
use Rattle.span_core.specs.declared.notes.new_spans.NewSpan.{NewSpan}
use Rattle.span_core.specs.inside.Sound.{first_note}
use Rattle.span_core.specs.inside.Given.{meta_given, fields_given, text_given}
use Rattle.span_outlet.specs.Request.{Request, new_span, event}
use Rattle.span_core.specs.Parent.{spans_around}
use Rattle.span_core.specs.Happening.{Happening, event_at}

-- the call that makes a span with these fields
abbrev pub span_request : NewSpan → List KeyValue → Request
span_request new fields = new_span new.worker (meta_given new.meta) fields new.parent

-- what a layer is told of it, before it is there
abbrev pub first_note_of : Spans → NewSpan → List KeyValue → ℕ → PlainNote
first_note_of spans new fields layer =
    first_note spans new.worker new.id new.parent (meta_given new.meta).name fields layer

-- the call that tells what this worker gave
abbrev pub given_event : ℕ → GivenEvent → Request
given_event worker given =
    event worker (meta_given given.meta) (text_given given.message) (fields_given given.fields) given.parent

-- the call that tells an event
abbrev pub event_request : Event → Request
event_request told = given_event told.worker told.given.now

-- an event that is told by a worker with this stack, as the layers see it
abbrev pub event_seen : Spans → List ℕ → Event → Happening
event_seen spans stack told =
    event_at spans (spans_around stack told.given.now.parent) told.bits.0 (meta_given told.given.now.meta).level
    (text_given told.given.now.message) (fields_given told.given.now.fields)
