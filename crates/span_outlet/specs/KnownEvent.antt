-- An event without its notes.
use Rattle.std.specs.Prelude.{List, map}
use Rattle.span_id.specs.Meta.{plain_meta, plain_fields}
use Rattle.span_layers.specs.declared.note.Note.{Note}
use Rattle.span_layers.specs.Note.{plain_note}
use Rattle.span_outlet.specs.declared.known_event.KnownEvent.{KnownEvent}
use Rattle.span_outlet.specs.Request.{Request, event, told}
use Rattle.span_outlet.specs.Batch.{PlainBatch}

-- the call that told it
abbrev pub request_of_known : KnownEvent → Request
request_of_known known =
    event known.worker (plain_meta known.meta.value) known.message.items (plain_fields known.fields.items) known.parent

-- what it puts out where these are its notes
abbrev pub batch_of_known : KnownEvent → List Note → PlainBatch
batch_of_known known notes =
    record { request = request_of_known known; answer = told; notes = map plain_note notes }
