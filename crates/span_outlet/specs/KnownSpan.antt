-- A new span without its notes.
use Rattle.std.specs.Prelude.{List, map}
use Rattle.span_id.specs.Meta.{plain_meta, plain_fields}
use Rattle.span_layers.specs.declared.note.Note.{Note}
use Rattle.span_layers.specs.Note.{plain_note}
use Rattle.span_outlet.specs.declared.known_span.KnownSpan.{KnownSpan}
use Rattle.span_outlet.specs.Request.{Request, new_span, made}
use Rattle.span_outlet.specs.Batch.{PlainBatch}

-- the call that made it
abbrev pub request_of_known_span : KnownSpan → Request
request_of_known_span known =
    new_span known.worker (plain_meta known.meta.value) (plain_fields known.fields.items) known.parent

-- what it puts out where these are its notes
abbrev pub batch_of_known_span : KnownSpan → List Note → PlainBatch
batch_of_known_span known notes =
    record { request = request_of_known_span known; answer = made known.id; notes = map plain_note notes }
