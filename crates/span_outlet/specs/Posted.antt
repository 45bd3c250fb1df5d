-- A batch as a ring has it.
use Rattle.std.specs.Prelude.{map}
use Rattle.span_layers.specs.Note.{plain_note}
use Rattle.span_outlet.specs.declared.posted.Posted.{Posted}
use Rattle.span_outlet.specs.declared.posted.Said.{Said}
use Rattle.span_outlet.specs.declared.posted.Said.TheVariants.{Call, Event, Span, Release}
use Rattle.span_outlet.specs.Batch.{PlainBatch}
use Rattle.span_outlet.specs.KnownEvent.{request_of_known}
use Rattle.span_outlet.specs.KnownSpan.{request_of_known_span}
use Rattle.span_outlet.specs.KnownRelease.{request_of_known_release, answer_of_known_release}
use Rattle.span_outlet.specs.Request.{Request, Answer, request_of, answer_of, told, made}

-- the call
abbrev pub request_said : Said → Request
request_said (Call call reply) = request_of call.value
request_said (Event known) = request_of_known known
request_said (Span known) = request_of_known_span known
request_said (Release known) = request_of_known_release known

-- the answer to the call: to an event it is `told`, to a new span its id, to a handle given back what closed
abbrev pub answer_said : Said → Answer
answer_said (Call call reply) = answer_of reply.value
answer_said (Event known) = told
answer_said (Span known) = made known.id
answer_said (Release known) = answer_of_known_release known

-- the batch: the call, its answer, and the notes with their texts as bytes
abbrev pub plain_posted : Posted → PlainBatch
plain_posted posted =
    record { request = request_said posted.said.value; answer = answer_said posted.said.value; notes = map plain_note posted.notes.items }
