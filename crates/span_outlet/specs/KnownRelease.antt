-- A handle given back, without its notes.
use Rattle.std.specs.Prelude.{List, map}
use Rattle.span_layers.specs.declared.note.Note.{Note}
use Rattle.span_layers.specs.Note.{plain_note}
use Rattle.span_outlet.specs.declared.known_release.KnownRelease.{KnownRelease}
use Rattle.span_outlet.specs.Request.{Request, Answer, try_close, released}
use Rattle.span_outlet.specs.Batch.{PlainBatch}

-- the call that gave it back
abbrev pub request_of_known_release : KnownRelease → Request
request_of_known_release known = try_close known.worker known.id

-- the answer: the spans that closed
abbrev pub answer_of_known_release : KnownRelease → Answer
answer_of_known_release known = released known.closed.items

-- what it puts out where these are its notes
abbrev pub batch_of_known_release : KnownRelease → List Note → PlainBatch
batch_of_known_release known notes =
    record { request = request_of_known_release known; answer = answer_of_known_release known; notes = map plain_note notes }
