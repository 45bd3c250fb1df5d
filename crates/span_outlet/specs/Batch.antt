-- A batch: what one accepted call puts out.
use Rattle.std.specs.Prelude.{List, map}
use Rattle.span_layers.specs.Note.{PlainNote, plain_note}
use Rattle.span_outlet.specs.declared.batch.Batch.{Batch}
use Rattle.span_outlet.specs.Request.{Request, Answer, request_of, answer_of}

-- the call, its answer, and the notes that the layers are told, with texts as bytes
pub record PlainBatch : Type 0 where
  pub request : Request
  pub answer : Answer
  pub notes : List PlainNote

-- a batch with its texts as bytes
abbrev pub plain_batch : Batch → PlainBatch
plain_batch batch =
    record { request = request_of batch.call; answer = answer_of batch.reply; notes = map plain_note batch.notes.items }
