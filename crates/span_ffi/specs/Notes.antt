-- What the call does that gives a note out in place of its line.
use Rattle.std.specs.Prelude.{◌≡◌, ℕ, ◌≤◌, true, false, List, [], ◌∷◌, ◌++◌, length, map, slice_get, Some, None, Option, IsSomeAnd}
use Rattle.span_id.specs.declared.fault.Fault.TheVariants.{CountFull}
use Rattle.span_id.specs.Level.{verbosity}
use Rattle.span_id.specs.Meta.{KeyValue}
use Rattle.span_layers.specs.declared.note.Kind.{Kind}
use Rattle.span_layers.specs.declared.note.Kind.TheVariants.{OnNew, OnRecord, OnEvent, OnEnter, OnExit, OnClose}
use Rattle.span_layers.specs.Note.{EventText, PlainNote}
use Rattle.span_outlet.specs.Lines.{PlainLine}
use Rattle.span_outlet.specs.LineReader.{LineReaderView, IsNoteOf}
use Rattle.span_border.specs.declared.status.Status.{Status}
use Rattle.span_border.specs.declared.status.Status.TheVariants.{Done, Refused, NoLine, ShortBuffer}
use Rattle.span_ffi.specs.declared.data.SpanNote.{SpanNote}
use Rattle.span_ffi.specs.declared.data.SpanField.{SpanField}
use Rattle.span_ffi.specs.Details.{packed, texts_fit_in_c, field_lengths, Filling, FillsWith}
use Rattle.span_ffi.specs.Lines.{Fills}

-- the number of a kind
abbrev pub kind_number : Kind → ℕ
kind_number OnNew = 0
kind_number OnRecord = 1
kind_number OnEvent = 2
kind_number OnEnter = 3
kind_number OnExit = 4
kind_number OnClose = 5

-- an event's level as a number, 0 of another note
abbrev pub level_number : Option EventText → ℕ
level_number None = 0
level_number (Some event) = verbosity event.level

-- an event's message, nothing of another note
abbrev pub message_in : Option EventText → List ℕ
message_in None = []
message_in (Some event) = event.message

-- a note of the batch of this number, in numbers
abbrev pub note_numbers : ℕ → PlainNote → SpanNote
note_numbers batch note = record {
  batch = batch;
  id = note.id;
  layer = note.layer;
  kind = kind_number note.kind;
  worker = note.worker;
  level = level_number note.event;
  path_len = length note.path;
  message_len = length (message_in note.event);
}

-- the texts of a note in pairs: its path and its message, and then each key and its value
abbrev pub note_pairs : PlainNote → List KeyValue
note_pairs note = (note.path, message_in note.event) ∷ note.fields

-- what is told of a note: its numbers, how long the key and the value of each field are, and its texts one after another;
-- or only its numbers, and how many fields and bytes these are, where a buffer is too short for them; or nothing, where a
-- number is too small
abbrev pub AnswersNote : ℕ → PlainNote → SpanNote → Filling SpanField → Filling ℕ → Status → Type 0
AnswersNote batch note told fields bytes Done =
    (texts_fit_in_c (note_pairs note) ≡ true) × (told ≡ note_numbers batch note)
    × FillsWith (map field_lengths note.fields) fields × FillsWith (packed (note_pairs note)) bytes
AnswersNote batch note told fields bytes ShortBuffer =
    (texts_fit_in_c (note_pairs note) ≡ true) × (told ≡ note_numbers batch note)
    × (fields.len ≡ length note.fields) × (bytes.len ≡ length (packed (note_pairs note)))
    × ((length note.fields ≤ length fields.old) × (length (packed (note_pairs note)) ≤ length bytes.old) → ⊥)
AnswersNote batch note told fields bytes (Refused CountFull) = texts_fit_in_c (note_pairs note) ≡ false
AnswersNote batch note told fields bytes _ = ⊥

-- the note of this line is told
abbrev pub AnswersNoteOf : LineReaderView → PlainLine → SpanNote → Filling SpanField → Filling ℕ → Status → Type 0
AnswersNoteOf view line told fields bytes status =
    (note : PlainNote) × IsNoteOf view line note × AnswersNote line.batch note told fields bytes status

-- The first line that waits is given out as `GivesLine` says, but that its note is told in its place. Where that isn't
-- told whole, the line stays the first one.
abbrev pub GivesNote : SpanNote → Filling SpanField → Filling ℕ → LineReaderView → Status → LineReaderView → Type 0
GivesNote told fields bytes old Done new =
    (line : PlainLine) × Fills old (record new { given = old.given; waiting = line ∷ new.waiting })
    × (new.given ≡ old.given ++ line ∷ []) × AnswersNoteOf new line told fields bytes Done
GivesNote told fields bytes old NoLine new = Fills old new × (new.waiting ≡ [])
GivesNote told fields bytes old status new =
    Fills old new × IsSomeAnd (slice_get new.waiting 0) (λ line. AnswersNoteOf new line told fields bytes status)
