-- What a contract sees of a line reader, of its parts: no public clause cites it.
use Rattle.std.specs.Prelude.{◌≡◌, ℕ, List, map, slice_get, All, Some, IsSomeAnd}
use Rattle.span_layers.specs.declared.form.Form.{Form}
use Rattle.span_layers.specs.declared.note.Note.{Note}
use Rattle.span_layers.specs.Note.{PlainNote, plain_note}
use Rattle.span_outlet.specs.declared.posted.Posted.{Posted}
use Rattle.span_outlet.specs.declared.line.Line.{Line}
use Rattle.span_outlet.specs.Batch.{PlainBatch}
use Rattle.span_outlet.specs.Lines.{PlainLine, plain_line, line_of}
use Rattle.span_outlet.specs.Outlet.{RingName}
use Rattle.span_outlet.specs.LineReader.{LineReaderView}
use Rattle.span_outlet.specs.Posted.{plain_posted}

-- the looks, the batches that it took, the lines that it gave out, and those that wait, in order
abbrev pub reader_view : RingName → ℕ → List Form → List Posted → List PlainLine → List Line → ℕ → LineReaderView
reader_view name looks forms taken given waiting missed =
    record {
      name = name;
      looks = looks;
      forms = forms;
      taken = map plain_posted taken;
      given = given;
      waiting = map plain_line waiting;
      missed = missed;
    }

-- the line is of a batch with these notes, and of the note at its place
abbrev pub HasItsNote : List Form → List PlainBatch → List PlainNote → PlainLine → Type 0
HasItsNote forms taken notes line =
    IsSomeAnd (slice_get taken line.batch) (λ batch. batch.notes ≡ notes)
    × IsSomeAnd (slice_get notes line.place) (λ note. line_of forms line.batch (line.place, note) ≡ Some line)

-- the notes that are kept are those of the batch of each of these lines
abbrev pub HaveNotes : List Form → List Posted → List Note → List Line → Type 0
HaveNotes forms taken notes lines =
    All (HasItsNote forms (map plain_posted taken) (map plain_note notes)) (map plain_line lines)
