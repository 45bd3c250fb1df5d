-- The lines of a history.
use Rattle.std.specs.Prelude.{ℕ, ◌==◌, Bool, List, flat_map, filter, Option, slice_get}
use Rattle.std.specs.List.{enumerate_from, filter_map}
use Rattle.std.specs.Option.{option_map}
use Rattle.span_layers.specs.declared.form.Form.{Form}
use Rattle.span_layers.specs.Note.{PlainNote}
use Rattle.span_layers.specs.Text.{text_of}
use Rattle.span_outlet.specs.declared.line.Line.{Line}
use Rattle.span_outlet.specs.Batch.{PlainBatch}

-- the number of the batch, the place of the note in it, both from 0, the layer, and the text in that layer's form
pub record PlainLine : Type 0 where
  pub batch : ℕ
  pub place : ℕ
  pub layer : ℕ
  pub text : List ℕ

-- a line with its text as bytes
abbrev pub plain_line : Line → PlainLine
plain_line line = record { batch = line.batch; place = line.place; layer = line.layer; text = line.text.items }

-- the line of a note, where its layer has a form
abbrev pub line_of : List Form → ℕ → ℕ × PlainNote → Option PlainLine
line_of forms batch note =
    option_map (λ form. record { batch = batch; place = note.0; layer = note.1.layer; text = text_of form note.1 })
    (slice_get forms note.1.layer)

-- the lines of a batch with this number
abbrev pub lines_of_batch : List Form → ℕ × PlainBatch → List PlainLine
lines_of_batch forms batch = filter_map (line_of forms batch.0) (enumerate_from 0 batch.1.notes)

-- the lines of a history: for each batch, and in it for each note, in that order
abbrev pub lines_of : List Form → List PlainBatch → List PlainLine
lines_of forms history = flat_map (lines_of_batch forms) (enumerate_from 0 history)

-- those lines that a layer wrote, in order
abbrev pub lines_of_layer : ℕ → List PlainLine → List PlainLine
lines_of_layer layer lines = filter (λ line. line.layer == layer) lines

-- An outlet that writes lines: the forms in which it writes, the batches that were sent to it, the lines that it has, how
-- many notes were missed, and whether it is ready for one more batch. A `Kept` has the lines of all notes, a `Latest` those
-- of the last batch.
pub record LinesView : Type 0 where
  pub forms : List Form
  pub sent : List PlainBatch
  pub lines : List PlainLine
  pub missed : ℕ
  pub ready : Bool
