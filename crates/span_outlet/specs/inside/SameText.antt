-- Texts that are known, as the code keeps them: no public clause cites it.
use Rattle.std.specs.Prelude.{◌≡◌, ◌-◌, ℕ, List, IsSomeAnd, length, slice_get}
use Rattle.span_layers.specs.declared.form.Form.{Form}
use Rattle.span_layers.specs.declared.note.Note.{Note}
use Rattle.span_layers.specs.Note.{plain_note}
use Rattle.span_layers.specs.Text.{text_of}
use Rattle.span_outlet.specs.declared.line.Line.{Line}

-- this is the text of the note in its layer's form
abbrev pub IsTextOf : List Form → Note → List ℕ → Type 0
IsTextOf forms note text = IsSomeAnd (slice_get forms note.layer) (λ form. text ≡ text_of form (plain_note note))

-- the last line has the text of the note
abbrev pub EndsWithTextOf : List Form → List Line → Note → Type 0
EndsWithTextOf forms lines note =
    IsSomeAnd (slice_get lines (length lines - 1)) (λ line. IsTextOf forms note line.text.items)
