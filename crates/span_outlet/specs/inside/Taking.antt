-- The taking of the batch that stands first in a ring, as the code keeps it: no public clause cites it.
use Rattle.std.specs.Prelude.{ℕ, ◌≡◌, List, [], ◌∷◌, ◌++◌, map}
use Rattle.std.specs.List.{enumerate_from}
use Rattle.span_layers.specs.declared.form.Form.{Form}
use Rattle.span_layers.specs.declared.note.Note.{Note}
use Rattle.span_layers.specs.Note.{PlainNote}
use Rattle.span_outlet.specs.declared.posted.Posted.{Posted}
use Rattle.span_outlet.specs.declared.line.Line.{Line}
use Rattle.span_outlet.specs.Lines.{plain_line}
use Rattle.span_outlet.specs.Kept.{GainsLines, NumberedNote, numbered_in}
use Rattle.span_outlet.specs.Posted.{plain_posted}

-- the notes of a batch with this number
abbrev pub numbered_notes : ℕ → List PlainNote → List NumberedNote
numbered_notes batch notes = map (λ note. record { batch = batch; place = note.0; note = note.1 }) (enumerate_from 0 notes)

-- the batch that stood first was taken, and its notes, which are these, were told, as those of the batch of this number
pub record TakesFirst
    (forms : List Form) (number : ℕ) (taken standing now left : List Posted)
    (lines : List Line) (missed : ℕ) (after : List Line) (more : ℕ) (notes : List Note)
    : Type 0 where
  pub batch : Posted
  pub moved : now ≡ taken ++ batch ∷ []
  pub stood : standing ≡ batch ∷ left
  pub brought : batch.notes.items ≡ notes
  pub gains : GainsLines forms (numbered_in number (plain_posted batch)) (map plain_line lines) missed (map plain_line after) more
